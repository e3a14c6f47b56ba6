-- A BOX THAT TAKES A LOG IN SCRAPS: its claims, proved. What is kept behind each scrap is read from the words as it was put in, so the next call goes on from it.
use Rattle.std.specs.Prelude.{ℕ, ◌≤◌, ◌<◌, ◌≡◌, true, false, get_or, Ok, Err}
use Rattle.std.proofs.Math.Path.{refl, ap}
use Rattle.std.proofs.Common.{sym, subst, ◌∙◌, inl}
use mathlib.Core.List.{List, [], ◌∷◌, ◌++◌}
use Rattle.std.proofs.Math.ListN.{length}
use Rattle.answers.specs.Results.{Outcome}
use Rattle.answers.specs.Chain.{chain_accepts}
use Rattle.text.specs.Number.{width_of}
use Rattle.plant.specs.declared.Plant.{Plant}
use Rattle.plant.specs.Check.{accepted_exactly}
use Rattle.syntax.specs.declared.Rule.{Rule}
use Rattle.checks.specs.Checks.{input_outcome}
use Rattle.checks.specs.Input.{input_accepted}
use Rattle.sides.specs.declared.Monitor.{Monitor}
use Rattle.monitor.specs.Calls.{step_call}
use Rattle.opened.specs.declared.Opened.{Opened}
use Rattle.opened.proofs.Fits.{opened_full}
use Rattle.opened.specs.Opened.{fair_in, label_in, next_in, opened_of}
use Rattle.front_door.proofs.FromLog.{behind_rule}
use Rattle.radio.specs.declared.Radio.{Radio}
use Rattle.radio.specs.Radio.{Heard, hear_all}
use Rattle.radio.specs.Kept.{radio_of, heard_by}
use Rattle.radio.proofs.Ending.{all_fine}
use Rattle.scraps.specs.Calls.{heard_answer, Took, took_by, take_outcome, take_call, finish_call}
use Rattle.scraps.specs.Laws.{take_parts, fitting}
use Rattle.cuttings.specs.Scraps.{Scrap, radio_after, said}
use Rattle.scraps_right.specs.Claims.{fresh}
use Rattle.scraps_right.proofs.FromTexts.{scraps_right_lem}
use Rattle.slate.specs.Box.{fits_in, held_in, with_monitor}
use Rattle.slate.specs.Promises.{Sets, changed, monitor_back, counted_fits}
use Rattle.radio_words.specs.Words.{radio_in, can_stand, with_radio}
use Rattle.radio_words.specs.Promises.{Sendable, others_stay, words_stand}
use Rattle.radio_words.proofs.Promises.{radio_back}
use Rattle.radio_words.specs.Sends.{silent_sendable, take_sendable}
use Rattle.box_calls.specs.Calls.{held_of, box_opened}
use Rattle.box_radio.specs.Radios.{took_from, end_from, took_in, end_in, box_by, box_taken}
use Rattle.box_promises.specs.Promises.{opened_right}
use Rattle.box_scraps.specs.Claims.{box_behind, box_said, Bytes, BoxTakes, BoxRight}
use Rattle.box_scraps.specs.Front.{front_held, opened_silent, opened_stands}

-- an accepted table counts a proposition
some_props : (p : Plant) (fair label next : List ℕ) (rule : Rule) → input_outcome p fair label next rule ≡ Ok tt → 1 ≤ p.props
unfolding input_outcome
some_props p fair label next rule ok = ((accepted_exactly p fair label next).0 ((chain_accepts _ _).0 ok).0).1.some_props

-- what was taken, in whole or up to a refused event or byte, is stored
taken_stored : (o : Outcome) (n : ℕ) (new old : List ℕ) → box_by (heard_answer o n) new old ≡ new
taken_stored (Ok _) n new old = refl
taken_stored (Err r) n new old = refl

module _ (table rule : List ℕ) (ok : (opened_of table rule).outcome ≡ Ok tt) where
  abbrev o : Opened
  o = opened_of table rule

  abbrev P : Plant
  P = o.table.plant

  abbrev call : Radio → Scrap → Took
  call r s = take_call P (fair_in o.table) (label_in o.table) (next_in o.table) o.rule o.live r s.bytes s.room

  -- the box holds what was opened, with the radio r
  record Keeps (w : List ℕ) (r : Radio) : Type 0 where
    held : held_in w ≡ changed (held_of o) r.monitor
    radio : radio_in w r.monitor ≡ r
    stand : can_stand w ≡ true
    sends : Sendable r

  took_is : (w : List ℕ) (r : Radio) → Keeps w r → (s : Scrap) → took_in w s.bytes s.room ≡ call r s
  unfolding took_from
  took_is w r k s = rw (k.held, k.radio, k.stand) refl

  end_is : (w : List ℕ) (r : Radio) → Keeps w r → end_in w ≡ finish_call P (fair_in o.table) (label_in o.table) (next_in o.table) o.rule o.live r
  unfolding end_from
  end_is w r k = rw (k.held, k.radio, k.stand) refl

  -- a scrap leaves it so
  still_keeps : (w : List ℕ) (r : Radio) → Keeps w r → (s : Scrap) → ((i : ℕ) → get_or s.bytes i 0 < 256) → Keeps (box_taken w (call r s).taken) (call r s).taken.radio
  unfolding take_call radio_of
  still_keeps w r k s small = by (take_outcome P (fair_in o.table) (label_in o.table) (next_in o.table) o.rule o.live r s.bytes s.room) refl
    where
      full : length o.rule.nodes ≡ 32
      full = opened_full table rule

      heard : Heard
      heard = hear_all (width_of P.props) (step_call P (fair_in o.table) (label_in o.table) (next_in o.table) o.rule o.live) (heard_by r []) s.bytes

      m : Monitor
      m = heard.ear.monitor

      new : Radio
      new = radio_of heard.ear

      by : (x : Outcome) → take_outcome P (fair_in o.table) (label_in o.table) (next_in o.table) o.rule o.live r s.bytes s.room ≡ x
          → Keeps (box_taken w (took_by x r heard).taken) (took_by x r heard).taken.radio
      by (Err y) e = k
      by (Ok _) e =
          let g = fitting P (fair_in o.table) (label_in o.table) (next_in o.table) o.rule o.live r
          (take_parts P (fair_in o.table) (label_in o.table) (next_in o.table) o.rule o.live r s.bytes s.room e).0 in
          let given = (input_accepted P (fair_in o.table) (label_in o.table) (next_in o.table) o.rule full).0 g.input in
          let fine = all_fine P (fair_in o.table) (label_in o.table) (next_in o.table) o.rule given o.live g.lives (width_of P.props) s.bytes (heard_by r []) g.held in
          let fits : fits_in w ≡ true = counted_fits w (rw k.held (some_props P (fair_in o.table) (label_in o.table) (next_in o.table) o.rule g.input)) in
          let sets : Sets m = record { keeps = (fine.sets true).long; breaks = (fine.sets false).long } in
          let sends : Sendable new = subst (λ (x : Outcome). Sendable (took_by x r heard).taken.radio) e
          (take_sendable P (fair_in o.table) (label_in o.table) (next_in o.table) o.rule full o.live r k.sends s.bytes small s.room) in
          subst (λ (v : List ℕ). Keeps v new) (sym (taken_stored heard.ear.standing (length heard.verdicts) (with_radio (with_monitor w m) new) w))
          (record {
            held = front_held (with_radio (with_monitor w m) new) (with_monitor w m) (λ p l. others_stay (with_monitor w m) new p (inl l)) ∙ monitor_back w m fits sets
                ∙ ap (λ h. changed h m) k.held;
            radio = radio_back (with_monitor w m) new sends;
            stand = words_stand (with_monitor w m) new sends;
            sends = sends;
          })

  -- scrap after scrap
  all : (ss : List Scrap) (w : List ℕ) (r : Radio) → Keeps w r → Bytes ss
      → Keeps (box_behind w ss) (radio_after P (fair_in o.table) (label_in o.table) (next_in o.table) o.rule o.live r ss)
      × (box_said w ss ≡ said P (fair_in o.table) (label_in o.table) (next_in o.table) o.rule o.live r ss)
  unfolding box_behind box_said radio_after said
  all [] w r k small = (k, refl)
  all (s ∷ ss) w r k (b, bs) =
      let (x, y) = all ss (box_taken w (call r s).taken) (call r s).taken.radio (still_keeps w r k s b) bs in
      rw (took_is w r k s) (x, ap (λ (l : List ℕ). (call r s).verdicts ++ l) y)

  begins : (w : List ℕ) → Keeps (box_opened w o) (fresh o.monitor)
  begins w = record {
    held = opened_right table rule ok w;
    radio = rw ok (opened_silent (held_of o) o.monitor);
    stand = rw ok (opened_stands (held_of o));
    sends = silent_sendable o.monitor;
  }

-- ---- THE CLAIMS

pub box_takes : BoxTakes
box_takes table rule ok w ss small =
    let (k, writes) = all table rule ok ss (box_opened w (opened_of table rule)) (fresh (opened_of table rule).monitor) (begins table rule ok w) small in
    record {
      writes = writes;
      ends = end_is table rule ok _ _ k;
      answers = λ s. ap (λ (t : Took). t.taken.answer) (took_is table rule ok _ _ k s);
    }

pub box_right : BoxRight
box_right table rule t f table_says accepted rule_says w ss small room few =
    let opened = ap (λ (o : Opened). o.outcome) (behind_rule t accepted table table_says rule f rule_says) in
    let takes = box_takes table rule opened w ss small in
    rw (takes.writes, takes.ends) (scraps_right_lem table rule t f table_says accepted rule_says ss room few)

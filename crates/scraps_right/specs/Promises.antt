-- A LOG IN SCRAPS: the claims of the two calls, proved.
use Prim.{tt}
use Rattle.std.specs.Prelude.{ℕ, ◌+◌, ◌≤◌, ◌≡◌, Bool, true, false, leb, length, Ok, Err}
use Rattle.std.proofs.Common.{arith, ◌∙◌, length-append}
use Rattle.std.proofs.Math.Path.{refl, sym, ap}
use Rattle.std.proofs.lemmas.Bool.{false≢true}
use mathlib.Core.List.{List, [], ◌∷◌, ◌++◌, append-nil, append_assoc}
use Rattle.pairs.specs.declared.Pairs.{Pairs}
use Rattle.model.specs.Monitor as model
use Rattle.answers.specs.declared.Kind.TheVariants.{Room, LogLength}
use Rattle.answers.specs.declared.Refusal.{Refusal}
use Rattle.answers.specs.Results.{Answer}
use Rattle.answers.specs.Results.{Outcome}
use Rattle.answers.specs.Chain.{and_then, unless}
use Rattle.plant.specs.declared.Plant.{Plant}
use Rattle.syntax.specs.declared.Rule.{Rule}
use Rattle.text.specs.Number.{width_of}
use Rattle.event_log.specs.declared.Event.{Event}
use Rattle.sides.specs.declared.Monitor.{Monitor}
use Rattle.monitor.specs.Calls.{watched, step_checked, step_call}
use Rattle.radio.specs.declared.Radio.{Radio}
use Rattle.radio.specs.Radio as radio
use Rattle.radio.specs.Radio.{hear_all}
use Rattle.radio.specs.Kept.{ear_of, radio_of, heard_by as heard_from}
use Rattle.scraps.specs.Calls.{longest, lines_in, heard_answer, Took, room_outcome, kept_outcome, take_outcome, take_call, end_outcome, finish_call}
use Rattle.cuttings.specs.Scraps.{Scrap, Fine, radio_after, said, text, any_cutting}
use Rattle.scraps_right.specs.Claims.{fresh, Roomy, nothing_taken, behind, written, Given, TwoCuttings, EveryCutting, EachScrap, TakesNothing, Sticks}
use Rattle.scraps_right.specs.Texts.{end_of, text_heard}
use Rattle.scraps_right.specs.Fine.{exact_fresh, Good, good_fresh, many_kept, kept_fine, take_fine, end_fine, all_good}

-- ---- a refused step leaves the monitor

still : (p : Plant) (fair label next : List ℕ) (rule : Rule) (live : Pairs) (x : Monitor) (e : Event) (r : Refusal) → (step_call p fair label next rule live x e).answer ≡ Err r
    → (step_call p fair label next rule live x e).monitor ≡ x
unfolding step_call
still p fair label next rule live x e r = by (step_checked p fair label next rule live x e) _ _
  where
    is_shown : Answer → Bool
    is_shown (Ok l) = true
    is_shown (Err r) = false

    by : (o : Outcome) (k : ℕ) (new : model.Monitor) → (watched o x k new).answer ≡ Err r → (watched o x k new).monitor ≡ x
    by (Ok _) k new e = absurd (false≢true (sym (ap is_shown e)))
    by (Err y) k new e = refl

-- ---- lists of scraps

text_more : (ss : List Scrap) (s : Scrap) → text (ss ++ s ∷ []) ≡ text ss ++ s.bytes
unfolding text
text_more [] s = append-nil s.bytes
text_more (x ∷ ss) s = ap (λ (l : List ℕ). x.bytes ++ l) (text_more ss s) ∙ sym (append_assoc x.bytes (text ss) s.bytes)

long_more : (ss : List Scrap) (s : Scrap) → length (text (ss ++ s ∷ [])) ≡ length (text ss) + length s.bytes
long_more ss s = ap length (text_more ss s) ∙ length-append (text ss) s.bytes

room_parts : (ss : List Scrap) (s : Scrap) → Roomy (ss ++ s ∷ []) → Roomy ss × (lines_in s.bytes ≤ s.room)
room_parts [] s h = (tt, h.0)
room_parts (x ∷ ss) s h = let (a, b) = room_parts ss s h.1 in ((h.0, a), b)

module _ (p : Plant) (fair label next : List ℕ) (rule : Rule) (live : Pairs) where
  abbrev took : Radio → Scrap → Took
  took r s = take_call p fair label next rule live r s.bytes s.room

  after_more : (ss : List Scrap) (s : Scrap) (r : Radio) → radio_after p fair label next rule live r (ss ++ s ∷ []) ≡ (took (radio_after p fair label next rule live r ss) s).taken.radio
  unfolding radio_after
  after_more [] s r = refl
  after_more (x ∷ ss) s r = after_more ss s (took r x).taken.radio

  said_more : (ss : List Scrap) (s : Scrap) (r : Radio) → said p fair label next rule live r (ss ++ s ∷ []) ≡ said p fair label next rule live r ss ++ (took (radio_after p fair label next rule live r ss) s).verdicts
  unfolding radio_after said
  said_more [] s r = append-nil (took r s).verdicts
  said_more (x ∷ ss) s r =
      ap (λ (l : List ℕ). (took r x).verdicts ++ l) (said_more ss s (took r x).taken.radio)
      ∙ sym (append_assoc (took r x).verdicts (said p fair label next rule live (took r x).taken.radio ss) (took (radio_after p fair label next rule live (took r x).taken.radio ss) s).verdicts)

  -- ---- one call

  -- a scrap that is taken is answered by what then stands
  answer_is : (r : Radio) (s : Scrap) → take_outcome p fair label next rule live r s.bytes s.room ≡ Ok tt → (took r s).taken.answer ≡ heard_answer (took r s).taken.radio.standing (length (took r s).verdicts)
  unfolding take_call radio_of
  answer_is r s e = rw e refl

  -- one behind a refusal by that
  refused_is : (r : Radio) (s : Scrap) {x : Refusal} → kept_outcome p fair label next rule live r ≡ Err x → took r s ≡ nothing_taken x r
  unfolding take_call take_outcome
  refused_is r s e = rw e refl

  -- and one that is refused for itself by its own
  none_is : (r : Radio) (s : Scrap) {x : Refusal} → kept_outcome p fair label next rule live r ≡ Ok tt
      → and_then (unless (leb (lines_in s.bytes) s.room) Room) (unless (leb (r.start + r.len + length s.bytes) longest) LogLength) ≡ Err x → took r s ≡ nothing_taken x r
  unfolding take_call take_outcome room_outcome
  none_is r s e f = rw (e, f) refl

module _ (p : Plant) (fair label next : List ℕ) (rule : Rule) (live : Pairs) (m : Monitor) where
  abbrev R : List Scrap → Radio
  R ss = behind p fair label next rule live m ss

  -- the joined bytes, one by one
  abbrev heard : List ℕ → radio.Heard
  heard log = hear_all (width_of p.props) (step_call p fair label next rule live) (heard_from (fresh m) []) log

  -- what is known behind scraps
  record Known (ss : List Scrap) : Type 0 where
    good : Good p fair label next rule live (0 + length (text ss)) (R ss)
    ear : ear_of (R ss) ≡ (heard (text ss)).ear
    verdicts : written p fair label next rule live m ss ≡ (heard (text ss)).verdicts
    kept : kept_outcome p fair label next rule live (R ss) ≡ (R ss).standing

  known : (ss : List Scrap) → Given p fair label next rule live m ss → Known ss
  known ss g =
      let fits = g.fits in
      let start = good_fresh p fair label next rule live m fits.held in
      let few : 0 + length (text ss) ≤ longest = omega (arith, g.short) in
      let (fine, last) = all_good p fair label next rule live g.full fits.input fits.lives ss start g.roomy few in
      let (ear, verdicts) = any_cutting p fair label next rule live ss (fresh m) 0 start.sound fine in
      record { good = last; ear = ear; verdicts = verdicts; kept = kept_fine p fair label next rule live last fits.input fits.lives few }

  -- ---- THE CLAIMS

  pub every_cutting : EveryCutting p fair label next rule live m
  every_cutting ss g =
      let k = known ss g in
      let found = text_heard (width_of p.props) (text ss) (step_call p fair label next rule live) m (still p fair label next rule live) in
      record {
        verdicts_are = k.verdicts ∙ found.verdicts_are;
        monitor_is = ap (λ (e : radio.Ear). e.monitor) k.ear ∙ found.monitor_is;
        stands = ap (λ (e : radio.Ear). e.standing) k.ear ∙ found.stands;
        ends = end_fine p fair label next rule live k.good g.fits.input g.fits.lives (omega (arith, g.short))
            ∙ ap (λ (e : radio.Ear). and_then e.standing (end_of e)) k.ear ∙ found.ends_as;
      }

  pub two_cuttings : TwoCuttings p fair label next rule live m
  two_cuttings ss ts g g' same =
      let k = known ss g in
      let k' = known ts g' in
      let e = ap heard same in (
        k.verdicts ∙ ap (λ (h : radio.Heard). h.verdicts) e ∙ sym k'.verdicts,
        k.good.clean ∙ ap radio_of (k.ear ∙ ap (λ (h : radio.Heard). h.ear) e ∙ sym k'.ear) ∙ sym k'.good.clean,
      )

  pub each_scrap : EachScrap p fair label next rule live m
  unfolding Fine
  each_scrap ss s g goes =
      let (room, enough) = room_parts ss s g.roomy in
      let long = long_more ss s in
      let before : Given p fair label next rule live m ss = record { full = g.full; fits = g.fits; roomy = room; short = omega (arith, g.short, long) } in
      let fine = take_fine p fair label next rule live (known ss before).good g.fits.input g.fits.lives s (omega (arith, g.short, long)) enough in
      let now = every_cutting (ss ++ s ∷ []) g in
      let x = took p fair label next rule live (R ss) s in (
        answer_is p fair label next rule live (R ss) s (fine ∙ goes)
            ∙ ap (λ (r : Radio). heard_answer r.standing (length x.verdicts)) (sym (after_more p fair label next rule live ss s (fresh m)))
            ∙ ap (λ (o : Outcome). heard_answer o (length x.verdicts)) now.stands,
        sym now.verdicts_are ∙ said_more p fair label next rule live ss s (fresh m) ∙ ap (λ (l : List ℕ). l ++ x.verdicts) (every_cutting ss before).verdicts_are,
      )

  pub takes_nothing : TakesNothing p fair label next rule live m
  takes_nothing ss g goes s x refuses =
      let k = known ss g in
      let came : (R ss).start + (R ss).len ≡ length (text ss) =
      ap (λ (n : ℕ). (R ss).start + n) (many_kept p fair label next rule live k.good) ∙ ap (λ (e : radio.Ear). e.start + length e.part) k.ear
      ∙ exact_fresh (width_of p.props) (step_call p fair label next rule live) (text ss) m (ap (λ (e : radio.Ear). e.standing) (sym k.ear) ∙ goes) in
      let long : (R ss).start + (R ss).len + length s.bytes ≡ length (text (ss ++ s ∷ [])) = omega (arith, came, long_more ss s) in
      none_is p fair label next rule live (R ss) s (k.kept ∙ goes)
      (ap (λ (n : ℕ). and_then (unless (leb (lines_in s.bytes) s.room) Room) (unless (leb n longest) LogLength)) long ∙ refuses)

  pub sticks : Sticks p fair label next rule live m
  unfolding finish_call
  sticks ss g x stands =
      let stops = (known ss g).kept ∙ stands in
      (λ s. refused_is p fair label next rule live (R ss) s stops, ap (λ (o : Outcome). and_then o (end_outcome (R ss))) stops)

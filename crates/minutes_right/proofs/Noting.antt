-- A log noted line by line, from the opening and the empty sheet on: each event is taken that is legal, has a number in turn and finds room on the sheet, up to the first that does not.
use Prim.Native.Nat.{ℕ, zero, suc, ◌+◌, ◌≤◌, ◌<◌}
use Rattle.std.proofs.Common.{arith, sym, ap₂, ◌∙◌, ⊎_elim, take-suc}
use Rattle.std.specs.Prelude.{◌≡◌, Bool, true, eqb, length, take, Ok, Err}
use Rattle.std.proofs.Math.Path.{refl, ap, subst}
use Rattle.std.proofs.Math.Bool.{false, So, cond}
use Rattle.std.proofs.lemmas.Bool.{false≢true}
use mathlib.Core.List.{List, [], ◌∷◌}
use Rattle.std.proofs.Math.ListN.{get_or}
use borrow.Author.Tests.{le-ltb, eqb-true}
use Rattle.words.specs.Tests.{below_cases}
use Rattle.words.specs.Truth.{and_says}
use Rattle.meaning.specs.Says.{Says}
use Rattle.meaning.specs.Formula.{Formula}
use Rattle.meaning.specs.Run as run
use Rattle.meaning.specs.Limits.{Legal}
use Rattle.pairs.specs.declared.Pairs.{Pairs}
use Rattle.model.specs.Sets.{PairSet}
use Rattle.answers.specs.declared.Kind.TheVariants.{IllegalEvent, Stretches, Number as NumberKind}
use Rattle.answers.specs.declared.Refusal.{Refusal}
use Rattle.answers.specs.declared.Lamp.{Lamp}
use Rattle.answers.specs.Results.{Outcome}
use Rattle.answers.specs.Paper.{refused_at}
use Rattle.plant.specs.declared.Plant.{Plant}
use Rattle.syntax.specs.declared.Rule.{Rule}
use Rattle.event_log.specs.declared.Event.{Event}
use Rattle.event_log.specs.Legal.{seen_of, legal_of, legal_exactly}
use Rattle.event_log.specs.Log.{nothing}
use Rattle.checks.specs.Checks.{input_outcome}
use Rattle.checks.specs.Input.{Input}
use Rattle.sides.specs.declared.Monitor.{Monitor}
use Rattle.sides.specs.Held.{model_of, lamp_in}
use Rattle.event_numbers.specs.Numbers.{number_of, in_turn, in_turn_says, event_outcome}
use Rattle.monitor.specs.declared.Watched.{Watched}
use Rattle.monitor.specs.Calls as calls
use Rattle.monitor.specs.Calls.{open_call, step_call}
use Rattle.watching.specs.Filled.{seen_from, expected_at, number_at, InTurnAt}
use Rattle.watching.specs.Watching as watching
use Rattle.watching.specs.Watching.{brought, run_seen, checks_pass, stays_held, open_held, live_fits}
use Rattle.front_door.specs.FrontDoor.{LegalAt, TakenAt}
use Rattle.stretches.specs.declared.DaySheet.{DaySheet}
use Rattle.stretches.specs.Sheet.{empty_sheet}
use Rattle.day_sheet.specs.declared.Noted.{Noted}
use Rattle.day_sheet.specs.Afresh.{shown_of}
use Rattle.day_sheet.specs.Calls.{opens_of, sheet_after, is_full, refused_with, note_by, overfull_by, noted_of}
use Rattle.day_sheet.proofs.Promises.{Kept, lines_after, one_more, accepted_from, noted_through, always_kept}
use Rattle.day_log.specs.declared.DayWent.{DayWent}
use Rattle.day_log.specs.Day.{takes, go_on, day_to}
use Rattle.minutes_right.specs.DayMinutes.{SheetAfter}
use Rattle.minutes_right.specs.Shown.{shown_right}

-- behind another event only a restart begins a stretch
only_restart : (new seen : Bool) → opens_of seen new ≡ true → seen ≡ true → So new
only_restart true seen opens came = refl
only_restart false true opens came = absurd (false≢true opens)
only_restart false false opens came = absurd (false≢true came)

module _ (p : Plant) (fair label next : List ℕ) (rule : Rule) (given : Input p fair label next rule) where
  abbrev T : run.Plant
  T = watching.T p fair label next rule

  abbrev f : Formula
  f = watching.f p fair label next rule

  -- the calls with the live set that `prepare` gives
  abbrev known : Pairs
  known = watching.live p fair label next rule

  fits : PairSet T f known.words
  fits = live_fits p fair label next rule given

  abbrev pub note : Monitor → DaySheet → Event → Noted
  note = noted_of p fair label next rule known

  abbrev Holds : Monitor → Type 0
  Holds = watching.Held p fair label next rule

  abbrev pub Keeps : List Event → Monitor → DaySheet → Type 0
  Keeps = Kept p fair label next rule known

  abbrev pub went : Outcome → ℕ → Monitor → DaySheet → DayWent
  went o n m s = record { outcome = o; done = n; monitor = m; sheet = s }

  -- the first n events are accepted
  abbrev pub TakenTo : List Event → ℕ → Type 0
  TakenTo es n = (k : ℕ) → k < n → TakenAt T es k

  -- the sheet that is kept is right, line by line
  pub kept_right : (done : List Event) (m : Monitor) (s : DaySheet) → Keeps done m s → SheetAfter T f done s
  kept_right done m s kept = record { shown = shown_of T f known.words done; day = shown_right p fair label next rule given done; is = kept.sheet; few = kept.room }

  -- why event k is refused, behind the sheet s
  pub data Stop (es : List Event) (k : ℕ) (s : DaySheet) : Refusal → Type 0 where
    illegal : (LegalAt T es k → ⊥) → Stop es k s (refused_at IllegalEvent 0)
    stray : LegalAt T es k → (InTurnAt es k → ⊥) → Stop es k s (refused_at NumberKind 0)
    full : TakenAt T es k → s.count ≡ 64 → So (get_or es k nothing).new → Stop es k s (refused_at Stretches 0)

  -- behind n events: all of them were accepted, or the one behind the first k was not
  pub data Gone (es : List Event) (n : ℕ) (c : DayWent) : Type 0 where
    going : (m : Monitor) (s : DaySheet) → TakenTo es n → Holds m → Keeps (take n es) m s → c ≡ went (Ok tt) n m s → Gone es n c
    ended : (k : ℕ) → k < n → (m : Monitor) (s : DaySheet) → TakenTo es k → Keeps (take k es) m s → (r : Refusal) → Stop es k s r → c ≡ went (Err r) k m s → Gone es n c

  -- what the check of an event gives
  data Checked (es : List Event) (n : ℕ) : Outcome → Type 0 where
    passes : TakenAt T es n → Checked es n (Ok tt)
    fails : (r : Refusal) → ((s : DaySheet) → Stop es n s r) → Checked es n (Err r)

  checked : (es : List Event) (n : ℕ) → Checked es n (event_outcome (get_or es n nothing) p.props (seen_from false (take n es)) (expected_at es n))
  unfolding event_outcome
  checked es n = by (legal_of e p.props) refl (in_turn (seen_from false (take n es)) (expected_at es n) (number_at es n)) refl
    where
      e : Event
      e = get_or es n nothing

      turn : Says (in_turn (seen_from false (take n es)) (expected_at es n) (number_at es n)) (InTurnAt es n)
      turn = in_turn_says (seen_from false (take n es)) (expected_at es n) (number_at es n)

      is_legal_lem : legal_of e p.props ≡ true → Legal T (seen_of e)
      is_legal_lem h = ((legal_exactly T e).0 h).1

      not_legal : legal_of e p.props ≡ false → Legal T (seen_of e) → ⊥
      not_legal h l = false≢true (sym h ∙ (legal_exactly T e).1 (omega (arith, given.table.few_props), l))

      by : (b : Bool) → legal_of e p.props ≡ b → (c : Bool) → in_turn (seen_from false (take n es)) (expected_at es n) (number_at es n) ≡ c
          → Checked es n (cond b (cond c (Ok tt) (Err (refused_at NumberKind 0))) (Err (refused_at IllegalEvent 0)))
      by true l true t = passes (is_legal_lem l, turn.0 t)
      by true l false t = fails _ (λ s. stray (is_legal_lem l) (λ h. false≢true (sym t ∙ turn.1 h)))
      by false l c t = fails _ (λ s. illegal (not_legal l))

  -- ---- one event more

  module _ (es : List Event) (n : ℕ) (before : n < length es) (m : Monitor) (s : DaySheet) (taken : TakenTo es n) (held : Holds m) (kept : Keeps (take n es) m s) where
    abbrev e : Event
    e = get_or es n nothing

    came : m.seen ≡ seen_from false (take n es)
    came = ap (λ (x : Monitor). x.seen) kept.monitor ∙ run_seen p fair label next rule known.words (take n es)

    expects : m.expected ≡ expected_at es n
    expects = ap (λ (x : Monitor). x.expected) kept.monitor

    few : s.count ≤ 64
    few = subst (λ (d : DaySheet). d.count ≤ 64) (sym kept.sheet) kept.room

    -- a sheet that has stretches stands beside a monitor that an event came to
    some_came : s.count ≡ 64 → m.seen ≡ true
    some_came many = came ∙ by (take n es) (ap (λ (d : DaySheet). d.count) kept.sheet)
      where
        by : (done : List Event) → s.count ≡ (lines_after p fair label next rule known done).count → seen_from false done ≡ true
        by [] is = absurd (let none : s.count ≡ 0 = is in omega (arith, many, none))
        by (x ∷ done) is = refl

    -- the public step, by what the check of the event gives
    abbrev outcome : Outcome
    outcome = event_outcome e p.props (seen_from false (take n es)) (expected_at es n)

    abbrev stepped : Outcome → Watched
    stepped o = calls.watched o m (number_of e.num m.expected + 1) (brought p fair label next rule known.words (model_of m) m.expected e)

    step_by : {o : Outcome} → outcome ≡ o → step_call p fair label next rule known m e ≡ stepped o
    step_by g = checks_pass p fair label next rule given known fits m held e ∙ ap stepped (ap₂ (event_outcome e p.props) came expects ∙ g)

    -- and what noting makes of it
    abbrev noted : Watched → Bool → Noted
    noted w b = note_by w w.answer b m s (λ v. sheet_after T f known.words m s e)

    note_by_lem : {o : Outcome} → outcome ≡ o → note m s e ≡ noted (stepped o) (is_full s m.seen e.new)
    unfolding noted_of
    note_by_lem g =
        ap (λ (b : Bool). cond b (refused_with (overfull_by (input_outcome p fair label next rule)) m s) (noted (step_call p fair label next rule known m e) (is_full s m.seen e.new))) (le-ltb 64 s.count few)
        ∙ ap (λ (w : Watched). noted w (is_full s m.seen e.new)) (step_by g)

    -- the day behind it
    abbrev behind : Noted → DayWent
    behind x = takes (went (Ok tt) n m s) x x.answer

    -- refused by 10 or 16
    stops : (r : Refusal) → outcome ≡ Err r → Stop es n s r → Gone es (suc n) (behind (note m s e))
    stops r g why = ended n (omega arith) m s taken kept r why (ap behind (note_by_lem g))

    -- the sheet has no room for it
    room_for_none : is_full s m.seen e.new ≡ true → (s.count ≡ 64) × So e.new
    unfolding is_full
    room_for_none h =
        let (many, opens) = (and_says (eqb s.count 64) (opens_of m.seen e.new)).0 h in
        let is : s.count ≡ 64 = eqb-true s.count 64 many in
        (is, only_restart e.new m.seen opens (some_came is))

    refused_by_23 : outcome ≡ Ok tt → TakenAt T es n → is_full s m.seen e.new ≡ true → Gone es (suc n) (behind (note m s e))
    refused_by_23 g t h =
        let (many, new) = room_for_none h in
        ended n (omega arith) m s taken kept (refused_at Stretches 0) (full t many new) (ap behind (note_by_lem g ∙ ap (noted (stepped (Ok tt))) h))

    goes_on : outcome ≡ Ok tt → TakenAt T es n → is_full s m.seen e.new ≡ false → Gone es (suc n) (behind (note m s e))
    goes_on g t h = going (note m s e).monitor (note m s e).sheet taken' held' kept' (ap (takes (went (Ok tt) n m s) (note m s e)) answer)
      where
        is : note m s e ≡ noted (stepped (Ok tt)) false
        is = note_by_lem g ∙ ap (noted (stepped (Ok tt))) h

        lamp : Lamp
        lamp = lamp_in (brought p fair label next rule known.words (model_of m) m.expected e)

        answer : (note m s e).answer ≡ calls.lamp_of (brought p fair label next rule known.words (model_of m) m.expected e)
        answer = ap (λ (x : Noted). x.answer) is

        taken' : TakenTo es (suc n)
        taken' k l = ⊎_elim (λ (b : k < n). taken k b) (λ (q : k ≡ n). rw q t) (below_cases l)

        held' : Holds (note m s e).monitor
        held' = subst Holds (sym (ap (λ (x : Noted). x.monitor) is)) (subst (λ (w : Watched). Holds w.monitor) (step_by g) (stays_held p fair label next rule given known fits m held e))

        kept' : Keeps (take (suc n) es) (note m s e).monitor (note m s e).sheet
        kept' =
            subst (λ (done : List Event). Keeps done (note m s e).monitor (note m s e).sheet) (sym (take-suc es n nothing before))
            (one_more p fair label next rule known given fits (take n es) m s kept e lamp answer)

    one_on : (o : Outcome) → outcome ≡ o → Checked es n o → Gone es (suc n) (behind (note m s e))
    one_on o g (fails r why) = stops r g (why s)
    one_on o g (passes t) = by (is_full s m.seen e.new) refl
      where
        by : (b : Bool) → is_full s m.seen e.new ≡ b → Gone es (suc n) (behind (note m s e))
        by true h = refused_by_23 g t h
        by false h = goes_on g t h

  -- ---- all of them

  starts : Keeps [] (open_call p fair label next rule known).monitor empty_sheet
  unfolding accepted_from noted_through
  starts = always_kept p fair label next rule known given fits []

  module _ (es : List Event) (event : ℕ → Event) (same : (k : ℕ) → event k ≡ get_or es k nothing) where
    abbrev pub at : ℕ → DayWent
    at n = day_to note (open_call p fair label next rule known).monitor empty_sheet event n

    pub gone : (n : ℕ) → n ≤ length es → Gone es n (at n)
    unfolding day_to
    gone zero h =
        going (open_call p fair label next rule known).monitor empty_sheet (λ k l. absurd (omega arith)) (open_held p fair label next rule given known fits) starts refl
    gone (suc n) h = by (at n) (gone n (omega arith))
      where
        by : (c : DayWent) → Gone es n c → Gone es (suc n) (go_on note c (event n) c.outcome)
        by c (ended k l m s taken kept r why is) = ended k (omega arith) m s taken kept r why (ap (λ (x : DayWent). go_on note x (event n) x.outcome) is)
        by c (going m s taken held kept is) =
            subst (λ (x : DayWent). Gone es (suc n) (go_on note x (event n) x.outcome)) (sym is)
            (subst (λ (e : Event). Gone es (suc n) (takes (went (Ok tt) n m s) (note m s e) (note m s e).answer)) (sym (same n)) (one_on es n h m s taken held kept _ refl (checked es n)))

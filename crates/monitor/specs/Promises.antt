-- What the calls on a monitor promise. Their contracts are equations: open answers `open_call`, look `look_call`, step `step_call` (specs/Calls). Here is said
-- when a call is accepted, and what a refusal leaves. What each number is given for, and what the lamp says of the runs, is said in the crate promises.
use mathlib.Core.Logic.Iff
use Rattle.std.specs.Prelude.{ℕ, ◌+◌, ◌^◌, ◌≤◌, ◌≡◌, ◌↔◌, Bool, not, length, Ok, Err}
use Rattle.std.proofs.Math.Path.{ap}
use mathlib.Core.List.{List, foldl}
use Rattle.meaning.specs.Says.{Says}
use Rattle.meaning.specs.Formula.{Formula}
use Rattle.meaning.specs.Run as run
use Rattle.meaning.specs.Limits.{Legal}
use Rattle.words.specs.Tests.{le_says}
use Rattle.words.specs.Truth.{says_and}
use Rattle.pairs.specs.declared.Pairs.{Pairs}
use Rattle.pairs.specs.Sets.{empty_of}
use Rattle.model.specs.Monitor as model
use Rattle.model.specs.Sets.{PairSet}
use Rattle.model.specs.Checks.{pairs_ok, pairs_says, event_ok, legal_says}
use Rattle.answers.specs.declared.Kind.TheVariants.{Value, IllegalEvent, Number as NumberKind}
use Rattle.answers.specs.declared.Refusal.{Refusal}
use Rattle.answers.specs.Results.{Outcome}
use Rattle.answers.specs.Paper.{verdict, paper}
use Rattle.answers.proofs.Promises.{verdict_number}
use Rattle.answers.specs.Chain.{and_then, unless, chain_accepts, unless_accepts}
use Rattle.plant.specs.declared.Plant.{Plant}
use Rattle.syntax.specs.declared.Rule.{Rule}
use Rattle.event_log.specs.declared.Event.{Event}
use Rattle.event_log.specs.Legal.{seen_of}
use Rattle.checks.specs.Checks.{input_outcome}
use Rattle.checks.specs.Input.{Input, input_accepted}
use Rattle.sides.specs.declared.Monitor.{Monitor}
use Rattle.sides.specs.Held.{model_of}
use Rattle.event_numbers.specs.Numbers.{number_of, brings, InTurn, in_turn, in_turn_says}
use Rattle.monitor.specs.Calls.{no_monitor, lamp_of, watched, table, formula, checked_of, open_call, monitor_fits, step_checked, step_call}

-- the lamp on paper: the verdict's number and `left`
pub lamp_paper : (m : model.Monitor) → paper (lamp_of m) ≡ verdict (model.verdict m) (model.left m)
unfolding model.verdict
lamp_paper m = ap (λ (n : ℕ). verdict n (model.left m)) (verdict_number (not (empty_of m.keeps)) (not (empty_of m.breaks)))

both_iff : {A B C D : Type 0} → A ↔ B → C ↔ D → (A × C) ↔ (B × D)
both_iff h k = (λ x. (h.0 x.0, k.0 x.1), λ y. (h.1 y.0, k.1 y.1))

module _ (p : Plant) (fair label next : List ℕ) (rule : Rule) where
  abbrev T : run.Plant
  T = table p fair label next rule

  abbrev f : Formula
  f = formula p fair label next rule

  -- A REFUSAL tells its number and its place, and leaves the monitor

  pub open_refused : (live : Pairs) (r : Refusal) → checked_of p fair label next rule (pairs_ok T f live.words) ≡ Err r
      → open_call p fair label next rule live ≡ record { answer = Err r; monitor = no_monitor }
  unfolding open_call
  open_refused live r e = ap (λ (o : Outcome). watched o no_monitor 0 (model.opening T f live.words)) e

  pub step_refused : (live : Pairs) (m : Monitor) (e : Event) (r : Refusal) → step_checked p fair label next rule live m e ≡ Err r
      → step_call p fair label next rule live m e ≡ record { answer = Err r; monitor = m }
  unfolding step_call
  step_refused live m e r g = ap (λ (o : Outcome). watched o m (number_of e.num m.expected + 1) (foldl (model.step_of T f live.words) (model_of m) (brings m.seen m.expected e))) g

  module _ (full : length rule.nodes ≡ 32) where
    -- A CALL IS ACCEPTED exactly if table and rule are, no set has a pair beyond them, the number expected is at most 2 ^ 32, and the event is legal and its
    -- number in turn

    checked_exactly : {sets : Bool} {A : Type 0} → Says sets A → (checked_of p fair label next rule sets ≡ Ok tt) ↔ (Input p fair label next rule × A)
    checked_exactly {sets} s =
        Iff.trans (chain_accepts (input_outcome p fair label next rule) (unless sets Value)) (both_iff (input_accepted p fair label next rule full) (Iff.trans (unless_accepts sets Value) s))

    pub open_accepted : (live : Pairs) → (checked_of p fair label next rule (pairs_ok T f live.words) ≡ Ok tt) ↔ (Input p fair label next rule × PairSet T f live.words)
    open_accepted live = checked_exactly (pairs_says T f live.words)

    -- what a monitor may be
    abbrev pub Fits : Monitor → Type 0
    Fits m = PairSet T f m.keeps.words × (PairSet T f m.breaks.words × (m.expected ≤ 2 ^ 32))

    monitor_says : (m : Monitor) → Says (monitor_fits p fair label next rule m) (Fits m)
    monitor_says m = says_and (pairs_says T f m.keeps.words) (says_and (pairs_says T f m.breaks.words) (le_says m.expected (2 ^ 32)))

    pub look_accepted : (m : Monitor) → (checked_of p fair label next rule (monitor_fits p fair label next rule m) ≡ Ok tt) ↔ (Input p fair label next rule × Fits m)
    look_accepted m = checked_exactly (monitor_says m)

    -- an event may have its number
    abbrev pub Next : Monitor → Event → Type 0
    Next m e = InTurn m.seen m.expected (number_of e.num m.expected)

    abbrev next_test : Monitor → Event → Bool
    next_test m e = in_turn m.seen m.expected (number_of e.num m.expected)

    next_says : (m : Monitor) (e : Event) → Says (next_test m e) (Next m e)
    next_says m e = in_turn_says m.seen m.expected (number_of e.num m.expected)

    pub step_accepted : (live : Pairs) (m : Monitor) (e : Event) → (step_checked p fair label next rule live m e ≡ Ok tt)
        ↔ ((Input p fair label next rule × (PairSet T f live.words × Fits m)) × (Legal T (seen_of e) × Next m e))
    step_accepted live m e =
        Iff.trans (chain_accepts _ (and_then (unless (event_ok T (seen_of e)) IllegalEvent) (unless (next_test m e) NumberKind)))
        (both_iff (checked_exactly (says_and (pairs_says T f live.words) (monitor_says m)))
        (Iff.trans (chain_accepts _ (unless (next_test m e) NumberKind))
        (both_iff (Iff.trans (unless_accepts (event_ok T (seen_of e)) IllegalEvent) (legal_says T (seen_of e))) (Iff.trans (unless_accepts (next_test m e) NumberKind) (next_says m e)))))

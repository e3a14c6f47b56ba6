-- WHAT EACH RULE OF THE CHECK SAYS of a run that is shown, as a list of states whose first s are the stem (02, l).
use Rattle.std.specs.Prelude.{ℕ, suc, ◌≤◌, ◌<◌, ◌≡◌, ◌↔◌, Bool, List, length, get_or, Result, Ok, Err}
use Rattle.std.proofs.Math.Bool.{So}
use Rattle.meaning.specs.Bit.{bit}
use Rattle.meaning.specs.Says.{Kept}
use Rattle.meaning.specs.Formula.{Formula, Holds}
use Rattle.meaning.specs.Run.{Plant, Lasso, state_at, label_of, next_of, labels_along}
use Rattle.meaning.specs.Event.{Agrees}
use Rattle.event_log.specs.declared.Event.{Event}
use Rattle.event_log.specs.Legal.{seen_of}
use Rattle.around.specs.Around.{place}
use Rattle.around.specs.Along.{lasso_of}
use Rattle.shown.specs.declared.Failing.{Failing}
use Rattle.shown.specs.declared.Failing.TheVariants.{Start, Moves, Fairness, Agreement, Value}
use Rattle.shown.specs.Positions.{position_at}

-- there is a first state, it is one of the table, and a run may start there
abbrev pub Starts : Plant → List ℕ → Type 0
Starts T run = (0 < length run) × (get_or run 0 0 < T.states) × So (bit T.start (get_or run 0 0))

-- the loop has a state, each state is one of the table, and the next may follow it; behind the loop's last comes its first
abbrev pub MovesOn : Plant → List ℕ → ℕ → Type 0
MovesOn T run s = (s < length run)
    × ((i : ℕ) → i < length run → (get_or run i 0 < T.states) × So (bit (next_of T (get_or run i 0)) (get_or run (place s (length run) (suc i)) 0)))

-- the loop meets every fairness set
abbrev pub FairOn : Plant → List ℕ → ℕ → Type 0
FairOn T run s = (j : ℕ) → j < length T.fair → (i : ℕ) × (i < length run) × ((s ≤ i) × So (bit (get_or T.fair j 0) (get_or run i 0)))

-- each of n events fits the label at its position
abbrev pub AgreesAll : Plant → Lasso → (ℕ → Event) → ℕ → Type 0
AgreesAll T L event n = (i : ℕ) → i < n → Agrees (seen_of (event i)) (label_of T (state_at L (position_at event i)))

-- which of five rules fails first, or none
pub record Firsts (A B C D E : Type 0) (r : Result (Unit {0}) Failing) : Type 0 where
  pub correct : (r ≡ Ok tt) ↔ (A × B × C × D × E)
  pub start : (r ≡ Err Start) ↔ (A → ⊥)
  pub moves : (r ≡ Err Moves) ↔ (A × (B → ⊥))
  pub fairness : (r ≡ Err Fairness) ↔ (A × B × (C → ⊥))
  pub agreement : (r ≡ Err Agreement) ↔ (A × B × C × (D → ⊥))
  pub value : (r ≡ Err Value) ↔ (A × B × C × D × (E → ⊥))

-- what is found of a run that is to keep the rule (b is true) or to break it (b is false), judged from the mark on: the first rule that fails
abbrev pub FirstFailing : Plant → Formula → Bool → (ℕ → Event) → ℕ → ℕ → List ℕ → ℕ → Result (Unit {0}) Failing → Type 0
FirstFailing T f b event n mark run s r =
    Firsts (Starts T run) (MovesOn T run s) (FairOn T run s) (AgreesAll T (lasso_of run s) event n) (Kept b (Holds (labels_along T (lasso_of run s)) f mark)) r

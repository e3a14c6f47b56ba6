-- What the call answers and writes: the checks in their order (01, Refusal numbers), and behind them a witness (01, The monitor's state).
use Rattle.std.specs.Prelude.{ℕ, ◌≡◌, Bool, not, List, ltb, length, Result, Ok, Err}
use Rattle.meaning.specs.Formula.{Formula}
use Rattle.meaning.specs.Run as run
use Rattle.meaning.specs.Limits.{witness_room}
use Rattle.model.specs.Monitor as model
use Rattle.model.specs.Witness.{has_live}
use Rattle.answers.specs.declared.Kind.TheVariants.{Room, NoPair}
use Rattle.answers.specs.Results.{Outcome}
use Rattle.answers.specs.Chain.{and_then, unless}
use Rattle.plant.specs.declared.Plant.{Plant}
use Rattle.plant.specs.Table.{plant_of}
use Rattle.syntax.specs.declared.Rule.{Rule}
use Rattle.syntax.specs.Value.{formula_of}
use Rattle.sides.specs.declared.Monitor.{Monitor}
use Rattle.sides.specs.Held.{model_of}
use Rattle.monitor.specs.Calls.{checked_of, monitor_fits}
use Rattle.walk.specs.declared.Lengths.{Lengths}
use Rattle.walk.specs.Shows.{Shows}
use Rattle.answers.specs.declared.Refusal.{Refusal}

-- a refusal, and the buffer stays; or the lengths of a witness, which stands in the buffer. Which witness is left open, and nothing else
abbrev pub AnsweredAs : run.Plant → Formula → List ℕ → Outcome → List ℕ → List ℕ → Result Lengths Refusal → Type 0
AnsweredAs T f asked (Err x) before now r = (r ≡ Err x) × (now ≡ before)
AnsweredAs T f asked (Ok _) before now r = (l : Lengths) × (r ≡ Ok l) × Shows T f asked before now l.stem l.turn

-- check 13, and behind it a witness
abbrev pub Sought : run.Plant → Formula → List ℕ → List ℕ → List ℕ → Result Lengths Refusal → Type 0
Sought T f asked before now r = AnsweredAs T f asked (unless (has_live T f asked) NoPair) before now r

module _ (p : Plant) (fair label next : List ℕ) (rule : Rule) (m : Monitor) where
  abbrev pub table : run.Plant
  table = plant_of p fair label next

  abbrev pub formula : Formula
  formula = formula_of rule

  -- 1, 2, 9, and 11
  unfoldable pub asked_of : ℕ → Outcome
  asked_of room =
      and_then (checked_of p fair label next rule (monitor_fits p fair label next rule m)) (unless (not (ltb room witness_room)) Room)

  -- 13 comes last
  unfoldable pub witness_outcome : Bool → ℕ → Outcome
  witness_outcome keeps room = and_then (asked_of room) (unless (has_live table formula (model.side (model_of m) keeps)) NoPair)

  abbrev pub Answered : Bool → List ℕ → List ℕ → Result Lengths Refusal → Type 0
  Answered keeps before now r = AnsweredAs table formula (model.side (model_of m) keeps) (witness_outcome keeps (length before)) before now r

-- How many states a witness has at most, as the call's contract says.
use Rattle.std.specs.Prelude.{Result, Ok, Err}
use Rattle.std.proofs.Common.{ℕ, ◌≤◌, ◌≡◌, ap, sym, ◌∙◌, Bool, List, length, arith}
use Rattle.meaning.specs.Formula.{Formula}
use Rattle.meaning.specs.Run as run
use Rattle.answers.specs.Results.{Outcome}
use Rattle.plant.specs.declared.Plant.{Plant}
use Rattle.syntax.specs.declared.Rule.{Rule}
use Rattle.sides.specs.declared.Monitor.{Monitor}
use Rattle.walk.specs.declared.Lengths.{Lengths}
use Rattle.answers.specs.declared.Refusal.{Refusal}
use Rattle.witness.specs.Calls.{AnsweredAs, Answered, witness_outcome}

abbrev stem_of : Result Lengths Refusal → ℕ
stem_of (Ok l) = l.stem
stem_of (Err x) = 0

abbrev turn_of : Result Lengths Refusal → ℕ
turn_of (Ok l) = l.turn
turn_of (Err x) = 0

few_as : (T : run.Plant) (f : Formula) (asked : List ℕ) (o : Outcome) (before now : List ℕ) (r : Result Lengths Refusal) (l : Lengths) → AnsweredAs T f asked o before now r → r ≡ Ok l →
    (l.stem ≤ 4095) × (l.turn ≤ 45056)
few_as T f asked (Err x) before now r l (is, same) run =
    let stem : l.stem ≡ 0 = sym (ap stem_of run) ∙ ap stem_of is in
    let turn : l.turn ≡ 0 = sym (ap turn_of run) ∙ ap turn_of is in
    (omega (arith, stem), omega (arith, turn))
few_as T f asked (Ok _) before now r l (m, is, shows) run =
    let stem : l.stem ≡ m.stem = sym (ap stem_of run) ∙ ap stem_of is in
    let turn : l.turn ≡ m.turn = sym (ap turn_of run) ∙ ap turn_of is in
    (omega (arith, stem, shows.stem_is, shows.witness.stem), omega (arith, turn, shows.turn_is, shows.witness.loop))

pub few : (p : Plant) (fair label next : List ℕ) (rule : Rule) (m : Monitor) (keeps : Bool) (before now : List ℕ) (r : Result Lengths Refusal) (l : Lengths) →
    Answered p fair label next rule m keeps before now r → r ≡ Ok l → (l.stem ≤ 4095) × (l.turn ≤ 45056)
few p fair label next rule m keeps before now r l answered run = few_as _ _ _ (witness_outcome p fair label next rule m keeps (length before)) before now r l answered run

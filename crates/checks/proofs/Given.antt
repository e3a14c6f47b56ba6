-- What an accepted table and rule give the code behind the checks: tables worked out from the rule are right, and their loops may run.
use Rattle.std.specs.Prelude.{Ok}
use mathlib.Core.Path.{◌≡◌, sym, ap, ◌∙◌}
use mathlib.Core.List.{List}
use Prim.Native.Nat.{ℕ}
use lib.ListN.{length}
use Rattle.meaning.specs.Formula.{parts}
use Rattle.answers.specs.Results.{Outcome}
use Rattle.plant.specs.declared.Plant.{Plant}
use Rattle.plant.specs.Table.{plant_of}
use Rattle.syntax.specs.declared.Rule.{Rule}
use Rattle.syntax.specs.Value.{formula_of, held, count}
use Rattle.syntax.proofs.Values.{parts_held}
use Rattle.truth.specs.Ready.{Ready}
use Rattle.truth.specs.Tables.{tables_of}
use Rattle.truth.specs.RightTables.{RightTables}
use Rattle.truth_laws.proofs.TablesRight.{tables_ready, tables_right}
use Rattle.checks.specs.Checks.{input_outcome}
use Rattle.checks.specs.Input.{Input, input_accepted}

-- the checks accepted
pub accepted : (p : Plant) (fair label next : List ℕ) (rule : Rule) → length rule.nodes ≡ 32
    → {o : Outcome} → o ≡ input_outcome p fair label next rule → o ≡ Ok tt → Input p fair label next rule
accepted p fair label next rule full e f = (input_accepted p fair label next rule full).0 (sym e ∙ f)

module _ {p : Plant} {fair label next : List ℕ} {rule : Rule} (i : Input p fair label next rule) where
  pub right : RightTables (plant_of p fair label next) (formula_of rule) (tables_of label rule)
  right = tables_right (plant_of p fair label next) (formula_of rule) rule i.table i.is i.small i.few i.below

  -- the temporal nodes of the value are the rule's parts
  pub parts_is : count (held rule) ≡ parts (formula_of rule)
  parts_is = ap (λ (r : Rule). count (held r)) i.is ∙ parts_held (formula_of rule)

  pub ready : Ready label rule
  ready = tables_ready (plant_of p fair label next) (formula_of rule) rule i.table i.is i.small i.few

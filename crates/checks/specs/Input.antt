-- What it means that the table and the rule handed in are accepted.
use Rattle.std.specs.Prelude.{ℕ, ◌≤◌, ◌≡◌, ◌↔◌, List, length, Ok}
use Rattle.std.proofs.Common.{sym, ap, subst}
use Rattle.meaning.specs.Formula.{parts, size}
use Rattle.meaning.specs.Limits.{AcceptedTable}
use Rattle.answers.specs.declared.Kind.TheVariants.{Value}
use Rattle.answers.specs.Chain.{unless, chain_accepts, unless_accepts}
use Rattle.plant.specs.declared.Plant.{Plant}
use Rattle.plant.specs.Table.{plant_of, table_outcome}
use Rattle.plant.specs.Check.{accepted_exactly}
use Rattle.syntax.specs.declared.Rule.{Rule}
use Rattle.syntax.specs.Print.{Below}
use Rattle.syntax.specs.Value.{rule_of, top_of, formula_of}
use Rattle.rule_value.specs.Valid.{valid_of, RuleValue}
use Rattle.rule_value.specs.Values.{valid_exactly, decoded}
use Rattle.checks.specs.Checks.{input_outcome}

-- the rule of a value of a rule
pub formula_is : {r : Rule} {q : ℕ} (v : RuleValue r q) → formula_of r ≡ v.formula
unfolding formula_of
formula_is v = ap top_of (decoded v)

module _ (p : Plant) (fair label next : List ℕ) (rule : Rule) where
  -- a table that 01 accepts, and the value of a rule within the limits
  pub record Input : Type 0 where
    pub fairs : length fair ≡ p.just
    pub table : AcceptedTable (plant_of p fair label next)
    pub is : rule ≡ rule_of (formula_of rule)
    pub small : size (formula_of rule) ≤ 32
    pub few : parts (formula_of rule) ≤ 6
    pub below : Below p.props (formula_of rule)

  -- from the two checks
  pub given : table_outcome p fair label next ≡ Ok tt → RuleValue rule p.props → Input
  given e v =
      let (fairs, table) = (accepted_exactly p fair label next).0 e in
      let f = sym (formula_is v) in
      record {
        fairs = fairs;
        table = table;
        is = subst (λ g. rule ≡ rule_of g) f v.is;
        small = subst (λ g. size g ≤ 32) f v.small;
        few = subst (λ g. parts g ≤ 6) f v.few;
        below = subst (Below p.props) f v.below;
      }

  -- the array of a rule has 32 nodes
  module _ (full : length rule.nodes ≡ 32) where
    -- accepted exactly if it is such
    pub input_accepted : (input_outcome p fair label next rule ≡ Ok tt) ↔ Input
    unfolding input_outcome
    input_accepted = (there, back)
      where
        there : input_outcome p fair label next rule ≡ Ok tt → Input
        there e =
            let (first, second) = (chain_accepts (table_outcome p fair label next) (unless (valid_of rule p.props) Value)).0 e in
            given first ((valid_exactly rule p.props full).0 ((unless_accepts (valid_of rule p.props) Value).0 second))

        back : Input → input_outcome p fair label next rule ≡ Ok tt
        back i =
            (chain_accepts (table_outcome p fair label next) (unless (valid_of rule p.props) Value)).1 (
              (accepted_exactly p fair label next).1 (i.fairs, i.table),
              (unless_accepts (valid_of rule p.props) Value).1 ((valid_exactly rule p.props full).1
                  (record { formula = formula_of rule; is = i.is; small = i.small; few = i.few; below = i.below })),
            )

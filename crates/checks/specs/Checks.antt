-- What the calls that take a rule value answer before they do anything: checks 1, 2 and 9, one after the other (01, Refusal numbers).
use Rattle.std.specs.Prelude.{ℕ, Bool, List, eqb, ltb, get_or}
use Rattle.words.specs.Word.{without_of, only_of}
use Rattle.words.specs.Below.{union_below}
use Rattle.answers.specs.declared.Kind.TheVariants.{Value}
use Rattle.answers.specs.Results.{Outcome}
use Rattle.answers.specs.Chain.{and_then, unless}
use Rattle.plant.specs.declared.Plant.{Plant}
use Rattle.plant.specs.Table.{table_outcome}
use Rattle.syntax.specs.declared.Rule.{Rule}
use Rattle.rule_value.specs.Valid.{valid_of}

-- the table (1, 2), and then the rule's value (9)
unfoldable pub input_outcome : Plant → List ℕ → List ℕ → List ℕ → Rule → Outcome
input_outcome p fair label next rule = and_then (table_outcome p fair label next) (unless (valid_of rule p.props) Value)

-- the members of word v that are no states, or any where v is not below `count`
abbrev pub stray_at : List ℕ → ℕ → ℕ → ℕ → ℕ
stray_at words states count v = without_of (get_or words v 0) (only_of (ltb v count) states)

-- no word has such a member: check 9 of a set of pairs
unfoldable pub pairs_fit : List ℕ → ℕ → ℕ → Bool
pairs_fit words states count = eqb (union_below 64 (stray_at words states count)) 0

-- Check 9: which values are those of rules within the limits.
use Rattle.std.specs.Prelude.{ℕ, ◌≤◌, ◌≡◌, Bool, true, false, ◌&&◌, ltb, leb}
use Rattle.meaning.specs.Formula.{Formula, size, parts}
use Rattle.meaning.specs.Step.{every}
use Rattle.meaning.specs.Limits.{most_nodes, most_parts}
use Rattle.syntax.specs.declared.Op.{Op}
use Rattle.syntax.specs.declared.Op.TheVariants.{False, True, Prop, Not, Next, Finally, Globally, Until, Release, And, Or, Implies}
use Rattle.syntax.specs.declared.Rule.{Rule}
use Rattle.syntax.specs.Postfix.{whole}
use Rattle.syntax.specs.Print.{Below}
use Rattle.syntax.specs.Value.{held, beyond, count, rule_of}

-- what stands beyond the nodes
abbrev pub is_false : Op → Bool
is_false False = true
is_false True = false
is_false (Prop k) = false
is_false Not = false
is_false Next = false
is_false Finally = false
is_false Globally = false
is_false Until = false
is_false Release = false
is_false And = false
is_false Or = false
is_false Implies = false

-- no proposition from q on
abbrev pub known : ℕ → Op → Bool
known q False = true
known q True = true
known q (Prop k) = ltb k q
known q Not = true
known q Next = true
known q Finally = true
known q Globally = true
known q Until = true
known q Release = true
known q And = true
known q Or = true
known q Implies = true

-- r is the value of a rule within the limits, with propositions below q
pub record RuleValue (r : Rule) (q : ℕ) : Type 0 where
  pub formula : Formula
  pub is : r ≡ rule_of formula
  pub small : size formula ≤ most_nodes
  pub few : parts formula ≤ most_parts
  pub below : Below q formula

-- the same, tested
abbrev pub valid_of : Rule → ℕ → Bool
valid_of r q = (((leb r.len most_nodes && whole (held r) 0) && every (known q) (held r)) && leb (count (held r)) most_parts) && every is_false (beyond r)

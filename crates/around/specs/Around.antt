-- The endless word of labels along a lasso, from a list of its labels, stem and then loop.
use Rattle.std.specs.Prelude.{ℕ, ◌+◌, ◌-◌, ◌%◌, ◌≡◌, Bool, cond, List, ltb, length, get_or}
use Rattle.meaning.specs.Says.{Says}
use Rattle.meaning.specs.Formula.{Formula, Word, Holds}
use Rattle.syntax.specs.declared.Rule.{Rule}
use Rattle.syntax.specs.Value.{rule_of}

-- where position i stands among n positions, of which the first s are the stem: behind the last comes position s
unfoldable pub place : ℕ → ℕ → ℕ → ℕ
place s n i = cond (ltb i s) i (s + (i - s) % (n - s))

-- the labels, position by position
abbrev pub around : List ℕ → ℕ → Word
around labels s i = get_or labels (place s (length labels) i) 0

-- of the value of a rule: the truth value says whether the rule holds at position p
pub record Means (rule : Rule) (labels : List ℕ) (s p : ℕ) (r : Bool) : Type 0 where
  pub says : (f : Formula) → rule ≡ rule_of f → Says r (Holds (around labels s) f p)

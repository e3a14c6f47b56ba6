-- For code that works out the parts' tables: an entry from the words of the part's sides. x shows the left side, y the right one.
use Rattle.std.specs.Prelude.{ℕ, Bool, true, false}
use Rattle.std.proofs.Math.Path.{sym, ap₂}
use Rattle.std.proofs.Common.{◌∙◌}
use Rattle.std.proofs.Math.Bool.{◌&&◌, ◌||◌, and-true, and-false, or-true, or-false}
use Rattle.std.specs.Int.Bits.{bit_and, bit_or}
use Rattle.meaning.specs.Bit.{bit}
use Rattle.words.specs.Laws.{bit_and_lem, bit_or_lem}
use Rattle.meaning.specs.Run.{Plant, label_of}
use Rattle.meaning.specs.Limits.{AcceptedTable}
use Rattle.meaning.specs.Step.{Value, next_part, untilPart, releasePart}
use Rattle.model.specs.Values.{Tells, wholly, bit_wholly}
use Rattle.model.specs.Tables.{unfolds, operand_of}

module _ (T : Plant) (A : AcceptedTable T) (k v : ℕ) where
  -- X asks nothing of the state left
  pub next_row : (a : Value) (next : Bool) → Tells T (unfolds (next_part k a) next) v (wholly (bit v k))
  unfolding unfolds
  next_row a next = bit_wholly T A 0 v (bit v k)

  pub next_operand : (a : Value) (x : ℕ) → Tells T a v x → Tells T (operand_of (next_part k a)) v x
  unfolding operand_of
  next_operand a x p = p

  module _ (a b : Value) (x y : ℕ) (p : Tells T a v x) (q : Tells T b v y) where
    pub until_low : Tells T (unfolds (untilPart k a b) false) v y
    unfolding unfolds
    until_low s l = q s l ∙ rw (and-false, or-false)

    pub until_high : Tells T (unfolds (untilPart k a b) true) v (bit_or y x)
    unfolding unfolds
    until_high s l = bit_or_lem y x s ∙ ap₂ ◌||◌ (q s l) (p s l ∙ sym (and-true (a (label_of T s) v)))

    pub release_low : Tells T (unfolds (releasePart k a b) false) v (bit_and y x)
    unfolding unfolds
    release_low s l = bit_and_lem y x s ∙ ap₂ ◌&&◌ (q s l) (p s l ∙ sym (or-false (a (label_of T s) v)))

    pub release_high : Tells T (unfolds (releasePart k a b) true) v y
    unfolding unfolds
    release_high s l = q s l ∙ rw (or-true, and-true)

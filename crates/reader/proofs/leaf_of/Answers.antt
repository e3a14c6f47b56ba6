-- `reader::leaf_of` meets its contract. Assumes nothing.
use Prim.Native.Nat.{ℕ, zero, suc}
use mathlib.Core.Path.{◌≡◌, refl, sym, ap}
use Rattle.syntax.specs.declared.Op.TheVariants.{True}
use Rattle.syntax.specs.Bytes.{leaf_of}
use Rattle.reader.proofs.leaf_of.Goals as goal

not_zero : (k : ℕ) → (k ≡ 0 → ⊥) → True ≡ leaf_of k
unfolding leaf_of
not_zero zero h = absurd (h refl)
not_zero (suc k) h = refl

pub returns-then-k-eq0 : goal.returns-then-k-eq0
unfolding leaf_of
returns-then-k-eq0 c = sym (ap leaf_of c.if-k-eq0.true)

pub returns-else-k-eq0 : goal.returns-else-k-eq0
returns-else-k-eq0 c = not_zero _ c.if-k-eq0.false

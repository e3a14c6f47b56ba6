-- The stack of values, by its members: on top the value put on, below what is left of the old one.
use Rattle.std.specs.Prelude.{ℕ, suc, ◌+◌, ◌*◌, ◌/◌, ◌%◌, ◌^◌, ◌<◌, ◌≡◌, refl, Bool, true, false, ◌&&◌, ◌||◌, eqb}
use Rattle.std.proofs.Common.{sym, ap, ◌∙◌, mul-div_cancel, zero-lt-suc, shr-shr}
use Rattle.std.proofs.Math.Nat.{mul-mod_left}
use Rattle.std.proofs.Math.Dec.{eqb-suc-zero}
use borrow.Author.Tests.{lt-ltb}
use Rattle.meaning.specs.Bit.{bit}
use Rattle.syntax.specs.declared.Op.{Op}
use Rattle.syntax.specs.Postfix.{sides}
use Rattle.words.specs.Word.{only_of}
use Rattle.words.specs.Laws.{bit_or_lem, bit_mod, bit_low, bit_half, bit_single, bit_zero}
use Rattle.node_value.specs.Unfold.{pushed_of}

-- a number twice as great has no member 0, and the others one place up
twice_low : (x : ℕ) → bit (x * 2) 0 ≡ false
twice_low x = bit_low (x * 2) ∙ rw (mul-mod_left x 2)

twice_up : (x k : ℕ) → bit (x * 2) (suc k) ≡ bit x k
twice_up x k = sym (bit_half (x * 2) k) ∙ ap (λ (y : ℕ). bit y k) (mul-div_cancel x (zero-lt-suc 1))

-- shifted down
down : (x m k : ℕ) → bit (x / 2 ^ m) k ≡ bit x (m + k)
unfolding bit
down x m k = ap (λ (y : ℕ). eqb (y % 2) 1) (shr-shr x m k)

one_low : (v : Bool) → bit (only_of v 1) 0 ≡ v
one_low true = bit_single 0 0
one_low false = bit_zero 0

one_up : (v : Bool) (k : ℕ) → bit (only_of v 1) (suc k) ≡ false
one_up true k = bit_single 0 (suc k) ∙ eqb-suc-zero k
one_up false k = bit_zero (suc k)

or_none : (p : Bool) → (p || false) ≡ p
or_none true = refl
or_none false = refl

and_all : (p : Bool) → (p && true) ≡ p
and_all true = refl
and_all false = refl

module _ (s : ℕ) (o : Op) (v : Bool) where
  pub push_top : bit (pushed_of s o v) 0 ≡ v
  unfolding pushed_of
  push_top = rw (bit_or_lem, bit_mod, twice_low, one_low)

  pub push_rest : (k : ℕ) → suc k < 64 → bit (pushed_of s o v) (suc k) ≡ bit s (sides o + k)
  unfolding pushed_of
  push_rest k l = rw (bit_or_lem, bit_mod, twice_up, one_up, lt-ltb (suc k) 64 l, and_all, or_none) (down s (sides o) k)

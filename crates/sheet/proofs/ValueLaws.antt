-- More of specs/Value. What the machine does with the bytes of a value, and what a value is: the machine goes on with a byte exactly if the value may have it.
use Rattle.std.specs.Prelude.{ℕ, zero, suc, ◌<◌, ◌≡◌, length}
use mathlib.Core.List.{List, [], ◌∷◌, ◌++◌}
use native.Mathlib.Omega.{arith}
use Rattle.std.specs.Prelude.{Some}
use Rattle.sheet.specs.Sheet.{Given}
use Rattle.sheet.specs.Machine.{value_grown}
use Rattle.sheet.specs.Value.{FineOf, amount, byte_fine, byte_taken_lem, digit_fine, digit_taken, each_at}

-- the machine takes each byte of a value, and none is an LF
pub taken : (k : ℕ) (u v : List ℕ) (b : ℕ) → k < 3 → FineOf k (u ++ b ∷ v) → (value_grown k (length u) (amount k u) b ≡ Some (amount k (u ++ b ∷ []))) × (b ≡ 10 → ⊥)
unfolding value_grown
taken zero u v b h f = (digit_taken 1 65535 (omega arith) (omega arith) u v b f, λ e. omega (arith, each_at u v b f.digits))
taken (suc zero) u v b h f = (byte_taken_lem u v b f, λ e. omega (arith, each_at u v b f.bytes))
taken (suc (suc zero)) u v b h f = (digit_taken 0 99 (omega arith) (omega arith) u v b f, λ e. omega (arith, each_at u v b f.digits))
taken (suc (suc (suc k))) u v b h f = absurd (omega arith)

-- and what it takes is a value
pub fine : (k : ℕ) (u : List ℕ) (b m : ℕ) → k < 3 → Given (FineOf k) u → value_grown k (length u) (amount k u) b ≡ Some m → FineOf k (u ++ b ∷ []) × (m ≡ amount k (u ++ b ∷ []))
unfolding value_grown
fine zero u b m h g e = digit_fine 1 65535 u b m g e
fine (suc zero) u b m h g e = byte_fine u b m g e
fine (suc (suc zero)) u b m h g e = digit_fine 0 99 u b m g e
fine (suc (suc (suc k))) u b m h g e = absurd (omega arith)

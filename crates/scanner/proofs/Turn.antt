-- One byte of the scanner, and what its code's tests say.
use Rattle.std.specs.Prelude.{Err}
use Prim.Native.Nat.{ℕ, zero, suc, ◌+◌, ◌-◌, ◌≤◌, ◌<◌}
use mathlib.Core.Bool.{cond}
use mathlib.Core.Path.{◌≡◌, refl, sym, ap, ◌∙◌}
use mathlib.Core.List.{List}
use native.Mathlib.Omega.{arith}
use native.Mathlib.Numerals.{sub-one}
use lib.ListN.{length, get_or, drop}
use Rattle.syntax.specs.declared.Mode.TheVariants.{Operator, Stuck}
use Rattle.syntax.specs.declared.Move.{Move}
use Rattle.syntax.specs.declared.Move.TheVariants.{ToOperand, ToNumber, ToTeen, ToOperator, ToArrow, Opens, Closes, Stops}
use Rattle.syntax.specs.declared.State.{State}
use Rattle.syntax.specs.Bytes.{sign_of}
use Rattle.syntax.specs.Scan.{at, closes, moved, step, dead, scan_from}
use Rattle.syntax.proofs.Places.{byte}

pub closes_none : (d : ℕ) → d ≡ 0 → at Stuck d ≡ closes d
unfolding closes
closes_none d e = rw e refl

pub closes_one : (d : ℕ) → (d ≡ 0 → ⊥) → at Operator (d - 1) ≡ closes d
unfolding closes
closes_one zero h = absurd (h refl)
closes_one (suc d) h = ap (at Operator) (sub-one (suc d))

-- a byte opens one parenthesis at most
shallow_close : (d : ℕ) → (closes d).depth ≤ d + 1
unfolding closes
shallow_close zero = omega arith
shallow_close (suc d) = omega arith

pub shallow : (d : ℕ) (m : Move) → (moved d m).depth ≤ d + 1
shallow d ToOperand = omega arith
shallow d ToNumber = omega arith
shallow d ToTeen = omega arith
shallow d ToOperator = omega arith
shallow d ToArrow = omega arith
shallow d Opens = omega arith
shallow d Closes = shallow_close d
shallow d Stops = omega arith

-- the scanner at a byte: stuck, or one place further
pub turn : (st st' : State) (i : ℕ) (s : List ℕ) → i < length s → st' ≡ step st.mode st.depth (sign_of (get_or s i 0))
    → scan_from st i (drop i s) ≡ cond (dead st'.mode) (Err i) (scan_from st' (i + 1) (drop (i + 1) s))
unfolding scan_from
turn st st' i s h e = ap (scan_from st i) (byte s i h) ∙ ap (λ x. cond (dead x.mode) (Err i) (scan_from x (i + 1) (drop (i + 1) s))) (sym e)

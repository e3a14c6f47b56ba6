-- One byte of the machine, as the loop over a text has it.
use Prim.Native.Nat.{ℕ, ◌+◌, ◌≤◌, ◌<◌}
use mathlib.Core.Bool.{Bool, true, false, cond}
use mathlib.Core.Path.{◌≡◌, refl, ap, ◌∙◌, sym}
use mathlib.Core.List.{List, [], ◌∷◌}
use native.Mathlib.Numerals.{add-one}
use native.Mathlib.Omega.{arith}
use lib.Dec.{eqb, ltb}
use lib.ListN.{length, get_or, drop}
use lib.Seq.{drop-cons, drop-length}
use borrow.Author.Tests.{ltb-true}
use Rattle.sheet.specs.declared.Lines.{Lines}
use Rattle.sheet.specs.declared.State.{State}
use Rattle.sheet.specs.declared.State.TheVariants.{Before, Name, Value, Stuck}
use Rattle.std.specs.Prelude.{Option, Some, None, Err}
use Rattle.sheet.specs.Machine.{line_by, begun, key_byte, key_size, named, value_grown, further, ended, state_after, size_of, stuck, filed, scan_from}

-- a text's byte at a place, and the text from the next place on
pub byte : (s : List ℕ) (at : ℕ) → at < length s → drop at s ≡ get_or s at 0 ∷ drop (at + 1) s
byte s at h = rw (add-one, drop-cons s at 0)

pub at_end_lem : (s : List ℕ) (at : ℕ) → at ≤ length s → length s ≤ at → drop at s ≡ []
at_end_lem s at h g = let e : at ≡ length s = omega arith in ap (λ n. drop n s) e ∙ drop-length s

-- what a test chooses has what both have
either : {A : Type 0} (t : Bool) (P : A → Type 0) (x y : A) → (t ≡ true → P x) → (t ≡ false → P y) → P (cond t x y)
either true P x y f g = f refl
either false P x y f g = g refl

-- a byte makes the numbers of a state greater by one at most, or they are small
pub small : (st : State) (b n : ℕ) → size_of st ≤ n + 3 → size_of (state_after st b) ≤ n + 1 + 3
unfolding state_after begun named ended
small (Before k) b n h =
    either (ltb (line_by b) k) (λ x. size_of x ≤ n + 1 + 3) _ _ (λ e. omega arith)
    (λ e. either (ltb (line_by b) 3) (λ x. size_of x ≤ n + 1 + 3) _ _ (λ f. omega (arith, ltb-true (line_by b) 3 f)) (λ f. omega arith))
small (Name k i) b n h =
    either (eqb b (key_byte k i)) (λ x. size_of x ≤ n + 1 + 3) _ _
    (λ e. either (eqb (i + 1) (key_size k)) (λ x. size_of x ≤ n + 1 + 3) _ _ (λ f. omega arith) (λ f. omega arith)) (λ e. omega arith)
small (Value k at m) b n h =
    either (eqb b 10) (λ x. size_of x ≤ n + 1 + 3) _ _
    (λ e. either (eqb at 0) (λ x. size_of x ≤ n + 1 + 3) _ _ (λ f. omega arith) (λ f. omega arith)) (λ e. grown (value_grown k at m b))
  where
    grown : (g : Option ℕ) → size_of (further k at g) ≤ n + 1 + 3
    grown (Some m) = omega arith
    grown None = omega arith
small Stuck b n h = omega arith

-- the machine at a byte: stuck, or one place further
pub turn : (l : Lines) (st st' : State) (i : ℕ) (s : List ℕ) → i < length s → st' ≡ state_after st (get_or s i 0)
    → scan_from l st i (drop i s) ≡ cond (stuck st') (Err i) (scan_from (filed l st (get_or s i 0)) st' (i + 1) (drop (i + 1) s))
unfolding scan_from
turn l st st' i s h e =
    ap (scan_from l st i) (byte s i h) ∙ ap (λ x. cond (stuck x) (Err i) (scan_from (filed l st (get_or s i 0)) x (i + 1) (drop (i + 1) s))) (sym e)

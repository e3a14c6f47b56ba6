-- More of specs/Reached. What the machine has read where it is not stuck: whole lines, then a part of a key or of a value. So what it has read begins a sheet.
use Prim.Native.Nat.{ℕ, ◌+◌, ◌<◌}
use Rattle.std.specs.Prelude.{◌≡◌, Bool, true, false, cond, eqb}
use Rattle.std.proofs.Math.Path.{refl}
use Rattle.std.proofs.Common.{sym, length-append}
use Rattle.std.proofs.lemmas.Bool.{false≢true}
use mathlib.Core.List.{List, [], ◌∷◌, ◌++◌, append_assoc}
use native.Mathlib.Omega.{arith}
use Rattle.std.proofs.Math.ListN.{length, take}
use borrow.Author.Tests.{eqb-true, eqb-false}
use Rattle.sheet.specs.declared.Lines.{Lines}
use Rattle.sheet.specs.declared.State.{State}
use Rattle.sheet.specs.declared.State.TheVariants.{Before, Value, Stuck}
use Rattle.std.specs.Prelude.{Option, Some, None}
use Rattle.sheet.specs.Sheet.{Values, Given, given}
use Rattle.sheet.specs.Machine.{line_by, begun, key_byte, named, value_grown, further, ended, state_after, stuck, file_as, filed}
use Rattle.sheet.specs.Value.{FineOf, amount}
use Rattle.sheet.proofs.ValueLaws.{fine}
use Rattle.sheet.specs.Read.{key_of}
use Rattle.sheet.specs.Reached.{Lined, Reached, alive, before, given_fine, giving, line_more, live, naming, put}
use Rattle.sheet.specs.Reached as of_reached

module _ {p : List ℕ} {l : Lines} (b : ℕ) where
  abbrev before_more : {k : ℕ} (x : Values) → Lined k p x l → stuck (begun k (line_by b)) ≡ false → Reached (p ++ b ∷ []) l (begun k (line_by b))
  before_more = of_reached.before_more {p = p} {l = l} b

  abbrev naming_more :
      {k i : ℕ} (s : List ℕ) (x : Values) → k < 3 → i < length (key_of k) → p ≡ s ++ take i (key_of k) → Lined k s x l → b ≡ key_byte k i
      → Reached (p ++ b ∷ []) l (named k (i + 1))
  naming_more = of_reached.naming_more {p = p} {l = l} b

  giving_more :
      {k at n : ℕ} (s u : List ℕ) (x : Values) → k < 3 → p ≡ s ++ (key_of k ++ u) → Lined k s x l → Given (FineOf k) u → at ≡ length u → n ≡ amount k u
      → stuck (state_after (Value k at n) b) ≡ false → Reached (p ++ b ∷ []) (filed l (Value k at n) b) (state_after (Value k at n) b)
  unfolding state_after filed ended
  giving_more {k} {at} {n} s u x h e d g a m r = by_test (eqb b 10) (eqb-true b 10) r
    where
      text : p ++ b ∷ [] ≡ s ++ (key_of k ++ (u ++ b ∷ []))
      text = rw e (simp append_assoc)

      line : (at ≡ 0 → ⊥) → b ≡ 10 → Reached (p ++ b ∷ []) (file_as l k at n) (Before (k + 1))
      line z is = before {k = k + 1} (put k u x) (rw (text, is, a, m) (line_more k s u x l h (given_fine g (omega arith)) d))

      grown : (y : Option ℕ) → value_grown k at n b ≡ y → stuck (further k at y) ≡ false → Reached (p ++ b ∷ []) l (further k at y)
      grown (Some v) q z =
          let f = fine k u b v h g (rw (a, m) at q) in
          giving {at = at + 1} s (u ++ b ∷ []) x h text d (given f.0) (rw a (sym (length-append u (b ∷ [])))) f.1
      grown None q z = absurd (false≢true (sym z))

      by_test :
          (t : Bool) → (t ≡ true → b ≡ 10) → stuck (cond t (cond (eqb at 0) Stuck (Before (k + 1))) (further k at (value_grown k at n b))) ≡ false
          → Reached (p ++ b ∷ []) (cond t (file_as l k at n) l) (cond t (cond (eqb at 0) Stuck (Before (k + 1))) (further k at (value_grown k at n b)))
      by_test true is z = let c = alive (eqb at 0) (Before (k + 1)) z in rw c.0 (line (eqb-false at 0 c.0) (is refl))
      by_test false is z = grown (value_grown k at n b) refl z

pub reached_more : {p : List ℕ} {l : Lines} {st : State} → Reached p l st → (b : ℕ) → stuck (state_after st b) ≡ false → Reached (p ++ b ∷ []) (filed l st b) (state_after st b)
unfolding state_after filed
reached_more (before x d) b r = before_more b x d r
reached_more (naming {k} {i} s x h g f e d) b r =
    let c = live (eqb b (key_byte k i)) (named k (i + 1)) r in
    rw c.0 (naming_more b s x h f e d (eqb-true b (key_byte k i) c.0))
reached_more (giving s u x h e d g a m) b r = giving_more b s u x h e d g a m r

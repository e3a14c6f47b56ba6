-- A text from a place on.
use Prim.Native.Nat.{ℕ, ◌+◌, ◌≤◌, ◌<◌}
use mathlib.Core.Path.{◌≡◌, ap, ◌∙◌}
use mathlib.Core.List.{List, [], ◌∷◌}
use native.Mathlib.Numerals.{add-one}
use native.Mathlib.Omega.{arith}
use lib.ListN.{length, get_or, drop}
use lib.Seq.{drop-cons, drop-length}

-- its byte, and the text from the next place on
pub byte : (s : List ℕ) (at : ℕ) → at < length s → drop at s ≡ get_or s at 0 ∷ drop (at + 1) s
byte s at h = rw (add-one, drop-cons s at 0)

pub at_end_lem : (s : List ℕ) (at : ℕ) → at ≤ length s → length s ≤ at → drop at s ≡ []
at_end_lem s at h g = let e : at ≡ length s = omega arith in ap (λ n. drop n s) e ∙ drop-length s

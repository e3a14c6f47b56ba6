-- Laws for the code.
use Prim.Native.Nat.{ℕ, suc, ◌+◌, ◌-◌, ◌<◌}
use Rattle.std.specs.Prelude.{◌≡◌, refl, Bool, ◌&&◌, List, [], ◌∷◌, ◌++◌, length}
use Rattle.std.proofs.Common.{sym, ap₂, ◌∙◌, append-nil, add-one}
use Rattle.std.proofs.Math.Path.{ap}
use native.Mathlib.Omega.{arith}
use Rattle.std.proofs.Math.ListN.{set, replicate}
use Rattle.words.specs.Below.{all_below, list_below}
use Rattle.words.specs.Lists.{length_list}

-- a turn of a loop that asks whether all words fit
pub all_turn : (n : ℕ) (P : ℕ → Bool) (a b : Bool) → a ≡ all_below n P → b ≡ P n → (a && b) ≡ all_below (n + 1) P
unfolding all_below
all_turn n P a b e h = rw add-one (ap₂ (λ (x y : Bool). x && y) e h)

-- a list of m entries of which the first n are f 0, f 1, .., as a loop lays them
module _ {A : Type 0} where
  abbrev pub laid : ℕ → A → ℕ → (ℕ → A) → List A
  laid m d n f = list_below n f ++ replicate (m - n) d

  set_behind : (xs : List A) (x y : A) (zs : List A) → set (xs ++ x ∷ zs) (length xs) y ≡ (xs ++ y ∷ []) ++ zs
  set_behind [] x y zs = refl
  set_behind (w ∷ xs) x y zs = ap (λ (l : List A). w ∷ l) (set_behind xs x y zs)

  pub laid_none : (m : ℕ) (d : A) (f : ℕ → A) → replicate m d ≡ laid m d 0 f
  unfolding list_below
  laid_none m d f = let all : m ≡ m - 0 = omega arith in ap (λ k. replicate k d) all

  pub laid_turn : (m : ℕ) (d : A) (n : ℕ) (f : ℕ → A) (l : List A) (x : A) → l ≡ laid m d n f → n < m → x ≡ f n → set l n x ≡ laid m d (n + 1) f
  unfolding list_below
  laid_turn m d n f l x e h is =
      let more : m - n ≡ suc (m - suc n) = omega arith in
      rw (add-one, e, is, more)
      (ap (λ k. set (list_below n f ++ d ∷ replicate (m - suc n) d) k (f n)) (sym (length_list n f)) ∙ set_behind (list_below n f) d (f n) (replicate (m - suc n) d))

  pub laid_all : (m : ℕ) (d : A) (f : ℕ → A) → laid m d m f ≡ list_below m f
  laid_all m d f = let none : m - m ≡ 0 = omega arith in rw none (append-nil (list_below m f))

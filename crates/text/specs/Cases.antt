-- Numbers told apart by a test.
use Rattle.std.specs.Prelude.{ℕ, ◌≤◌, ◌<◌, ◌≡◌, refl, Bool, true, false, cond, ◌||◌, ◌⊎◌, ltb}
use Rattle.std.proofs.Common.{sym, inl, inr, ⊎_elim, ltb-true, ltb-false, lt-ltb, le-ltb}
use Rattle.std.proofs.lemmas.Bool.{false≢true}

pub below_or_beyond : (m n : ℕ) → (m < n) ⊎ (n ≤ m)
below_or_beyond m n = by_test (ltb m n) refl
  where
    by_test : (b : Bool) → ltb m n ≡ b → (m < n) ⊎ (n ≤ m)
    by_test true e = inl (ltb-true m n e)
    by_test false e = inr (ltb-false m n e)

-- what a test chooses
pub if_below : {A : Type 0} (m n : ℕ) (P : A → Type 0) (x y : A) → (m < n → P x) → (n ≤ m → P y) → P (cond (ltb m n) x y)
if_below m n P x y f g =
    ⊎_elim (λ (l : m < n). rw (lt-ltb m n l) (f l)) (λ (l : n ≤ m). rw (le-ltb m n l) (g l)) (below_or_beyond m n)

-- what three tests choose: the first where one of them holds
pub if_one :
    {A : Type 0} (a b c : Bool) (P : A → Type 0) (x y : A) → ((a ≡ false → b ≡ false → c ≡ true) → P x) → (a ≡ false → b ≡ false → c ≡ false → P y)
    → P (cond ((a || b) || c) x y)
if_one true b c P x y f g = f (λ e h. absurd (false≢true (sym e)))
if_one false true c P x y f g = f (λ e h. absurd (false≢true (sym h)))
if_one false false true P x y f g = f (λ e h. refl)
if_one false false false P x y f g = g refl refl refl

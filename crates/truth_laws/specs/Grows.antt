-- Entries that a loop has stored and does not touch again.
use Rattle.std.specs.Prelude.{ℕ, zero, suc, ◌≤◌, ◌<◌, ◌≡◌}
use Rattle.std.proofs.Common.{◌∙◌, ⊎_elim, arith}
use Rattle.words.specs.Tests.{below_cases}

-- what no turn from turn n on changes is at the end as it was at turn n
pub stays : {A : Type 0} (g : ℕ → A) (most n : ℕ) → ((m : ℕ) → n ≤ m → m < most → g (suc m) ≡ g m) → (m : ℕ) → n ≤ m → m ≤ most → g m ≡ g n
stays g most n h zero l k = let e : n ≡ 0 = omega arith in rw e
stays g most n h (suc m) l k = ⊎_elim
    (λ (s : n < suc m). h m (omega arith) (omega arith) ∙ stays g most n h m (omega arith) (omega arith))
    (λ (e : n ≡ suc m). rw e)
    (below_cases {k = n} {n = suc m} (omega arith))

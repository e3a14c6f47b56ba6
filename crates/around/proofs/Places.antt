-- Positions along a lasso: where each stands, and what comes behind it.
use Rattle.std.specs.Prelude.{ℕ, suc, ◌+◌, ◌-◌, ◌*◌, ◌%◌, ◌≤◌, ◌<◌, ◌≡◌}
use Rattle.std.proofs.Common.{sym, ap, ◌∙◌, ⊎_elim, mod-lt, mod-eq_of_lt, mul-le-mul_left, mul-one, eq-or-lt_of_le, lt-ltb, le-ltb}
use native.Mathlib.Omega.{arith}
use Rattle.std.proofs.Math.Nat.{mod_self, suc-mod, mul-add-mod_self_right}
use Rattle.std.proofs.Math.Decide.{dec_lt}
use Rattle.around.specs.Around.{place}

module _ (s n : ℕ) (loops : s < n) where
  pub in_stem : (i : ℕ) → i < s → place s n i ≡ i
  unfolding place
  in_stem i h = rw (lt-ltb i s h)

  pub in_loop : (m : ℕ) → place s n (s + m) ≡ s + m % (n - s)
  unfolding place
  in_loop m = let e : s + m - s ≡ m = omega arith in rw (le-ltb (s + m) s (omega arith), e)

  -- as it is worked out
  pub in_round : (i : ℕ) → s ≤ i → s + (i - s) % (n - s) ≡ place s n i
  unfolding place
  in_round i h = rw (le-ltb i s h)

  some : 0 < n - s
  some = omega arith

  -- each stands below n
  pub place_below : (i : ℕ) → place s n i < n
  place_below i = elim (dec_lt i s) [
    | yes h ↦ rw (in_stem i h) (omega arith)
    | no h ↦
        let m = i - s in
        let e : i ≡ s + m = omega arith in
        let l = mod-lt m some in
        rw (e, in_loop m) (omega arith)
  ]

  -- the next position stands behind it, but behind the last stands the loop's first
  pub place_next : (i : ℕ) → suc (place s n i) < n → place s n (suc i) ≡ suc (place s n i)
  place_next i = elim (dec_lt i s) [ yes h ↦ stem h | no h ↦ loop (i - s) (omega arith) ]
    where
      stem : i < s → suc (place s n i) < n → place s n (suc i) ≡ suc (place s n i)
      stem h _ = rw (in_stem i h) (⊎_elim
          (λ (e : suc i ≡ s). let z : suc i ≡ s + 0 = omega arith in ap (place s n) z ∙ in_loop 0 ∙ ap (λ (k : ℕ). s + k) (mod-eq_of_lt some) ∙ sym z)
          (λ l. in_stem (suc i) l)
          (eq-or-lt_of_le h))

      loop : (m : ℕ) → i ≡ s + m → suc (place s n i) < n → place s n (suc i) ≡ suc (place s n i)
      loop m e h =
          let z : suc i ≡ s + suc m = omega arith in
          let q : place s n i ≡ s + m % (n - s) = ap (place s n) e ∙ in_loop m in
          let l : suc (m % (n - s)) < n - s = omega arith in
          ap (place s n) z ∙ in_loop (suc m) ∙ ap (λ (k : ℕ). s + k) (suc-mod m (n - s) ∙ mod-eq_of_lt l) ∙ omega arith

  pub place_round : (i : ℕ) → suc (place s n i) ≡ n → place s n (suc i) ≡ s
  place_round i = elim (dec_lt i s) [ yes h ↦ stem h | no h ↦ loop (i - s) (omega arith) ]
    where
      stem : i < s → suc (place s n i) ≡ n → place s n (suc i) ≡ s
      stem h e = let q = in_stem i h in absurd (omega arith)

      loop : (m : ℕ) → i ≡ s + m → suc (place s n i) ≡ n → place s n (suc i) ≡ s
      loop m e h =
          let z : suc i ≡ s + suc m = omega arith in
          let q : place s n i ≡ s + m % (n - s) = ap (place s n) e ∙ in_loop m in
          let l : suc (m % (n - s)) ≡ n - s = omega arith in
          ap (place s n) z ∙ in_loop (suc m) ∙ ap (λ (k : ℕ). s + k) (suc-mod m (n - s) ∙ ap (λ (k : ℕ). k % (n - s)) l ∙ mod_self (n - s)) ∙ omega arith

  -- and each of the loop's positions comes again and again
  pub place_again : (i j : ℕ) → s ≤ j → j < n → (k : ℕ) × (i ≤ k) × (place s n k ≡ j)
  place_again i j h l =
      let m = i * (n - s) + (j - s) in
      let far : i ≤ i * (n - s) = rw mul-one at (mul-le-mul_left i some) in
      let r : j - s < n - s = omega arith in (
        s + m,
        omega arith,
        in_loop m ∙ ap (λ (k : ℕ). s + k) (mul-add-mod_self_right i (n - s) (j - s) ∙ mod-eq_of_lt r) ∙ omega arith,
      )

  -- a place stands for itself, and what comes behind a position comes behind its place
  pub place_self : (j : ℕ) → j < n → place s n j ≡ j
  place_self j l = elim (dec_lt j s) [ yes h ↦ in_stem j h | no h ↦ loop (j - s) (omega arith) ]
    where
      loop : (m : ℕ) → j ≡ s + m → place s n j ≡ j
      loop m e =
          let r : m < n - s = omega arith in
          ap (place s n) e ∙ in_loop m ∙ ap (λ (k : ℕ). s + k) (mod-eq_of_lt r) ∙ sym e

  pub place_on : (i : ℕ) → place s n (suc (place s n i)) ≡ place s n (suc i)
  place_on i = ⊎_elim
      (λ (e : suc (place s n i) ≡ n). place_round (place s n i) (ap suc self ∙ e) ∙ sym (place_round i e))
      (λ l. place_next (place s n i) (rw self l) ∙ ap suc self ∙ sym (place_next i l))
      (eq-or-lt_of_le (place_below i))
    where
      self : place s n (place s n i) ≡ place s n i
      self = place_self (place s n i) (place_below i)

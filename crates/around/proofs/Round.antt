-- Going backward, once round the loop and then over all positions, with steps that keep order: what each position hands on is what it makes
-- of what the next one hands on, round the loop too. So an until or a release that is worked out so is one: it is not put off for ever.
use Prim.Native.Nat.{ℕ, zero, suc, ◌+◌, ◌-◌, ◌≤◌, ◌<◌}
use Rattle.std.specs.Prelude.{◌≡◌, refl, Bool, true, false, ◌&&◌, ◌||◌, not}
use Rattle.std.proofs.Common.{sym, ◌∙◌, ⊎_elim, true≢false, le_refl, eq-or-lt_of_le}
use Rattle.std.proofs.Math.Path.{ap}
use Rattle.std.proofs.Math.Bool.{So, or-true}
use Rattle.std.proofs.lemmas.Bool.{false≢true}
use native.Mathlib.Omega.{arith}
use Rattle.meaning.specs.Says.{Says}
use Rattle.words.specs.Truth.{true_or_false, says_itself, says_or, and_says}
use Rattle.theory.specs.Until.{Until, Release, Again, until_says, release_says}
use Rattle.node_value.specs.Back.{back}
use Rattle.around.specs.Around.{place}
use Rattle.around.proofs.Places.{place_below, place_next, place_round, place_again}

abbrev pub Step : Type 0
Step = ℕ → Bool → Bool

-- what the loop's first position hands on, from a guess behind the last
abbrev pub round : ℕ → ℕ → Step → Bool → Bool
round s n step guess = back step guess (n - s) s

-- what each position hands on, where the last is handed that
abbrev pub hands : ℕ → ℕ → Step → Bool → ℕ → Bool
hands s n step guess i = back step (round s n step guess) (n - i) i

-- a step that keeps order: more ahead, no less handed on
abbrev pub Keeps : Step → Type 0
Keeps step = (i : ℕ) (a b : Bool) → (So a → So b) → So (step i a) → So (step i b)

-- going back keeps order too
back_keeps : (step : Step) → Keeps step → (d i : ℕ) (a b : Bool) → (So a → So b) → So (back step a d i) → So (back step b d i)
unfolding back
back_keeps step m zero i a b h z = h z
back_keeps step m (suc d) i a b h z = m i _ _ (back_keeps step m d (suc i) a b h) z

-- and what keeps order on truth values does no more the second time
twice : (f : Bool → Bool) → (So (f false) → So (f true)) → (b : Bool) → f (f b) ≡ f b
twice f m b = go (f true) (f false) refl refl b
  where
    go : (t u : Bool) → f true ≡ t → f false ≡ u → (b : Bool) → f (f b) ≡ f b
    go true u e g true = rw (e, e)
    go false true e g true = absurd (false≢true (sym e ∙ m g))
    go false false e g true = rw (e, g)
    go true true e g false = rw (g, e)
    go false true e g false = absurd (false≢true (sym e ∙ m g))
    go t false e g false = rw (g, g)

module _ (s n : ℕ) (loops : s < n) (step : Step) (keeps : Keeps step) (guess : Bool) where
  abbrev on : ℕ → Bool
  on = hands s n step guess

  on_now : (i : ℕ) → i < n → on i ≡ step i (on (suc i))
  unfolding back
  on_now i l = let e : n - i ≡ suc (n - suc i) = omega arith in rw e

  on_last : on n ≡ round s n step guess
  unfolding back
  on_last = let e : n - n ≡ 0 = omega arith in rw e

  -- a second time round the loop changes nothing
  hands_first : on s ≡ round s n step guess
  hands_first = twice (λ b. back step b (n - s) s) (back_keeps step keeps (n - s) s false true (λ _. refl)) guess

  -- behind the last position comes the loop's first
  pub hands_next : (i : ℕ) → on (suc (place s n i)) ≡ on (place s n (suc i))
  hands_next i = ⊎_elim
      (λ (e : suc (place s n i) ≡ n). ap on e ∙ on_last ∙ sym (ap on (place_round s n loops i e) ∙ hands_first))
      (λ l. ap on (sym (place_next s n loops i l)))
      (eq-or-lt_of_le (place_below s n loops i))

  pub hands_unfold : (i : ℕ) → on (place s n i) ≡ step (place s n i) (on (place s n (suc i)))
  hands_unfold i = on_now (place s n i) (place_below s n loops i) ∙ ap (step (place s n i)) (hands_next i)

-- ---- until and release

abbrev pub until_step : (ℕ → Bool) → (ℕ → Bool) → Step
until_step x y j ahead = y j || (x j && ahead)

abbrev pub release_step : (ℕ → Bool) → (ℕ → Bool) → Step
release_step x y j ahead = y j && (x j || ahead)

pub until_keeps : (x y : ℕ → Bool) → Keeps (until_step x y)
until_keeps x y i a b h = go (y i) (x i)
  where
    go : (q p : Bool) → So (q || (p && a)) → So (q || (p && b))
    go true p z = refl
    go false true z = h z
    go false false z = z

pub release_keeps : (x y : ℕ → Bool) → Keeps (release_step x y)
release_keeps x y i a b h = go (y i) (x i)
  where
    go : (q p : Bool) → So (q && (p || a)) → So (q && (p || b))
    go true true z = refl
    go true false z = h z
    go false p z = z

-- an until that comes true from "no" behind the last position is met on the way, and a release that fails from "yes" is broken there
until_met : (x y : ℕ → Bool) (d i : ℕ) → So (back (until_step x y) false d i) → (j : ℕ) × (i ≤ j) × (j < i + d) × So (y j)
unfolding back
until_met x y zero i h = absurd (false≢true h)
until_met x y (suc d) i h = ⊎_elim
    (λ s. (i, le_refl i, omega arith, s))
    (λ s. let (j, le, lt, m) = until_met x y d (suc i) s.1 in (j, omega arith, omega arith, m))
    ((says_or (says_itself (y i)) (and_says (x i) _)).0 h)

release_broken : (x y : ℕ → Bool) (d i : ℕ) → back (release_step x y) true d i ≡ false → (j : ℕ) × (i ≤ j) × (j < i + d) × (y j ≡ false)
unfolding back
release_broken x y zero i h = absurd (true≢false h)
release_broken x y (suc d) i h =
    go (y i) (x i) (back (release_step x y) true d (suc i)) refl h
    (λ e. let (j, le, lt, m) = release_broken x y d (suc i) e in (j, omega arith, omega arith, m))
  where
    Broken : Type 0
    Broken = (j : ℕ) × (i ≤ j) × (j < i + suc d) × (y j ≡ false)

    go : (b a rest : Bool) → y i ≡ b → (b && (a || rest)) ≡ false → (rest ≡ false → Broken) → Broken
    go false a rest e h next = (i, le_refl i, omega arith, e)
    go true true rest e h next = absurd (true≢false h)
    go true false rest e h next = next h

-- x and y have the truth of P and Q along the lasso
module _ (s n : ℕ) (loops : s < n) {P Q : ℕ → Type 0} (x y : ℕ → Bool)
    (p : (i : ℕ) → Says (x (place s n i)) (P i)) (q : (i : ℕ) → Says (y (place s n i)) (Q i)) where
  abbrev until_on : ℕ → Bool
  until_on i = hands s n (until_step x y) false (place s n i)

  abbrev release_on : ℕ → Bool
  release_on i = hands s n (release_step x y) true (place s n i)

  -- an until that is handed on round the loop is met in it
  until_again : Again (λ i. not (until_on i) || y (place s n i))
  until_again i = ⊎_elim met off (true_or_false (round s n (until_step x y) false))
    where
      met : So (round s n (until_step x y) false) → (j : ℕ) × (i ≤ j) × So (not (until_on j) || y (place s n j))
      met h =
          let (j, le, lt, m) = until_met x y (n - s) s h in
          let (k, far, e) = place_again s n loops i j le (omega arith) in
          (k, far, rw (e, m) (or-true (not (hands s n (until_step x y) false j))))

      off : round s n (until_step x y) false ≡ false → (j : ℕ) × (i ≤ j) × So (not (until_on j) || y (place s n j))
      off h =
          let (k, far, e) = place_again s n loops i s (le_refl s) loops in
          (k, far, rw (e, hands_first s n loops (until_step x y) (until_keeps x y) false, h))

  -- a release that is given up round the loop is broken in it
  release_again : Again (λ i. release_on i || not (y (place s n i)))
  release_again i = ⊎_elim kept broken (true_or_false (round s n (release_step x y) true))
    where
      kept : So (round s n (release_step x y) true) → (j : ℕ) × (i ≤ j) × So (release_on j || not (y (place s n j)))
      kept h =
          let (k, far, e) = place_again s n loops i s (le_refl s) loops in
          (k, far, rw (e, hands_first s n loops (release_step x y) (release_keeps x y) true, h))

      broken : round s n (release_step x y) true ≡ false → (j : ℕ) × (i ≤ j) × So (release_on j || not (y (place s n j)))
      broken h =
          let (j, le, lt, m) = release_broken x y (n - s) s h in
          let (k, far, e) = place_again s n loops i j le (omega arith) in
          (k, far, rw (e, m) (or-true (hands s n (release_step x y) true j)))

  pub until_round : (i : ℕ) → Says (hands s n (until_step x y) false (place s n i)) (Until P Q i)
  until_round = until_says p q until_on (hands_unfold s n loops (until_step x y) (until_keeps x y) false) until_again

  pub release_round : (i : ℕ) → Says (hands s n (release_step x y) true (place s n i)) (Release P Q i)
  release_round = release_says p q release_on (hands_unfold s n loops (release_step x y) (release_keeps x y) true) release_again

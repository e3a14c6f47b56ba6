-- A few facts by which a reader can tell that the definition says what it should.
use Rattle.std.specs.Prelude.{ℕ, suc, ◌<◌, ◌≡◌, refl, [], ◌∷◌, ◌↔◌, get_or}
use native.Mathlib.Omega.{arith}
use Rattle.std.proofs.Math.Nat.{le_refl}
use Rattle.std.proofs.Math.Path.{subst}
use Rattle.std.proofs.lemmas.Bool.{false≢true}
use Rattle.std.proofs.Math.Logic.{inl, ⊎_elim}
use Rattle.meaning.specs.Bit.{bit}
use Rattle.meaning.specs.Formula.{Formula, always, never, prop, neg, next, finally, globally, until, release, Word, Holds}
use Rattle.within.specs.Within.{HoldsWithin}

module _ (n : ℕ) (w : Word) (a b : Formula) (i : ℕ) where
  -- at the last event X is false of every rule, and so its negation is true, X of the negation too
  module _ (last : suc i ≡ n) where
    pub next_last : HoldsWithin n w (next a) i → ⊥
    unfolding HoldsWithin
    next_last (lt, h) = omega arith

    pub not_next_last : HoldsWithin n w (neg (next a)) i × (HoldsWithin n w (next (neg a)) i → ⊥)
    unfolding HoldsWithin
    not_next_last = (next_last, λ (lt, h). omega arith)

    -- F and G are there what holds now
    pub finally_last : HoldsWithin n w (finally a) i ↔ HoldsWithin n w a i
    unfolding HoldsWithin
    finally_last = (
      λ (j, le, lt, h). let e : j ≡ i = omega arith in subst (HoldsWithin n w a) e h,
      λ h. (i, le_refl i, omega arith, h),
    )

    pub globally_last : HoldsWithin n w (globally a) i ↔ HoldsWithin n w a i
    unfolding HoldsWithin
    globally_last = (
      λ h. h i (le_refl i) (omega arith),
      λ h j le lt. let e : i ≡ j = omega arith in subst (HoldsWithin n w a) e h,
    )

  -- before it X a is a at the next event
  pub next_before : suc i < n → HoldsWithin n w (next a) i ↔ HoldsWithin n w a (suc i)
  unfolding HoldsWithin
  next_before lt = (λ h. h.1, λ h. (lt, h))

  -- U is met within the events, and R holds its right side now
  pub until_comes : HoldsWithin n w (until a b) i → HoldsWithin n w (finally b) i
  unfolding HoldsWithin
  until_comes (j, le, lt, h, _) = (j, le, lt, h)

  pub release_now : i < n → HoldsWithin n w (release a b) i → HoldsWithin n w b i
  unfolding HoldsWithin
  release_now lt h = ⊎_elim (λ x. x) (λ (k, le, l, _). absurd (omega arith)) (h i (le_refl i) lt)

  -- F a is 1 U a, and G a is 0 R a
  pub finally_until : HoldsWithin n w (finally a) i ↔ HoldsWithin n w (until always a) i
  unfolding HoldsWithin
  finally_until = (λ (j, le, lt, h). (j, le, lt, h, λ _ _ _. tt), λ (j, le, lt, h, _). (j, le, lt, h))

  pub globally_release : HoldsWithin n w (globally a) i ↔ HoldsWithin n w (release never a) i
  unfolding HoldsWithin
  globally_release = (λ h j le lt. inl (h j le lt), λ h j le lt. ⊎_elim (λ x. x) (λ (_, _, _, z). absurd z) (h j le lt))

-- what is met within the events is met on every endless word that goes on from them, and what is broken within them is broken there
module _ (n : ℕ) (w : Word) (p i : ℕ) where
  pub finally_endless : HoldsWithin n w (finally (prop p)) i → Holds w (finally (prop p)) i
  unfolding HoldsWithin Holds
  finally_endless (j, le, lt, h) = (j, le, h)

  pub globally_endless : Holds w (globally (prop p)) i → HoldsWithin n w (globally (prop p)) i
  unfolding HoldsWithin Holds
  globally_endless h j le lt = h j le

-- a day of three events, at the second of which a gate is open
abbrev day : Word
day i = get_or (0 ∷ 1 ∷ 0 ∷ []) i 0

-- that it opens is met, also where a fourth event might have broken it; that it opens again behind that is not
pub day_opens : HoldsWithin 3 day (finally (prop 0)) 0
unfolding HoldsWithin bit
day_opens = (1, omega arith, omega arith, refl)

pub day_opens_once : HoldsWithin 3 day (finally (prop 0)) 2 → ⊥
unfolding HoldsWithin bit
day_opens_once (j, le, lt, h) = let e : j ≡ 2 = omega arith in false≢true (rw e at h)

-- that it stays shut from the third event on is kept up to the last, though it might open the next day
pub day_stays_shut : HoldsWithin 3 day (globally (neg (prop 0))) 2
unfolding HoldsWithin bit
day_stays_shut j le lt h = let e : j ≡ 2 = omega arith in false≢true (rw e at h)

-- three events on there is none: what is said of it is false, and its negation true
pub day_is_over : (HoldsWithin 3 day (next (next (next always))) 0 → ⊥) × HoldsWithin 3 day (neg (next (next (next always)))) 0
unfolding HoldsWithin
day_is_over = (λ h. omega (arith, h.1.1.0), λ h. omega (arith, h.1.1.0))

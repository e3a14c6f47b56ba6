-- The propositions of a rule: on a finite trace nothing else is asked of the labels, and nothing of what stands before it.
use Prim.Native.Nat.{ℕ, ◌+◌, ◌-◌, ◌≤◌, ◌<◌}
use Rattle.std.specs.Prelude.{◌≡◌, ◌↔◌, ◌⊎◌}
use Rattle.std.proofs.Math.Path.{subst}
use Rattle.std.proofs.Math.Logic.{⊎_map}
use native.Mathlib.Omega.{arith}
use Rattle.meaning.specs.Bit.{bit}
use Rattle.meaning.specs.Formula.{Formula, never, always, prop, neg, next, finally, globally, until, release, and, or, implies, Word}
use Rattle.within.specs.Within.{HoldsWithin}

-- the proposition p occurs in the rule
unfoldable pub Uses : ℕ → Formula → Type 0
Uses p never = ⊥
Uses p always = ⊥
Uses p (prop k) = k ≡ p
Uses p (neg a) = Uses p a
Uses p (next a) = Uses p a
Uses p (finally a) = Uses p a
Uses p (globally a) = Uses p a
Uses p (until a b) = Uses p a ⊎ Uses p b
Uses p (release a b) = Uses p a ⊎ Uses p b
Uses p (and a b) = Uses p a ⊎ Uses p b
Uses p (or a b) = Uses p a ⊎ Uses p b
Uses p (implies a b) = Uses p a ⊎ Uses p b

-- ---- a trace within a longer one

module _ (s n : ℕ) (w w' : Word) where
  -- in what the rule uses, the n labels of w' are those of w from position s on
  abbrev pub Alike : Formula → Type 0
  Alike f = (i : ℕ) → i < n → (p : ℕ) → Uses p f → bit (w' i) p ≡ bit (w (s + i)) p

  abbrev pub Same : Formula → Type 0
  Same f = (i : ℕ) → i < n → HoldsWithin n w' f i ↔ HoldsWithin (s + n) w f (s + i)

  -- at a position of the longer one
  pub same_at : (a : Formula) → Same a → (j : ℕ) → s ≤ j → j < s + n → HoldsWithin n w' a (j - s) ↔ HoldsWithin (s + n) w a j
  same_at a e j le lt = let back : s + (j - s) ≡ j = omega arith in subst (λ (k : ℕ). HoldsWithin n w' a (j - s) ↔ HoldsWithin (s + n) w a k) back (e (j - s) (omega arith))

  pub until_same : (a b : Formula) → Same a → Same b → Same (until a b)
  unfolding HoldsWithin
  until_same a b e f i l = (
    λ (j, le, lt, h, g). (s + j, omega arith, omega arith, (f j lt).0 h, λ k m o. (same_at a e k (omega arith) (omega arith)).0 (g (k - s) (omega arith) (omega arith))),
    λ (j, le, lt, h, g). (j - s, omega arith, omega arith, (same_at b f j (omega arith) lt).1 h, λ k m o. (e k (omega arith)).1 (g (s + k) (omega arith) (omega arith))),
  )

  pub release_same : (a b : Formula) → Same a → Same b → Same (release a b)
  unfolding HoldsWithin
  release_same a b e f i l = (
    λ h j le lt. ⊎_map (same_at b f j (omega arith) lt).0 (λ (k, m, o, g). (s + k, omega arith, omega arith, (e k (omega arith)).0 g)) (h (j - s) (omega arith) (omega arith)),
    λ h j le lt. ⊎_map (f j lt).1 (λ (k, m, o, g). (k - s, omega arith, omega arith, (same_at a e k (omega arith) (omega arith)).1 g)) (h (s + j) (omega arith) (omega arith)),
  )

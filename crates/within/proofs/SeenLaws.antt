-- More of specs/Seen. The propositions of a rule: on a finite trace nothing else is asked of the labels, and nothing of what stands before it.
use mathlib.Core.Logic.Iff
use Prim.Native.Nat.{ℕ, suc, ◌+◌, ◌-◌, ◌≤◌, ◌<◌}
use Rattle.std.specs.Prelude.{◌≡◌, refl, ◌↔◌, List, length}
use Rattle.std.proofs.Math.Path.{subst}
use Rattle.std.proofs.Common.{inl, inr, zero-add}
use Rattle.std.proofs.Math.Logic.{⊎_map}
use Rattle.std.proofs.Math.Bool.{So}
use native.Mathlib.Omega.{arith}
use Rattle.meaning.specs.Bit.{bit}
use Rattle.meaning.specs.Formula.{Formula, never, always, prop, neg, next, finally, globally, until, release, and, or, implies, Word}
use Rattle.meaning.specs.Event.{Seen, seen_at, Agrees}
use Rattle.within.specs.Within.{HoldsWithin}
use Rattle.within.specs.Seen.{Uses}
use Rattle.within.specs.Seen as of_seen

-- ---- a trace within a longer one

module _ (s n : ℕ) (w w' : Word) where
  abbrev Alike : Formula → Type 0
  Alike = of_seen.Alike s n w w'

  abbrev Same : Formula → Type 0
  Same = of_seen.Same s n w w'

  abbrev same_at : (a : Formula) → Same a → (j : ℕ) → s ≤ j → j < s + n → HoldsWithin n w' a (j - s) ↔ HoldsWithin (s + n) w a j
  same_at = of_seen.same_at s n w w'

  next_same : (a : Formula) → Same a → Same (next a)
  unfolding HoldsWithin
  next_same a e i l =
      let on : s + suc i ≡ suc (s + i) = omega arith in (
        λ (lt, h). (omega arith, subst (HoldsWithin (s + n) w a) on ((e (suc i) lt).0 h)),
        λ (lt, h). let in-time : suc i < n = omega arith in (in-time, (e (suc i) in-time).1 (rw on h)),
      )

  finally_same : (a : Formula) → Same a → Same (finally a)
  unfolding HoldsWithin
  finally_same a e i l = (
    λ (j, le, lt, h). (s + j, omega arith, omega arith, (e j lt).0 h),
    λ (j, le, lt, h). (j - s, omega arith, omega arith, (same_at a e j (omega arith) lt).1 h),
  )

  globally_same : (a : Formula) → Same a → Same (globally a)
  unfolding HoldsWithin
  globally_same a e i l = (
    λ h j le lt. (same_at a e j (omega arith) lt).0 (h (j - s) (omega arith) (omega arith)),
    λ h j le lt. (e j lt).1 (h (s + j) (omega arith) (omega arith)),
  )

  abbrev until_same : (a b : Formula) → Same a → Same b → Same (until a b)
  until_same = of_seen.until_same s n w w'

  abbrev release_same : (a b : Formula) → Same a → Same b → Same (release a b)
  release_same = of_seen.release_same s n w w'

  -- then it holds on the one where it holds on the other
  pub holds_same : (f : Formula) → Alike f → Same f
  unfolding HoldsWithin Uses
  holds_same never u i l = Iff.rfl
  holds_same always u i l = Iff.rfl
  holds_same (prop p) u i l = rw (u i l p refl) Iff.rfl
  holds_same (neg a) u i l = Iff.not (holds_same a u i l)
  holds_same (next a) u i l = next_same a (holds_same a u) i l
  holds_same (finally a) u i l = finally_same a (holds_same a u) i l
  holds_same (globally a) u i l = globally_same a (holds_same a u) i l
  holds_same (until a b) u i l = until_same a b (holds_same a (λ i l p h. u i l p (inl h))) (holds_same b (λ i l p h. u i l p (inr h))) i l
  holds_same (release a b) u i l = release_same a b (holds_same a (λ i l p h. u i l p (inl h))) (holds_same b (λ i l p h. u i l p (inr h))) i l
  holds_same (and a b) u i l = Iff.and (holds_same a (λ i l p h. u i l p (inl h)) i l) (holds_same b (λ i l p h. u i l p (inr h)) i l)
  holds_same (or a b) u i l =
      let x = holds_same a (λ i l p h. u i l p (inl h)) i l in
      let y = holds_same b (λ i l p h. u i l p (inr h)) i l in
      (⊎_map x.0 y.0, ⊎_map x.1 y.1)
  holds_same (implies a b) u i l =
      let x = holds_same a (λ i l p h. u i l p (inl h)) i l in
      let y = holds_same b (λ i l p h. u i l p (inr h)) i l in
      (λ h z. y.0 (h (x.1 z)), λ h z. y.1 (h (x.0 z)))

-- where each event saw all propositions of the rule, it holds by the values seen where it holds by any labels that agree with the events
pub holds_seen : (es : List Seen) (f : Formula) → ((i : ℕ) → i < length es → (p : ℕ) → Uses p f → So (bit (seen_at es i).see p))
    → (w : Word) → ((i : ℕ) → i < length es → Agrees (seen_at es i) (w i))
    → (i : ℕ) → i < length es → HoldsWithin (length es) (λ j. (seen_at es j).val) f i ↔ HoldsWithin (length es) w f i
holds_seen es f sees w agrees i l =
    rw (zero-add (length es), zero-add i) at (holds_same 0 (length es) w (λ j. (seen_at es j).val) f (λ i l p u. rw zero-add (agrees i l p (sees i l p u))) i l)

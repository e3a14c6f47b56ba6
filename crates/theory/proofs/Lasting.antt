-- The truth lemma: values that fit at every step, and settle every part again and again, are the right ones.
use mathlib.Core.Logic.Iff
use Rattle.std.specs.Prelude.{ℕ, suc, ◌+◌, Bool, ◌∷◌, ◌++◌}
use Rattle.std.proofs.Common.{sym}
use Rattle.std.proofs.Math.Path.{subst}
use Rattle.std.proofs.Math.Bool.{So}
use Rattle.meaning.specs.Bit.{bit}
use Rattle.meaning.specs.Says.{Says}
use Rattle.meaning.specs.Formula.{Formula, never, always, prop, neg, next, finally, globally, until, release, and, or, implies, parts, temporal, Word, Holds}
use Rattle.meaning.specs.Pair.{Gives}
use Rattle.meaning.specs.Step.{value, Value, Part, next_part, untilPart, releasePart, fit, table, fits}
use Rattle.theory.specs.Move.{settled}
use Rattle.theory.specs.Each.{Each, each_append, each_of, each_member, Numbered, every_says}
use Rattle.theory.specs.Until.{Until, Release, Again, until_says, release_says, finally_until, globally_release}
use Rattle.theory.specs.Parts.{parts_append, Given, RightFrom, gives_right}
use Rattle.theory.specs.Fit.{value_right}
use Rattle.words.specs.Truth.{says_itself, says_true, says_false, beq_says}

-- along the labels w and the values v the part fits at every step, and is settled again and again
pub record Lasts (w : Word) (v : ℕ → ℕ) (c : Part) : Type 0 where
  pub fits : (i : ℕ) → So (fit c (w i) (v i) (w (suc i)) (v (suc i)))
  pub again : Again (λ i. settled c (w i) (v i))

module _ (w : Word) (v : ℕ → ℕ) where
  -- a says at every position whether P holds
  abbrev Tells : Value → (ℕ → Type 0) → Type 0
  Tells a P = (i : ℕ) → Says (a (w i) (v i)) (P i)

  next_lasts : {Q : ℕ → Type 0} {k : ℕ} {b : Value} → Tells b Q → Lasts w v (next_part k b) → Tells (λ l v. bit v k) (λ i. Q (suc i))
  unfolding fit
  next_lasts {Q} q h i = subst (λ (b : Bool). Says b (Q (suc i))) (sym ((beq_says _ _).0 (h.fits i))) (q (suc i))

  until_lasts : {P Q : ℕ → Type 0} {k : ℕ} {a b : Value} → Tells a P → Tells b Q → Lasts w v (untilPart k a b) → Tells (λ l v. bit v k) (Until P Q)
  unfolding fit settled
  until_lasts {k = k} p q h = until_says p q (λ i. bit (v i) k) (λ i. (beq_says _ _).0 (h.fits i)) h.again

  release_lasts : {P Q : ℕ → Type 0} {k : ℕ} {a b : Value} → Tells a P → Tells b Q → Lasts w v (releasePart k a b) → Tells (λ l v. bit v k) (Release P Q)
  unfolding fit settled
  release_lasts {k = k} p q h = release_says p q (λ i. bit (v i) k) (λ i. (beq_says _ _).0 (h.fits i)) h.again

  abbrev Always : Formula → ℕ → Type 0
  Always f n = (i : ℕ) → RightFrom w f n (v i) i

  -- the value of a side whose parts are right
  side : (a : Formula) (n : ℕ) → Always a n → Tells (value a n) (Holds w a)
  side a n g i = value_right w a n (v i) i (g i)

  -- two sides, of which each is right if it lasts
  sides : (a b : Formula) (n : ℕ) → (Each (Lasts w v) (table a n) → Always a n) → (Each (Lasts w v) (table b (n + parts a)) → Always b (n + parts a))
      → Each (Lasts w v) (table a n ++ table b (n + parts a)) → (i : ℕ) → Numbered (Given w (v i) i) (temporal a ++ temporal b) n
  sides a b n g k h i =
      let (s, t) = (each_append (Lasts w v) (table a n) (table b (n + parts a))).0 h in
      (parts_append (Given w (v i) i) a (temporal b) n).1 (g s i, k t i)

  lasts_right : (f : Formula) (n : ℕ) → Each (Lasts w v) (table f n) → Always f n
  unfolding temporal Holds table
  lasts_right never n h i = tt
  lasts_right always n h i = tt
  lasts_right (prop p) n h i = tt
  lasts_right (neg a) n h i = lasts_right a n h i
  lasts_right (next a) n h i = let g = lasts_right a (suc n) h.1 in (next_lasts (side a (suc n) g) h.0 i, g i)
  lasts_right (finally a) n h i =
      let g = lasts_right a (suc n) h.1 in
      (Iff.trans (until_lasts (λ _. says_true) (side a (suc n) g) h.0 i) finally_until, g i)
  lasts_right (globally a) n h i =
      let g = lasts_right a (suc n) h.1 in
      (Iff.trans (release_lasts (λ _. says_false) (side a (suc n) g) h.0 i) globally_release, g i)
  lasts_right (until a b) n h i =
      let (s, t) = (each_append (Lasts w v) (table a n) _).0 h in
      let g = lasts_right a n s in
      let k = lasts_right b (suc (n + parts a)) t.1 in
      (parts_append (Given w (v i) i) a (until a b ∷ temporal b) n).1
      (g i, (until_lasts (side a n g) (side b (suc (n + parts a)) k) t.0 i, k i))
  lasts_right (release a b) n h i =
      let (s, t) = (each_append (Lasts w v) (table a n) _).0 h in
      let g = lasts_right a n s in
      let k = lasts_right b (suc (n + parts a)) t.1 in
      (parts_append (Given w (v i) i) a (release a b ∷ temporal b) n).1
      (g i, (release_lasts (side a n g) (side b (suc (n + parts a)) k) t.0 i, k i))
  lasts_right (and a b) n h i = sides a b n (lasts_right a n) (lasts_right b (n + parts a)) h i
  lasts_right (or a b) n h i = sides a b n (lasts_right a n) (lasts_right b (n + parts a)) h i
  lasts_right (implies a b) n h i = sides a b n (lasts_right a n) (lasts_right b (n + parts a)) h i

  -- the truth lemma
  pub lasting : (f : Formula) → ((i : ℕ) → So (fits f (w i) (v i) (w (suc i)) (v (suc i))))
      → Each (λ c. Again (λ i. settled c (w i) (v i))) (table f 0) → (i : ℕ) → Gives w f (v i) i
  unfolding fits
  lasting f steps again i = (gives_right w f (v i) i).1 (lasts_right f 0 (each_of (Lasts w v) (table f 0) (λ c m. record {
    fits = λ i. each_member (λ c. So (fit c (w i) (v i) (w (suc i)) (v (suc i)))) m ((every_says _ _ (λ c. says_itself _) (table f 0)).0 (steps i));
    again = each_member (λ c. Again (λ i. settled c (w i) (v i))) m again;
  })) i)

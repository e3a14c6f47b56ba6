-- On a lasso the right values settle every part again and again.
use Prim.Native.Nat.{ℕ, suc, ◌+◌, ◌≤◌, ◌<◌}
use native.Mathlib.Omega.{arith}
use Rattle.std.specs.Prelude.{refl, ◌⊎◌, Bool, ◌||◌, not, List, ◌∷◌, ◌++◌, length}
use Rattle.std.proofs.Common.{sym, ◌∙◌, inr, ⊎_elim}
use Rattle.std.proofs.Math.Logic.{inl}
use Rattle.std.proofs.Math.Bool.{So}
use Rattle.std.proofs.lemmas.Bool.{false≢true}
use Rattle.meaning.specs.Bit.{bit}
use Rattle.meaning.specs.Says.{Says}
use Rattle.meaning.specs.Formula.{Formula, never, always, prop, neg, next, finally, globally, until, release, and, or, implies, parts, temporal, Word, Holds}
use Rattle.meaning.specs.Run.{Plant, Lasso, labels_along}
use Rattle.meaning.specs.Pair.{Gives}
use Rattle.meaning.specs.Step.{value, Part, table}
use Rattle.theory.specs.Move.{settled}
use Rattle.theory.specs.Each.{Each, each_append, Numbered}
use Rattle.theory.specs.Until.{Again}
use Rattle.theory.specs.Parts.{parts_append, Given, RightFrom, gives_right}
use Rattle.theory.specs.Fit.{value_right}
use Rattle.theory.specs.Decide.{truth_says}
use Rattle.words.specs.Truth.{says_itself, true_or_false, says_dec, says_not, says_or, says_implies}

module _ (T : Plant) (L : Lasso) (loops : 0 < length L.loop) where
  abbrev w : Word
  w = labels_along T L

  -- a rule fails somewhere from i on, or holds from i on
  fails_or_holds : (a : Formula) (i : ℕ) → ((j : ℕ) × (i ≤ j) × (Holds w a j → ⊥)) ⊎ ((j : ℕ) → i ≤ j → Holds w a j)
  unfolding Holds
  fails_or_holds a i = go (says_dec (truth_says T L loops (finally (neg a)) i))
    where
      A : ℕ → Type 0
      A = Holds w a

      always_so : (((j : ℕ) × (i ≤ j) × (A j → ⊥)) → ⊥) → (j : ℕ) → i ≤ j → Dec (A j) → A j
      always_so k j le (yes h) = h
      always_so k j le (no n) = absurd (k (j, le, n))

      go : Dec ((j : ℕ) × (i ≤ j) × (A j → ⊥)) → ((j : ℕ) × (i ≤ j) × (A j → ⊥)) ⊎ ((j : ℕ) → i ≤ j → A j)
      go (yes h) = inl h
      go (no k) = inr λ j le. always_so k j le (says_dec (truth_says T L loops a j))

  -- what holds later is settled: where it is said, it comes
  comes : (x r : ℕ → Bool) (B : ℕ → Type 0) → ((i : ℕ) → Says (r i) (B i)) → ((i : ℕ) → So (x i) → (j : ℕ) × (i ≤ j) × B j)
      → Again (λ j. not (x j) || r j)
  comes x r B rs h i = ⊎_elim
      (λ t. let (j, le, b) = h i t in (j, le, (says_implies (says_itself (x j)) (rs j)).1 (λ _. b)))
      (λ f. (i, omega arith, (says_implies (says_itself (x i)) (rs i)).1 (λ t. absurd (false≢true (sym f ∙ t)))))
      (true_or_false (x i))

  -- what holds always is settled: where it is denied, it fails
  fails : (b : Formula) (x r : ℕ → Bool) → ((i : ℕ) → Says (r i) (Holds w b i))
      → ((i : ℕ) → ((j : ℕ) → i ≤ j → Holds w b j) → So (x i)) → Again (λ j. x j || not (r j))
  fails b x r rs h i = ⊎_elim
      (λ (j, le, n). (j, le, (says_or (says_itself (x j)) (says_not (rs j))).1 (inr n)))
      (λ k. (i, omega arith, (says_or (says_itself (x i)) (says_not (rs i))).1 (inl (h i k))))
      (fails_or_holds b i)

  module _ (v : ℕ → ℕ) where
    abbrev Settled : List Part → Type 0
    Settled = Each (λ c. Again (λ i. settled c (w i) (v i)))

    abbrev Always : Formula → ℕ → Type 0
    Always f n = (i : ℕ) → RightFrom w f n (v i) i

    both : (a b : Formula) (n : ℕ) → (Always a n → Settled (table a n)) → (Always b (n + parts a) → Settled (table b (n + parts a)))
        → ((i : ℕ) → Numbered (Given w (v i) i) (temporal a ++ temporal b) n) → Settled (table a n ++ table b (n + parts a))
    both a b n h k g = (each_append _ (table a n) (table b (n + parts a))).1 (
      h (λ i. ((parts_append (Given w (v i) i) a (temporal b) n).0 (g i)).0),
      k (λ i. ((parts_append (Given w (v i) i) a (temporal b) n).0 (g i)).1),
    )

    amid : (f a b : Formula) (n : ℕ) → ((i : ℕ) → Numbered (Given w (v i) i) (temporal a ++ f ∷ temporal b) n)
        → (i : ℕ) → RightFrom w a n (v i) i × (Given w (v i) i f (n + parts a) × RightFrom w b (suc (n + parts a)) (v i) i)
    amid f a b n g i = (parts_append (Given w (v i) i) a (f ∷ temporal b) n).0 (g i)

    right_settles : (f : Formula) (n : ℕ) → Always f n → Settled (table f n)
    unfolding settled table temporal Holds
    right_settles never n g = tt
    right_settles always n g = tt
    right_settles (prop p) n g = tt
    right_settles (neg a) n g = right_settles a n g
    right_settles (next a) n g = (λ i. (i, omega arith, refl), right_settles a (suc n) (λ i. (g i).1))
    right_settles (finally a) n g = (
      comes (λ i. bit (v i) n) (λ i. value a (suc n) (w i) (v i)) (Holds w a) (λ i. value_right w a (suc n) (v i) i (g i).1) (λ i t. (g i).0.0 t),
      right_settles a (suc n) (λ i. (g i).1),
    )
    right_settles (globally a) n g = (
      fails a (λ i. bit (v i) n) (λ i. value a (suc n) (w i) (v i)) (λ i. value_right w a (suc n) (v i) i (g i).1) (λ i k. (g i).0.1 k),
      right_settles a (suc n) (λ i. (g i).1),
    )
    right_settles (until a b) n g =
        let m = n + parts a in
        let s = amid (until a b) a b n g in
        (each_append _ (table a n) _).1 (
          right_settles a n (λ i. (s i).0),
          (
            comes (λ i. bit (v i) m) (λ i. value b (suc m) (w i) (v i)) (Holds w b) (λ i. value_right w b (suc m) (v i) i (s i).1.1)
                (λ i t. let (j, le, h, _) = (s i).1.0.0 t in (j, le, h)),
            right_settles b (suc m) (λ i. (s i).1.1),
          ),
        )
    right_settles (release a b) n g =
        let m = n + parts a in
        let s = amid (release a b) a b n g in
        (each_append _ (table a n) _).1 (
          right_settles a n (λ i. (s i).0),
          (
            fails b (λ i. bit (v i) m) (λ i. value b (suc m) (w i) (v i)) (λ i. value_right w b (suc m) (v i) i (s i).1.1)
                (λ i k. (s i).1.0.1 (λ j le. inl (k j le))),
            right_settles b (suc m) (λ i. (s i).1.1),
          ),
        )
    right_settles (and a b) n g = both a b n (right_settles a n) (right_settles b (n + parts a)) g
    right_settles (or a b) n g = both a b n (right_settles a n) (right_settles b (n + parts a)) g
    right_settles (implies a b) n g = both a b n (right_settles a n) (right_settles b (n + parts a)) g

    -- right values settle every part
    pub settles : (f : Formula) → ((i : ℕ) → Gives w f (v i) i) → Settled (table f 0)
    settles f g = right_settles f 0 (λ i. (gives_right w f (v i) i).0 (g i))

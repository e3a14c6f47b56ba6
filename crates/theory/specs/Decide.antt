-- On a lasso the truth of every rule at every position is decided.
use mathlib.Core.Logic.Iff
use Rattle.std.specs.Prelude.{ℕ, suc, ◌<◌, Bool, true, false, ◌&&◌, ◌||◌, not, leb, length}
use native.Mathlib.Omega.{arith}
use Rattle.std.proofs.Math.Logic.{⊎_map}
use Rattle.meaning.specs.Bit.{bit}
use Rattle.meaning.specs.Says.{Says}
use Rattle.meaning.specs.Formula.{Formula, never, always, prop, neg, next, finally, globally, until, release, and, or, implies, Holds}
use Rattle.meaning.specs.Run.{Plant, Lasso, labels_along}
use Rattle.words.specs.Below.{any_below, all_below}
use Rattle.theory.specs.Period.{horizon, near}
use Rattle.words.specs.Truth.{says_not, says_and, says_or, says_implies, says_true, says_false}
use Rattle.words.specs.Tests.{le_says}
use Rattle.words.specs.Folds.{any_says, all_says}

-- whether the rule holds at position i of the lasso
unfoldable pub truth : Plant → Lasso → Formula → ℕ → Bool
truth T L never i = false
truth T L always i = true
truth T L (prop p) i = bit (labels_along T L i) p
truth T L (neg a) i = not (truth T L a i)
truth T L (next a) i = truth T L a (suc i)
truth T L (finally a) i = any_below (horizon L i) (λ j. leb i j && truth T L a j)
truth T L (globally a) i = all_below (horizon L i) (λ j. not (leb i j) || truth T L a j)
truth T L (until a b) i = any_below (horizon L i) (λ j. leb i j && (truth T L b j && all_below j (λ k. not (leb i k) || truth T L a k)))
truth T L (release a b) i = all_below (horizon L i) (λ j. not (leb i j) || (truth T L b j || any_below j (λ k. leb i k && truth T L a k)))
truth T L (and a b) i = truth T L a i && truth T L b i
truth T L (or a b) i = truth T L a i || truth T L b i
truth T L (implies a b) i = not (truth T L a i) || truth T L b i

module _ (T : Plant) (L : Lasso) (loops : 0 < length L.loop) where
  abbrev ToldRight : Formula → Type 0
  ToldRight f = (i : ℕ) → Says (truth T L f i) (Holds (labels_along T L) f i)

  finally_right : (a : Formula) → ToldRight a → ToldRight (finally a)
  unfolding Holds truth
  finally_right a t i = Iff.trans
      (any_says _ _ (λ j. says_and (le_says i j) (t j)) (horizon L i)) (
        λ (j, _, (le, h)). (j, le, h),
        λ (j, le, h). let (k, l, _, u, same) = near T L loops i j le in (k, u, (l, (same a).0 h)),
      )

  globally_right : (a : Formula) → ToldRight a → ToldRight (globally a)
  unfolding Holds truth
  globally_right a t i = Iff.trans
      (all_says _ _ (λ j. says_implies (le_says i j) (t j)) (horizon L i)) (
        λ h j le. let (k, l, _, u, same) = near T L loops i j le in (same a).1 (h k u l),
        λ h j _ le. h j le,
      )

  until_right : (a b : Formula) → ToldRight a → ToldRight b → ToldRight (until a b)
  unfolding Holds truth
  until_right a b t r i = Iff.trans
      (any_says _ _ (λ j. says_and (le_says i j) (says_and (r j) (all_says _ _ (λ k. says_implies (le_says i k) (t k)) j))) (horizon L i)) (
        λ (j, _, (le, (h, g))). (j, le, h, λ k l m. g k m l),
        λ (j, le, h, g). let (k, l, d, u, same) = near T L loops i j le in (k, u, (l, ((same b).0 h, λ y m l. g y l (omega arith)))),
      )

  release_right : (a b : Formula) → ToldRight a → ToldRight b → ToldRight (release a b)
  unfolding Holds truth
  release_right a b t r i = Iff.trans
      (all_says _ _ (λ j. says_implies (le_says i j) (says_or (r j) (any_says _ _ (λ k. says_and (le_says i k) (t k)) j))) (horizon L i)) (
        λ h j le. let (k, l, d, u, same) = near T L loops i j le in
            ⊎_map (same b).1 (λ (y, m, (n, g)). (y, n, omega arith, g)) (h k u l),
        λ h j _ le. ⊎_map (λ x. x) (λ (y, n, m, g). (y, m, (n, g))) (h j le),
      )

  -- it says whether the rule holds
  pub truth_says : (f : Formula) → ToldRight f
  unfolding Holds truth
  truth_says never i = says_false
  truth_says always i = says_true
  truth_says (prop p) i = Iff.rfl
  truth_says (neg a) i = says_not (truth_says a i)
  truth_says (next a) i = truth_says a (suc i)
  truth_says (finally a) i = finally_right a (truth_says a) i
  truth_says (globally a) i = globally_right a (truth_says a) i
  truth_says (until a b) i = until_right a b (truth_says a) (truth_says b) i
  truth_says (release a b) i = release_right a b (truth_says a) (truth_says b) i
  truth_says (and a b) i = says_and (truth_says a i) (truth_says b i)
  truth_says (or a b) i = says_or (truth_says a i) (truth_says b i)
  truth_says (implies a b) i = says_implies (truth_says a i) (truth_says b i)

-- On a lasso every part of a rule has a value at every position; so one pair, and no other, stands there.
use Rattle.std.specs.Prelude.{ℕ, ◌≡◌, refl, Bool}
use Rattle.std.proofs.Common.{sym}
use Rattle.std.proofs.Math.Path.{subst}
use Rattle.meaning.specs.Bit.{bit}
use Rattle.words.specs.Below.{word_of}
use Rattle.words.specs.Laws.{bit_ext}
use Rattle.words.specs.Unions.{word_at_lem, word_of_lt}
use Rattle.meaning.specs.Says.{Says}
use Rattle.meaning.specs.Formula.{Formula, parts, Holds}
use Rattle.meaning.specs.Run
use Rattle.meaning.specs.Run.{Plant, Lasso, FairLasso, state_at}
use Rattle.meaning.specs.Pair.{part, PairAt}
use Rattle.theory.specs.Decide.{truth, truth_says}
use Rattle.words.specs.Truth.{says_same}

module _ (T : Plant) (f : Formula) (L : Lasso) where
  -- the values of the parts at position i
  unfoldable pub values_at : ℕ → ℕ
  values_at i = word_of (parts f) (λ k. truth T L (part f k) i)

  -- they are right
  pub pair_of : FairLasso T L → (i : ℕ) → PairAt T f L i (state_at L i) (values_at i)
  unfolding values_at
  pair_of walk i = record {
    state = refl;
    gives = λ k lt.
        let e : bit (values_at i) k ≡ truth T L (part f k) i = word_at_lem (parts f) (λ k. truth T L (part f k) i) k lt in
        subst (λ (b : Bool). Says b (Holds (Run.labels_along T L) (part f k) i)) (sym e) (truth_says T L walk.loops (part f k) i);
    small = word_of_lt (parts f) (λ k. truth T L (part f k) i);
  }

  -- and no others are
  pub pair_unique : (i s v s' v' : ℕ) → PairAt T f L i s v → PairAt T f L i s' v' → v ≡ v'
  pair_unique i s v s' v' p q = bit_ext (parts f) v v' p.small q.small (λ k lt. says_same (p.gives k lt) (q.gives k lt))

-- The live set worked out is the set of the live pairs.
use Rattle.std.specs.Prelude.{ℕ, ◌-◌, ◌^◌, ◌<◌, ◌≡◌, ◌↔◌, true, false, List}
use Rattle.std.proofs.Common.{arith, sym, subst}
use Rattle.std.proofs.Math.Bool.{So}
use Rattle.words.specs.Below.{words_below}
use Rattle.words.specs.Laws.{bit_all}
use Rattle.words.specs.Lists.{length_words}
use Rattle.pairs.specs.Sets.{inside, same_of, same_equal}
use Rattle.words.specs.Below.{count_below}
use Rattle.words.specs.Folds.{count_le}
use Rattle.graphs.specs.Core.{LiveNode, Keeps, keeps_start}
use Rattle.graphs.specs.Fair.{Lives}
use Rattle.graphs.proofs.Fair.{lives_iff}
use Rattle.graphs.specs.Trim.{trimmed_done}
use Rattle.meaning.specs.Says.{Says}
use Rattle.meaning.specs.Formula.{Formula, parts}
use Rattle.meaning.specs.Run.{Plant}
use Rattle.meaning.specs.Pair.{Live}
use Rattle.meaning.specs.Limits.{AcceptedTable, Small}
use Rattle.theory.specs.Node.{node, state_of, values_of, valid, edge, goals}
use Rattle.theory.proofs.Node.{valid_says, valid_below}
use Rattle.theory.proofs.Alive.{valuations_few, live_iff}
use Rattle.model.specs.Settle.{settle_keeps, settle_rests}
use Rattle.model.specs.Sets.{PairSet, nodes_of, at_node, nodes_valid, set_grown, differ}
use Rattle.pairs.specs.Sets.{inside_words}
use Rattle.model.specs.LiveSet.{enough, narrow, all_pairs, live_set}
use Rattle.model.proofs.Round.{narrowed}
use Rattle.words.specs.Truth.{says_and}
use Rattle.words.specs.Tests.{lt_says}

-- what rounds have left: it holds pairs of the table and the rule, and all live ones. They begin with keeping_start, go on by keeping-more, and
-- come to an end by keeping-less.
pub record Keeping (T : Plant) (f : Formula) (Z : List ℕ) : Type 0 where
  pub set : PairSet T f Z
  pub keeps : Keeps (edge T f) (goals T f) (valid T f) (nodes_of Z)

module _ (T : Plant) (f : Formula) (A : AcceptedTable T) (small : Small f) where
  abbrev n : ℕ
  n = 2 ^ parts f

  pub keeping_start : Keeping T f (all_pairs T f)
  unfolding all_pairs
  keeping_start = record {
    set = record { long = length_words n _; range = λ s v i. let (lv, ls) = (holds s v).0 i in (ls, lv) };
    keeps = λ x l. (let (ls, lv) = (valid_says T f x).0 (keeps_start x l) in (holds (state_of x) (values_of x)).1 (lv, ls));
  }
    where
      holds : (s v : ℕ) → Says (inside (words_below n (λ v. 2 ^ T.states - 1)) s v) ((v < n) × (s < T.states))
      holds s v = rw (inside_words n (λ v. 2 ^ T.states - 1) (valuations_few f small) s v, bit_all T.states s) (says_and (lt_says v n) (lt_says s T.states))

  pub keeping_more : (Z : List ℕ) → Keeping T f Z → Keeping T f (narrow T f Z)
  keeping_more Z k = let (y, t) = narrowed T f A small k.set in record { set = y; keeps = t.keeps (valid T f) k.keeps }

  keeping_less : (Z : List ℕ) → Keeping T f Z → same_of (narrow T f Z) Z ≡ false → count_below 4096 (nodes_of (narrow T f Z)) < count_below 4096 (nodes_of Z)
  keeping_less Z k e = let (y, t) = narrowed T f A small k.set in set_grown A.few_states (valuations_few f small) y k.set t.inside (differ e)

  keeping_lives : (Z : List ℕ) → Keeping T f Z → same_of (narrow T f Z) Z ≡ true → Lives (edge T f) (goals T f) (valid T f) (nodes_of Z)
  keeping_lives Z k e =
      let (y, t) = narrowed T f A small k.set in
      let same : narrow T f Z ≡ Z = same_equal (narrow T f Z) Z y.long k.set.long e in
      trimmed_done (nodes_valid k.set) k.keeps t (λ x i. subst (λ (Y : List ℕ). So (nodes_of Y x)) (sym same) i)

  keeping : Keeping T f (live_set T f)
  unfolding live_set
  keeping = settle_keeps (narrow T f) same_of (Keeping T f) keeping_more enough (all_pairs T f) keeping_start

  -- it is a set of pairs of the table and the rule
  pub live_set_lem : PairSet T f (live_set T f)
  live_set_lem = keeping.set

  lives : Lives (edge T f) (goals T f) (valid T f) (nodes_of (live_set T f))
  unfolding live_set
  lives = keeping_lives (live_set T f) keeping
      (settle_rests (narrow T f) same_of (Keeping T f) keeping_more (λ Z. 4096 - count_below 4096 (nodes_of Z)) 4096 (λ Z _. omega arith)
      (λ Z k e. omega (arith, count_le 4096 (nodes_of Z), keeping_less Z k e))
      enough (all_pairs T f) keeping_start (omega arith))

  -- the live set is right
  pub live_says : (s v : ℕ) → Says (inside (live_set T f) s v) (Live T f s v)
  live_says s v = (
    λ i. let h = low (live_set_lem.range s v i).0 in (live_iff T f A.few_states small s v h).1 ((at h).0 (rw (at_node (live_set T f) s v h) i)),
    λ l. let h = low (rw l.pair.state at (l.walk.within 0)) in rw (at_node (live_set T f) s v h) at ((at h).1 ((live_iff T f A.few_states small s v h).0 l)),
  )
    where
      low : s < T.states → s < 64
      low h = let k = A.few_states in omega arith

      at : s < 64 → So (nodes_of (live_set T f) (node s v)) ↔ LiveNode (edge T f) (goals T f) (valid T f) (node s v)
      at h = lives_iff 4096 (valid_below T f (valuations_few f small)) lives (node s v)

-- The sweeps find the pairs that reach a goal.
use mathlib.Core.Logic.Iff
use Rattle.std.specs.Prelude.{ℕ, ◌^◌, ◌≤◌, ◌<◌, ◌≡◌, ◌⊎◌, true, false, List, get_or}
use Rattle.std.proofs.Common.{arith, sym, subst, inl, inr}
use Rattle.std.proofs.Math.Logic.{⊎_elim, ⊎_map}
use Rattle.std.proofs.Math.Bool.{So}
use Rattle.std.specs.Int.Bits.{bit_and}
use borrow.Author.Tests.{lt-ltb}
use Rattle.words.specs.Laws.{bit_and_lem}
use Rattle.words.specs.Lists.{length_words}
use Rattle.pairs.specs.Sets.{inside, join_of, inside_join, same_of, same_equal}
use Rattle.moves.specs.Leading.{leading_at, leading_of}
use Rattle.words.specs.Below.{count_below}
use Rattle.words.specs.Folds.{count_le}
use Rattle.graphs.specs.Close.{Partly, Closure, partly_start, partly_grow}
use Rattle.meaning.specs.Says.{Says}
use Rattle.meaning.specs.Formula.{Formula, parts}
use Rattle.meaning.specs.Run.{Plant}
use Rattle.meaning.specs.Limits.{AcceptedTable, Small}
use Rattle.theory.specs.Node.{state_of, values_of, edge}
use Rattle.theory.proofs.Alive.{valuations_few}
use Rattle.model.specs.Settle.{settle_keeps, settle_rests}
use Rattle.model.specs.Sets.{PairSet, nodes_of, set_grown, differ}
use Rattle.pairs.specs.Sets.{inside_words}
use Rattle.model.specs.Moves.{from, to}
use Rattle.model.specs.Leads.{leading_node}
use Rattle.model.specs.LiveSet.{enough, meet_of, before, widen, reaching}
use Rattle.words.specs.Truth.{and_says, or_says, says_and}
use Rattle.words.specs.Tests.{lt_says}

-- beyond word 64 there is nothing
module _ (p q : List ℕ) (s v : ℕ) where
  pub meet_says : Says (inside (meet_of p q) s v) ((v < 64) × (So (inside p s v) × So (inside q s v)))
  unfolding meet_of
  meet_says = rw (inside_words 64 (λ v. bit_and (get_or p v 0) (get_or q v 0)) (omega arith) s v, bit_and_lem)
      (says_and (lt_says v 64) (and_says (inside p s v) (inside q s v)))

  join_says : Says (inside (join_of p q) s v) ((v < 64) × (So (inside p s v) ⊎ So (inside q s v)))
  join_says = rw (inside_join p q s v) (says_and (lt_says v 64) (or_says (inside p s v) (inside q s v)))

-- what sweeps have found so far: they begin with found-start, go on by found-more, and come to an end by found-less
pub record Found (T : Plant) (f : Formula) (Z G B : List ℕ) : Type 0 where
  pub set : PairSet T f B
  pub part : Partly (edge T f) (nodes_of Z) (nodes_of G) (nodes_of B)

module _ (T : Plant) (f : Formula) (A : AcceptedTable T) (small : Small f) where
  few : 2 ^ parts f ≤ 64
  few = valuations_few f small

  below : {Z : List ℕ} → PairSet T f Z → (s v : ℕ) → So (inside Z s v) → v < 64
  below z s v i = let h = (z.range s v i).1 in let k = few in omega arith

  pub meet_set : {Z : List ℕ} (Y : List ℕ) → PairSet T f Z → PairSet T f (meet_of Z Y)
  unfolding meet_of
  meet_set {Z} Y z = record {
    long = length_words 64 _;
    range = λ s v i. z.range s v ((meet_says Z Y s v).0 i).1.0;
  }

  -- the pairs of Z that are in Y
  meet_node : {Z : List ℕ} (Y : List ℕ) → PairSet T f Z → (x : ℕ) → Says (nodes_of (meet_of Z Y) x) (So (nodes_of Z x) × So (nodes_of Y x))
  meet_node {Z} Y z x = Iff.trans (meet_says Z Y (state_of x) (values_of x)) (λ h. h.1, λ h. (below z (state_of x) (values_of x) h.0, h))

  -- the pairs of Z with a move into B
  pub before_node : {Z B : List ℕ} → PairSet T f Z → PairSet T f B → (x : ℕ)
      → Says (nodes_of (meet_of Z (before T f B)) x) (So (nodes_of Z x) × ((y : ℕ) × So (edge T f x y) × So (nodes_of B y)))
  unfolding before leading_of
  before_node {Z} {B} z b x = Iff.trans (meet_node (before T f B) z x) (λ (i, m). (i, (moves i).0 m), λ (i, m). (i, (moves i).1 m))
    where
      moves : So (nodes_of Z x) → Says (nodes_of (before T f B) x) ((y : ℕ) × So (edge T f x y) × So (nodes_of B y))
      moves i =
          let (ls, lv) = z.range (state_of x) (values_of x) i in
          rw (inside_words (2 ^ parts f) (leading_at T.next (from T f) (to T f) (2 ^ parts f) B) few (state_of x) (values_of x), lt-ltb (values_of x) (2 ^ parts f) lv)
          (leading_node T f A B b x ls A.few_states)

  -- the pairs of Z that reach a goal within Z
  module _ {Z : List ℕ} (z : PairSet T f Z) (G : List ℕ) where
    widen_node : {B : List ℕ} → PairSet T f B → (x : ℕ)
        → Says (nodes_of (widen T f Z B) x) (So (nodes_of B x) ⊎ (So (nodes_of Z x) × ((y : ℕ) × So (edge T f x y) × So (nodes_of B y))))
    unfolding widen
    widen_node {B} b x = Iff.trans (join_says B (meet_of Z (before T f B)) (state_of x) (values_of x)) (
      λ (_, h). ⊎_map (λ i. i) (before_node z b x).0 h,
      λ h. (⊎_elim (below b (state_of x) (values_of x)) (λ m. below z (state_of x) (values_of x) m.0) h, ⊎_map (λ i. i) (before_node z b x).1 h),
    )

    widen_set : {B : List ℕ} → PairSet T f B → PairSet T f (widen T f Z B)
    unfolding widen join_of
    widen_set {B} b = record {
      long = length_words 64 _;
      range = λ s v i. ⊎_elim (b.range s v) (λ m. z.range s v ((meet_says Z (before T f B) s v).0 m).1.0) ((join_says B (meet_of Z (before T f B)) s v).0 i).1;
    }

    pub found_start : Found T f Z G (meet_of Z G)
    found_start = record { set = meet_set G z; part = partly_start (meet_node G z) }

    pub found_more : (B : List ℕ) → Found T f Z G B → Found T f Z G (widen T f Z B)
    found_more B k = record {
      set = widen_set k.set;
      part = partly_grow k.part (λ x i. (widen_node k.set x).1 (inl i)) (λ x i. (widen_node k.set x).0 i);
    }

    found_less : (B : List ℕ) → Found T f Z G B → same_of (widen T f Z B) B ≡ false → count_below 4096 (nodes_of B) < count_below 4096 (nodes_of (widen T f Z B))
    found_less B k e = set_grown A.few_states few k.set (widen_set k.set) (λ x i. (widen_node k.set x).1 (inl i)) (λ p. differ e (sym p))

    found_closure : (B : List ℕ) → Found T f Z G B → same_of (widen T f Z B) B ≡ true → Closure (edge T f) (nodes_of Z) (nodes_of G) (nodes_of B)
    found_closure B k e =
        let same : widen T f Z B ≡ B = same_equal (widen T f Z B) B (widen_set k.set).long k.set.long e in
        record { part = k.part; back = λ x y i d h. subst (λ (B : List ℕ). So (nodes_of B x)) same ((widen_node k.set x).1 (inr (i, (y, d, h)))) }

    found : Found T f Z G (reaching T f Z G)
    unfolding reaching
    found = settle_keeps (widen T f Z) same_of (Found T f Z G) found_more enough (meet_of Z G) found_start

    pub reaching_set : PairSet T f (reaching T f Z G)
    reaching_set = found.set

    pub reaching_closure : Closure (edge T f) (nodes_of Z) (nodes_of G) (nodes_of (reaching T f Z G))
    unfolding reaching
    reaching_closure = found_closure (reaching T f Z G) found
        (settle_rests (widen T f Z) same_of (Found T f Z G) found_more (λ B. count_below 4096 (nodes_of B)) 4096 (λ B _. count_le 4096 (nodes_of B)) found_less
        enough (meet_of Z G) found_start (omega arith))

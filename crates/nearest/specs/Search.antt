-- The search on words: its start, a sweep that finds more, and its end, where a sweep finds none.
use Rattle.std.specs.Prelude.{ℕ, ◌+◌, ◌-◌, ◌≤◌, ◌<◌, ◌≡◌, ◌↔◌, ◌⊎◌, not, List, eqb, ltb, length, get_or, replicate}
use native.Mathlib.Omega.{arith}
use Rattle.std.proofs.Common.{lt_of_le_of_lt, inl, inr, ⊎_elim}
use Rattle.std.proofs.Math.Logic.{⊎_map}
use Rattle.std.proofs.Math.Bool.{So}
use Rattle.std.proofs.lemmas.Bool.{false≢true}
use Rattle.std.proofs.lemmas.Nat.{and_le_r}
use borrow.Author.Tests.{lt-ltb, ne_eqb}
use Rattle.words.specs.Below.{count_below}
use Rattle.words.specs.Laws.{bit_zero}
use Rattle.words.specs.Lists.{zeros, words_at, length_words}
use Rattle.words.specs.Truth.{and_says, says_dec, says_itself}
use Rattle.words.specs.Unions.{bit_word_of, some_member}
use Rattle.words.specs.Within.{members_below}
use Rattle.pairs.specs.Sets.{Words, Fit, inside}
use Rattle.moves.specs.Leading.{leading_of}
use Rattle.graphs.specs.Sets.{◌⊆◌}
use Rattle.graphs.specs.Count.{room_lt}
use Rattle.graphs.specs.Rank.{Nearest}
use Rattle.theory.specs.Node.{node, state_of, values_of}
use Rattle.model.specs.Sets.{nodes_of, at_node}
use Rattle.model.specs.LiveSet.{meet_of}
use Rattle.model.specs.Reaching.{meet_says}
use Rattle.leads.specs.Halves.{from_in, to_in}
use Rattle.sweeps.specs.Sweeps.{without_set, movers_of}
use Rattle.sweeps.specs.Laws.{without_inside, inside_without}
use Rattle.nearest.specs.Graph.{nodes_below, moves_of, leading_nodes}
use Rattle.nearest.specs.Joining.{held_of}
use Rattle.nearest.specs.Places.{movers_only}
use Rattle.nearest.specs.Ranking.{rank_of, Marked, marked_old, marked_new, Ranking, ranking_start, ranking_more, ranking_end}

-- 64 words, whatever p and q are
without_words : (p q : List ℕ) → Words (without_set p q)
unfolding without_set
without_words p q = record {
  long = length_words 64 _;
  fits = λ v l. rw (words_at 64 _ v l, lt-ltb v 64 l) (lt_of_le_of_lt (and_le_r (get_or p v 0) _) (omega arith));
}

module _ (next leave enter : List ℕ) (count : ℕ) (z goal : List ℕ) where
  -- the loop's state: the pairs of z beside those found, and what of the found joined last; whatever leads to the rest of it is found
  pub record Sweeping (others front ranks : List ℕ) (r : ℕ) : Type 0 where
    pub words : Words others
    pub part : (s v : ℕ) → So (inside others s v) → So (inside z s v)
    pub fits : Fit front
    pub inside : nodes_of front ⊆ nodes_of (without_set z others)
    pub ranking : Ranking (moves_of next leave enter count) (nodes_of z) (nodes_of goal) (nodes_of (without_set z others)) (rank_of ranks) r
    pub done : (x y : ℕ) → So (nodes_of z x) → So (moves_of next leave enter count x y) → So (nodes_of (without_set z others) y)
        → So (nodes_of front y) ⊎ So (nodes_of (without_set z others) x)

module _ (next leave enter : List ℕ) (count : ℕ) (few : count ≤ 64) (z goal : List ℕ) (long : length z ≡ 64) where
  -- a node of z is at a valuation below 64
  low : (x : ℕ) → So (nodes_of z x) → values_of x < 64
  low x i = let l = nodes_below z long x i in omega arith

  -- a node of z that is not among the others
  beside : (others : List ℕ) → Words others → (x : ℕ) → So (nodes_of (without_set z others) x) ↔ (So (nodes_of z x) × (So (nodes_of others x) → ⊥))
  beside others words x = (
    λ e. let (_, _, i, out) = without_inside z others words.fits (state_of x) (values_of x) e in (i, out),
    λ (i, out). inside_without z others words.fits (state_of x) (values_of x) (low x i) (omega arith) i out,
  )

  -- at the start the nodes of the goal are found
  pub sweeping_start : {others front : List ℕ} → Words front → front ≡ meet_of z goal → others ≡ without_set z front
      → Sweeping next leave enter count z goal others front (replicate 4096 0) 0
  sweeping_start {others} {front} words is left = record {
    words = rw left (without_words z front);
    part = λ s v i. (without_inside z front words.fits s v (rw left at i)).2;
    fits = words.fits;
    inside = λ x i. (found x).1 i;
    ranking = ranking_start (nodes_below z long) (λ x. (λ e. (met x).0 ((found x).0 e), λ b. (found x).1 ((met x).1 b))) (zeros 4096);
    done = λ x y i e j. inl ((found y).0 j);
  }
    where
      met : (x : ℕ) → So (nodes_of front x) ↔ (So (nodes_of z x) × So (nodes_of goal x))
      met x = rw is (λ e. ((meet_says z goal (state_of x) (values_of x)).0 e).1, λ (i, j). (meet_says z goal (state_of x) (values_of x)).1 (low x i, (i, j)))

      found : (x : ℕ) → So (nodes_of (without_set z others) x) ↔ So (nodes_of front x)
      found x = rw left (
        λ e. let (i, out) = (beside (without_set z front) (without_words z front) x).0 e in
            elim (says_dec (says_itself (nodes_of front x))) [ yes m ↦ m | no g ↦ absurd (out ((beside front words x).1 (i, g))) ],
        λ m. (beside (without_set z front) (without_words z front) x).1 (((met x).0 m).0, λ e. ((beside front words x).0 e).1 m),
      )

  -- what the loop has: those of the others that join, and the valuations at which there are some
  module _ (others front more ranks : List ℕ) (held r : ℕ) (k : Sweeping next leave enter count z goal others front ranks r)
      (adds : more ≡ movers_of next leave enter count front others) (at : held ≡ held_of count more) where
    abbrev before : List ℕ
    before = leading_of next (from_in leave) (to_in enter) count front

    abbrev found : List ℕ
    found = without_set z others

    abbrev all : List ℕ
    all = without_set z (without_set others more)

    is_more : more ≡ meet_of others before
    unfolding movers_of
    is_more = adds

    -- a pair that joins is one of the others, with a move into the front
    joining : (s v : ℕ) → So (inside more s v) → (v < 64) × (s < 64) × So (inside others s v) × So (inside before s v)
    joining s v i =
        let (lv, (o, b)) = (meet_says others before s v).0 (rw is_more at i) in
        (lv, (members_below 64 (get_or others v 0)).0 (k.words.fits v lv) s o, o, b)

    fits : Fit more
    fits v l = (members_below 64 (get_or more v 0)).1 (λ s i. (joining s v i).1)

    -- and a pair of z with a move into the front joins, or is found
    joined : (x y : ℕ) → So (nodes_of z x) → So (moves_of next leave enter count x y) → So (nodes_of front y) → So (nodes_of more x) ⊎ So (nodes_of found x)
    joined x y i d j = elim (says_dec (says_itself (nodes_of others x))) [
      | yes o ↦ inl (rw is_more ((meet_says others before (state_of x) (values_of x)).1 (low x i, (o, (leading_nodes next (from_in leave) (to_in enter) count few front k.fits x).1 (y, d, j)))))
      | no out ↦ inr ((beside others k.words x).1 (i, out))
    ]

    -- it was not found before
    apart : (x : ℕ) → So (nodes_of more x) → So (nodes_of found x) → ⊥
    apart x m f = let (_, _, o, _) = joining (state_of x) (values_of x) m in ((beside others k.words x).0 f).1 o

    -- what is left is of the others, and does not join
    left : (s v : ℕ) → So (inside (without_set others more) s v) → So (inside others s v) × (So (inside more s v) → ⊥)
    left s v e = let (_, _, o, out) = without_inside others more fits s v e in (o, out)

    wider : nodes_of found ⊆ nodes_of all
    wider x f =
        let (i, out) = (beside others k.words x).0 f in
        (beside (without_set others more) (without_words others more) x).1 (i, λ e. out (left (state_of x) (values_of x) e).0)

    more_in : nodes_of more ⊆ nodes_of all
    more_in x m =
        let (_, _, o, _) = joining (state_of x) (values_of x) m in
        (beside (without_set others more) (without_words others more) x).1 (k.part (state_of x) (values_of x) o, λ e. (left (state_of x) (values_of x) e).1 m)

    -- a pair of all was found, or joins
    either : (x : ℕ) → So (nodes_of all x) → So (nodes_of found x) ⊎ So (nodes_of more x)
    either x a =
        let (i, out) = (beside (without_set others more) (without_words others more) x).0 a in
        elim (says_dec (says_itself (nodes_of more x))) [
          | yes m ↦ inr m
          | no g ↦ inl ((beside others k.words x).1 (i, λ o. out (inside_without others more fits (state_of x) (values_of x) (low x i) (omega arith) o g)))
        ]

    joins : (x : ℕ) → So (nodes_of all x) → So (nodes_of found x) ⊎ (So (nodes_of z x) × ((y : ℕ) × So (moves_of next leave enter count x y) × So (nodes_of found y)))
    joins x a = ⊎_map (λ m. m)
        (λ m. let (_, _, o, b) = joining (state_of x) (values_of x) m in
        let (y, e, j) = (leading_nodes next (from_in leave) (to_in enter) count few front k.fits x).0 b in (k.part (state_of x) (values_of x) o, (y, e, k.inside y j)))
        (either x a)

    -- a sweep that finds more has a new node
    new : 0 < held → (x : ℕ) × (x < 4096) × (So (nodes_of found x) → ⊥) × So (nodes_of all x)
    unfolding held_of
    new some =
        let (v, b) = some_member (held_of count more) (rw (← at, ne_eqb held 0 (omega arith))) in
        let (_, w) = (and_says (ltb v count) (not (eqb (get_or more v 0) 0))).0 (rw bit_word_of at b) in
        let (s, i) = some_member (get_or more v 0) w in
        let (lv, ls, _, _) = joining s v i in
        let m : So (nodes_of more (node s v)) = rw (at_node more s v ls) i in
        (node s v, omega arith, apart (node s v) m, more_in (node s v) m)

    pub sweeping_more : 0 < held → {later : List ℕ} → Marked (nodes_of more) (r + 1) ranks later
        → Sweeping next leave enter count z goal (without_set others more) more later (r + 1)
    sweeping_more some {later} m = record {
      words = without_words others more;
      part = λ s v e. k.part s v (left s v e).0;
      fits = fits;
      inside = more_in;
      ranking = (let (x, l, out, i) = new some in ranking_more (nodes_below z long) k.ranking wider joins x l out i old fresh);
      done = λ x y i d j. ⊎_elim
          (λ f. ⊎_elim (λ g. ⊎_elim (λ m. inr (more_in x m)) (λ m. inr (wider x m)) (joined x y i d g)) (λ g. inr (wider x g)) (k.done x y i d f))
          inl (either y j);
    }
      where
        -- those found have not joined
        old : (y : ℕ) → So (nodes_of found y) → rank_of later y ≡ rank_of ranks y
        old y f = marked_old m y (nodes_below z long y ((beside others k.words y).0 f).0) (λ j. apart y j f)

        fresh : (y : ℕ) → So (nodes_of all y) → ¬ So (nodes_of found y) → rank_of later y ≡ r + 1
        fresh y i out = ⊎_elim (λ f. absurd (out f))
            (λ j. marked_new m y (nodes_below all (without_words z (without_set others more)).long y i) j) (either y i)

    pub sweeping_less : 0 < held → 4096 - count_below 4096 (nodes_of all) < 4096 - count_below 4096 (nodes_of found)
    sweeping_less some = let (x, l, out, i) = new some in room_lt 4096 wider x l out i

    pub sweeping_end : held ≡ 0 → Nearest 4096 (moves_of next leave enter count) (nodes_of z) (nodes_of goal) (nodes_of found) (rank_of ranks)
    sweeping_end none = ranking_end k.ranking (λ x y i d j. ⊎_elim
        (λ f. ⊎_elim (λ m. absurd (nothing x (low x i) m)) (λ m. m) (joined x y i d f))
        (λ m. m) (k.done x y i d j))
      where
        nothing : (x : ℕ) → values_of x < 64 → So (nodes_of more x) → ⊥
        nothing x l m =
            let empty = (movers_only next leave enter count front others adds).none (values_of x) l (rw (← at, none) (bit_zero (values_of x))) in
            false≢true (rw (empty, bit_zero) at m)

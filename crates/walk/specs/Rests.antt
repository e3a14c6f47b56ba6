-- Pairs at which a run can stay for ever: they lead to themselves, and every debt is met there.
use Rattle.std.specs.Prelude.{ℕ, ◌+◌, ◌-◌, ◌/◌, ◌%◌, ◌^◌, ◌≤◌, ◌<◌, ◌≡◌, ltb}
use Rattle.std.proofs.Common.{arith, sym, subst}
use Rattle.std.proofs.Math.Decide.{dec_lt}
use Rattle.std.proofs.Math.Bool.{So}
use mathlib.Core.List.{List, Memᴰ}
use Rattle.std.specs.Int.Bits.{bit_and}
use Rattle.std.proofs.Math.ListN.{length, get_or}
use borrow.Author.Tests.{lt-ltb, le-ltb, ltb-true, eqb-true}
use Rattle.meaning.specs.Bit.{bit}
use Rattle.words.specs.Below.{union_below, shared_below, words_below}
use Rattle.words.specs.Laws.{bit_and_lem, bit_single}
use Rattle.words.specs.Folds.{any_found, all_at}
use Rattle.words.specs.Truth.{and_says}
use Rattle.words.specs.Unions.{bit_union, bit_shared}
use Rattle.pairs.specs.Sets.{inside_words}
use Rattle.moves.specs.Fit.{entry}
use Rattle.graphs.specs.Sets.{Nodes}
use Rattle.graphs.specs.Walk.{Edges}
use Rattle.graphs.specs.Rank.{Nearest}
use Rattle.model.specs.Sets.{nodes_of}
use Rattle.leads.specs.Halves.{both_of, from_in, to_in}
use Rattle.sweeps.specs.Rounds.{every_of, settled_in, goal_of}
use Rattle.nearest.specs.Graph.{of_move, moves_of}
use Rattle.walk.specs.Debts.{debt_nodes, debts_to, in_debts}

-- from each of S an edge leads to itself, and it is a node of each debt
pub record Rests (edge : Edges) (debts : List Nodes) (S : Nodes) : Type 0 where
  pub moves : (y : ℕ) → So (S y) → So (edge y y)
  pub meets : (y : ℕ) → So (S y) → (g : Nodes) → Memᴰ g debts → So (g y)

-- the nodes of C lead to such ones, down the ranks
pub record Resting (edge : Edges) (debts : List Nodes) (Z C : Nodes) (rank : ℕ → ℕ) : Type 0 where
  pub goal : Nodes
  pub rests : Rests edge debts goal
  pub near : Nearest 4096 edge Z goal C rank

-- ---- how they are found, a word at a time

-- the states with a move to themselves
unfoldable pub stays_of : List ℕ → ℕ
stays_of next = union_below 64 (λ s. bit_and (get_or next s 0) (2 ^ s))

-- those of every fairness set
unfoldable pub fair_of : List ℕ → ℕ
fair_of fair = shared_below (2 ^ 64 - 1) (length fair) (λ k. get_or fair k 0)

-- those at which v settles every part
unfoldable pub settles_of : List ℕ → ℕ → ℕ → ℕ
settles_of settled parts v = shared_below (2 ^ 64 - 1) parts (λ k. entry settled v k)

-- a member of both is one of each
and_at : (a b s : ℕ) → So (bit (bit_and a b) s) → So (bit a s) × So (bit b s)
and_at a b s i = (and_says (bit a s) (bit b s)).0 (rw bit_and_lem at i)

-- the members of these words
stays_at : (next : List ℕ) (s : ℕ) → So (bit (stays_of next) s) → So (bit (get_or next s 0) s)
unfolding stays_of
stays_at next s i =
    let (t, _, m) = any_found 64 (λ t. bit (bit_and (get_or next t 0) (2 ^ t)) s) (rw bit_union at i) in
    let (h, one) = and_at (get_or next t 0) (2 ^ t) s m in
    let e : s ≡ t = eqb-true s t (rw bit_single at one) in
    subst (λ (t : ℕ). So (bit (get_or next t 0) s)) (sym e) h

shared_at : (n : ℕ) (f : ℕ → ℕ) (s : ℕ) → So (bit (shared_below (2 ^ 64 - 1) n f) s) → (k : ℕ) → k < n → So (bit (f k) s)
shared_at n f s i = all_at n (λ k. bit (f k) s) ((and_says (bit (2 ^ 64 - 1) s) _).0 (rw bit_shared at i)).1

module _ (next leave enter fair settled : List ℕ) (parts : ℕ) where
  -- those at which a run can stay at v
  abbrev pub rests_at : ℕ → ℕ
  rests_at v = bit_and (bit_and (bit_and (bit_and (stays_of next) (fair_of fair)) (both_of leave v v)) (both_of enter v v)) (settles_of settled parts v)

  module _ (count : ℕ) (few : count ≤ 64) {words : List ℕ} (is : words ≡ words_below count rests_at) (y : ℕ) (i : So (nodes_of words y)) where
    abbrev s : ℕ
    s = y % 64

    abbrev v : ℕ
    v = y / 64

    -- what is known of such a pair
    parts_of_lem : (v < count) × So (bit (stays_of next) s) × So (bit (fair_of fair) s) × So (bit (both_of leave v v) s) × So (bit (both_of enter v v) s) × So (bit (settles_of settled parts v) s)
    parts_of_lem =
        let (low, all) = (and_says (ltb v count) (bit (rests_at v) s)).0 (rw (is, inside_words count rests_at few s v) at i) in
        let (held, settles) = and_at _ (settles_of settled parts v) s all in
        let (kept, enters) = and_at _ (both_of enter v v) s held in
        let (first, leaves) = and_at _ (both_of leave v v) s kept in
        let (stays, fair) = and_at (stays_of next) (fair_of fair) s first in
        (ltb-true v count low, stays, fair, leaves, enters, settles)

    rest_moves : So (moves_of next leave enter count y y)
    rest_moves = of_move next (from_in leave) (to_in enter) count y y (record {
      from_low = parts_of_lem.0;
      to_low = parts_of_lem.0;
      leaves = parts_of_lem.3;
      allowed = stays_at next s parts_of_lem.1;
      enters = parts_of_lem.4;
    })

    rest_meets : (k : ℕ) → k < length fair + parts → So (debt_nodes fair count settled k y)
    unfolding goal_of every_of settled_in fair_of settles_of
    rest_meets k l = elim (dec_lt k (length fair)) [
      | yes h ↦ rw (lt-ltb k (length fair) h, inside_words count (λ v. get_or fair k 0) few s v, lt-ltb v count parts_of_lem.0)
          (shared_at (length fair) (λ k. get_or fair k 0) s parts_of_lem.2 k h)
      | no h ↦ rw (le-ltb k (length fair) (omega arith), inside_words count (λ v. entry settled v (k - length fair)) few s v, lt-ltb v count parts_of_lem.0)
          (shared_at parts (λ k. entry settled v k) s parts_of_lem.5 (k - length fair) (omega arith))
    ]

  -- the pairs gathered are such
  pub rests_of : (count : ℕ) → count ≤ 64 → {words : List ℕ} → words ≡ words_below count rests_at
      → Rests (moves_of next leave enter count) (debts_to fair count settled (length fair + parts)) (nodes_of words)
  rests_of count few is = record {
    moves = rest_moves count few is;
    meets = λ y i g m.
        let (k, l, e) = in_debts fair count settled (length fair + parts) m in
        subst (λ (g : Nodes). So (g y)) (sym e) (rest_meets count few is y i k l);
  }

-- The moves between pairs as edges between nodes.
use Rattle.std.specs.Prelude.{ℕ, ◌/◌, ◌%◌, ◌≤◌, ◌<◌, ◌≡◌, ◌↔◌, ◌&&◌, List, length, get_or}
use Rattle.std.proofs.Common.{arith}
use Rattle.std.proofs.Math.Bool.{So}
use Rattle.std.specs.Int.Bits.{bit_and}
use Rattle.std.proofs.Math.Dec.{ltb}
use borrow.Author.Tests.{lt-ltb, ltb-true}
use Rattle.meaning.specs.Bit.{bit}
use Rattle.words.specs.Word.{only_of}
use Rattle.words.specs.Below.{any_below, words_below}
use Rattle.words.specs.Truth.{and_says}
use Rattle.words.specs.Laws.{bit_and_lem, bit_only}
use Rattle.words.specs.Folds.{any_found, any_of}
use Rattle.words.specs.Unions.{bit_union, bit_word_of, some_member, member_some}
use Rattle.words.specs.Lists.{entry_inside}
use Rattle.words.specs.Within.{members_below}
use Rattle.pairs.specs.Sets.{Fit, inside, inside_words}
use Rattle.moves.specs.Back.{meets, pre_of}
use Rattle.moves.specs.Leading.{leading_via, leading_at, leading_of}
use Rattle.graphs.specs.Sets.{Below}
use Rattle.graphs.specs.Walk.{Edges}
use Rattle.theory.specs.Node.{node, state_of, values_of, node_first, node_second}
use Rattle.model.specs.Sets.{nodes_of}
use Rattle.leads.specs.Halves.{from_in, to_in}

-- 64 words have the nodes below 4096 only
pub nodes_below : (set : List ℕ) → length set ≡ 64 → Below 4096 (nodes_of set)
nodes_below set long x i = let h = entry_inside set (values_of x) (state_of x) i in omega arith

-- A move from (s, v) to (t, w) is allowed where s is in src v w, t in next s, and t in dst v w.
module _ (next : List ℕ) (src dst : ℕ → ℕ → ℕ) where
  unfoldable pub moves_by : ℕ → Edges
  moves_by n x y =
      (ltb (x / 64) n && ltb (y / 64) n)
      && ((bit (src (x / 64) (y / 64)) (x % 64) && bit (get_or next (x % 64) 0) (y % 64)) && bit (dst (x / 64) (y / 64)) (y % 64))

  -- the states at w to which state s has a move at v
  abbrev pub onward_at : ℕ → ℕ → ℕ → ℕ
  onward_at s v w = only_of (bit (src v w) s) (bit_and (get_or next s 0) (dst v w))

  -- those of a set to which the node x has a move
  unfoldable pub onward_of : ℕ → List ℕ → ℕ → List ℕ
  onward_of n set x = words_below n (λ w. bit_and (get_or set w 0) (onward_at (x % 64) (x / 64) w))

pub record Move (next : List ℕ) (src dst : ℕ → ℕ → ℕ) (n x y : ℕ) : Type 0 where
  pub from_low : x / 64 < n
  pub to_low : y / 64 < n
  pub leaves : So (bit (src (x / 64) (y / 64)) (x % 64))
  pub allowed : So (bit (get_or next (x % 64) 0) (y % 64))
  pub enters : So (bit (dst (x / 64) (y / 64)) (y % 64))

module _ (next : List ℕ) (src dst : ℕ → ℕ → ℕ) (n x y : ℕ) where
  pub move_of_lem : So (moves_by next src dst n x y) → Move next src dst n x y
  unfolding moves_by
  move_of_lem e =
      let (low, m) = (and_says (ltb (x / 64) n && ltb (y / 64) n) _).0 e in
      let (from, to) = (and_says (ltb (x / 64) n) (ltb (y / 64) n)).0 low in
      let (l, enters) = (and_says (bit (src (x / 64) (y / 64)) (x % 64) && bit (get_or next (x % 64) 0) (y % 64)) _).0 m in
      let (leaves, allowed) = (and_says (bit (src (x / 64) (y / 64)) (x % 64)) _).0 l in
      record { from_low = ltb-true (x / 64) n from; to_low = ltb-true (y / 64) n to; leaves = leaves; allowed = allowed; enters = enters }

  pub of_move : Move next src dst n x y → So (moves_by next src dst n x y)
  unfolding moves_by
  of_move m = rw (lt-ltb (x / 64) n m.from_low, lt-ltb (y / 64) n m.to_low, m.leaves, m.allowed, m.enters)

module _ (next : List ℕ) (src dst : ℕ → ℕ → ℕ) (n : ℕ) (few : n ≤ 64) where
  pub onward_nodes : (set : List ℕ) (x y : ℕ) → x / 64 < n
      → So (nodes_of (onward_of next src dst n set x) y) ↔ (So (moves_by next src dst n x y) × So (nodes_of set y))
  unfolding onward_of
  onward_nodes set x y low =
      rw (inside_words n (λ w. bit_and (get_or set w 0) (onward_at next src dst (x % 64) (x / 64) w)) few (y % 64) (y / 64), bit_and_lem, bit_only, bit_and_lem) (
        λ e.
            let (to, h) = (and_says (ltb (y / 64) n) _).0 e in
            let (held, m) = (and_says (nodes_of set y) _).0 h in
            let (leaves, r) = (and_says (bit (src (x / 64) (y / 64)) (x % 64)) _).0 m in
            let (allowed, enters) = (and_says (bit (get_or next (x % 64) 0) (y % 64)) _).0 r in
            (of_move next src dst n x y (record { from_low = low; to_low = ltb-true (y / 64) n to; leaves = leaves; allowed = allowed; enters = enters }), held),
        λ (e, held). let m = move_of_lem next src dst n x y e in rw (lt-ltb (y / 64) n m.to_low, held, m.leaves, m.allowed, m.enters),
      )

  -- the pairs that a sweep finds are those with a move into the set
  module _ (B : List ℕ) (fits : Fit B) where
    target : ℕ → ℕ → ℕ
    target v w = bit_and (get_or B w 0) (dst v w)

    pub leading_nodes : (x : ℕ) → So (nodes_of (leading_of next src dst n B) x) ↔ ((y : ℕ) × So (moves_by next src dst n x y) × So (nodes_of B y))
    unfolding leading_of leading_at pre_of target
    leading_nodes x =
        rw (inside_words n (leading_at next src dst n B) few (x % 64) (x / 64), bit_union)
        (λ e. found e, λ m. of m)
      where
        found : So (ltb (x / 64) n && any_below n (λ w. bit (leading_via next src dst n B (x / 64) w) (x % 64)))
            → (y : ℕ) × So (moves_by next src dst n x y) × So (nodes_of B y)
        found e =
            let (low, some) = (and_says (ltb (x / 64) n) _).0 e in
            let (w, lw, m) = any_found n (λ w. bit (leading_via next src dst n B (x / 64) w) (x % 64)) some in
            let (p, leaves) = (and_says (bit (pre_of next (target (x / 64) w)) (x % 64)) (bit (src (x / 64) w) (x % 64))).0 (rw bit_and_lem at m) in
            let (_, hits) = (and_says (ltb (x % 64) (length next)) (meets next (target (x / 64) w) (x % 64))).0 (rw bit_word_of at p) in
            let (t, b) = some_member (bit_and (get_or next (x % 64) 0) (target (x / 64) w)) hits in
            let (allowed, c) = (and_says (bit (get_or next (x % 64) 0) t) (bit (target (x / 64) w) t)).0 (rw bit_and_lem at b) in
            let (held, enters) = (and_says (inside B t w) (bit (dst (x / 64) w) t)).0 (rw bit_and_lem at c) in
            let small = (members_below 64 (get_or B w 0)).0 (fits w (omega arith)) t held in
            let first = node_first t w small in
            let second = node_second t w small in (
              node t w,
              of_move next src dst n x (node t w) (record {
                from_low = ltb-true (x / 64) n low;
                to_low = rw second lw;
                leaves = rw second leaves;
                allowed = rw first allowed;
                enters = rw (first, second) enters;
              }),
              rw (first, second) held,
            )

        of : (y : ℕ) × So (moves_by next src dst n x y) × So (nodes_of B y)
            → So (ltb (x / 64) n && any_below n (λ w. bit (leading_via next src dst n B (x / 64) w) (x % 64)))
        of (y, e, held) =
            let m = move_of_lem next src dst n x y e in
            let hit : So (bit (bit_and (get_or next (x % 64) 0) (target (x / 64) (y / 64))) (y % 64)) = rw (bit_and_lem, bit_and_lem, m.allowed, held, m.enters) in
            let many = entry_inside next (x % 64) (y % 64) m.allowed in
            rw (lt-ltb (x / 64) n m.from_low)
            (any_of n (λ w. bit (leading_via next src dst n B (x / 64) w) (x % 64)) (y / 64) m.to_low
            (rw (bit_and_lem, bit_word_of, m.leaves, lt-ltb (x % 64) (length next) many, member_some (bit_and (get_or next (x % 64) 0) (target (x / 64) (y / 64))) (y % 64) hit)))

-- the moves by the halves `leave` and `enter`
abbrev pub moves_of : List ℕ → List ℕ → List ℕ → ℕ → Edges
moves_of next leave enter count = moves_by next (from_in leave) (to_in enter) count

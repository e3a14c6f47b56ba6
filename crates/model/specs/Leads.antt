-- What the words of predecessors and of successors hold.
use Prim.Native.Nat.{ℕ, ◌^◌, ◌≤◌, ◌<◌}
use Rattle.std.proofs.Common.{arith, lt-ltb}
use Rattle.std.proofs.Math.Bool.{So}
use Rattle.std.specs.Prelude.{List, ltb, length, get_or}
use Rattle.std.specs.Int.Bits.{bit_and}
use Rattle.meaning.specs.Bit.{bit}
use Rattle.words.specs.Laws.{bit_and_lem}
use Rattle.words.specs.Folds.{any_found, any_of}
use Rattle.words.specs.Unions.{bit_union, bit_word_of, some_member, member_some}
use Rattle.pairs.specs.Sets.{inside}
use Rattle.moves.specs.Image.{reached_at, bit_reached, leads_move, move_leads}
use Rattle.moves.specs.Back.{meets, pre_of}
use Rattle.moves.specs.Leading.{leading_via, leading_at}
use Rattle.meaning.specs.Says.{Says}
use Rattle.meaning.specs.Formula.{Formula, parts}
use Rattle.meaning.specs.Run.{Plant, next_of}
use Rattle.meaning.specs.Step.{leads}
use Rattle.meaning.specs.Limits.{AcceptedTable}
use Rattle.theory.specs.Node.{node, node_first, node_second, state_of, values_of, edge}
use Rattle.model.specs.Moves.{from, to, leads_says}
use Rattle.model.specs.Sets.{PairSet, nodes_of}
use Rattle.words.specs.Truth.{and_says}

module _ (T : Plant) (f : Formula) (A : AcceptedTable T) (Z : List ℕ) (z : PairSet T f Z) where
  abbrev n : ℕ
  n = 2 ^ parts f

  -- the states at valuation v with a move into Z
  pub leading_says : (s v : ℕ) → s < T.states
      → Says (bit (leading_at T.next (from T f) (to T f) n Z v) s) ((t : ℕ) × (w : ℕ) × (So (leads T f s v t w) × So (inside Z t w)))
  unfolding leading_at pre_of
  leading_says s v ls = (found, of)
    where
      target : ℕ → ℕ
      target w = bit_and (get_or Z w 0) (to T f v w)

      via : ℕ → ℕ
      via w = leading_via T.next (from T f) (to T f) n Z v w

      found : So (bit (leading_at T.next (from T f) (to T f) n Z v) s) → (t : ℕ) × (w : ℕ) × (So (leads T f s v t w) × So (inside Z t w))
      found e =
          let (w, lw, m) = any_found n (λ w. bit (via w) s) (rw bit_union at e) in
          let (p, leaves) = (and_says (bit (pre_of T.next (target w)) s) (bit (from T f v w) s)).0 (rw bit_and_lem at m) in
          let (_, some) = (and_says (ltb s (length T.next)) (meets T.next (target w) s)).0 (rw bit_word_of at p) in
          let (t, b) = some_member (bit_and (next_of T s) (target w)) some in
          let (allowed, c) = (and_says (bit (next_of T s) t) (bit (target w) t)).0 (rw bit_and_lem at b) in
          let (held, enters) = (and_says (inside Z t w) (bit (to T f v w) t)).0 (rw bit_and_lem at c) in
          (t, w, ((leads_says T f v w s t ls (z.range t w held).0).1 (leaves, allowed, enters), held))

      of : (t : ℕ) × (w : ℕ) × (So (leads T f s v t w) × So (inside Z t w)) → So (bit (leading_at T.next (from T f) (to T f) n Z v) s)
      of (t, w, (l, held)) =
          let (lt, lw) = z.range t w held in
          let (leaves, allowed, enters) = (leads_says T f v w s t ls lt).0 l in
          let hit : So (bit (bit_and (next_of T s) (target w)) t) = rw (bit_and_lem, bit_and_lem, allowed, held, enters) in
          let many : s < length T.next = rw A.nexts ls in
          rw bit_union (any_of n (λ w. bit (via w) s) w lw
          (rw (bit_and_lem, bit_word_of, leaves, lt-ltb s (length T.next) many, member_some (bit_and (next_of T s) (target w)) t hit)))

  -- the states at valuation w that a pair of Z leads to
  pub reached_says : (t w : ℕ) → t < T.states
      → Says (bit (reached_at T.next Z (from T f) (to T f) n w) t) ((s : ℕ) × (v : ℕ) × (So (inside Z s v) × So (leads T f s v t w)))
  reached_says t w lt = (found, of)
    where
      found : So (bit (reached_at T.next Z (from T f) (to T f) n w) t) → (s : ℕ) × (v : ℕ) × (So (inside Z s v) × So (leads T f s v t w))
      found e =
          let m = leads_move T.next Z (from T f) (to T f) n t w (rw bit_reached at e) in
          (m.s, m.v, (m.held, (leads_says T f m.v w m.s t (z.range m.s m.v m.held).0 lt).1 (m.leaves, m.allowed, m.arrives)))

      of : (s : ℕ) × (v : ℕ) × (So (inside Z s v) × So (leads T f s v t w)) → So (bit (reached_at T.next Z (from T f) (to T f) n w) t)
      of (s, v, (held, l)) =
          let (ls, lv) = z.range s v held in
          let (leaves, allowed, enters) = (leads_says T f v w s t ls lt).0 l in
          rw bit_reached (move_leads T.next Z (from T f) (to T f) n t w (record {
            v = v;
            s = s;
            small = lv;
            state = rw A.nexts ls;
            held = held;
            leaves = leaves;
            allowed = allowed;
            arrives = enters;
          }))

  -- the same, of nodes
  pub leading_node : (x : ℕ) → state_of x < T.states → T.states ≤ 64
      → Says (bit (leading_at T.next (from T f) (to T f) n Z (values_of x)) (state_of x)) ((y : ℕ) × So (edge T f x y) × So (nodes_of Z y))
  leading_node x ls few = (
    λ e.
        let (t, w, (l, held)) = (leading_says (state_of x) (values_of x) ls).0 e in
        let low : t < 64 = (let h = (z.range t w held).0 in omega arith) in
        (node t w, rw (node_first t w low, node_second t w low) l, rw (node_first t w low, node_second t w low) held),
    λ (y, l, held). (leading_says (state_of x) (values_of x) ls).1 (state_of y, values_of y, (l, held)),
  )

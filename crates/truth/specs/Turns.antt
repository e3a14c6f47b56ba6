-- What one more turn makes of each list that a loop fills.
use Prim.Native.Nat.{ℕ, zero, suc, ◌+◌, ◌*◌, ◌/◌, ◌%◌, ◌≤◌}
use Rattle.std.specs.Prelude.{◌≡◌, refl, List, get_or, set}
use Rattle.std.proofs.Common.{sym, add-one}
use native.Mathlib.Omega.{arith}
use Rattle.syntax.specs.declared.Node.{Node}
use Rattle.syntax.specs.declared.Op.{Op}
use Rattle.truth.specs.Columns.{column_filled, columns_filled, columns_all, column_turn}
use Rattle.shape.specs.Ops.{op_at}
use Rattle.truth.specs.Nodes.{leaf_of, made_of, own_of, word_at, node_filled, nodes_after}
use Rattle.truth.specs.Rows.{told_of, part_at, row_at, rows_from}
use Rattle.truth.specs.Asked.{Asked}

-- ---- the words behind node `at`

pub node_turn :
    (op : Op) (leaf first number at : ℕ) (words : List ℕ) (v : ℕ) (w : List ℕ) (x own y : ℕ) →
    w ≡ node_filled op leaf first number at words v → x ≡ word_at w first v → own ≡ own_of v number →
    y ≡ made_of op leaf x (get_or w (at * 64 + v) 0) own → set w (at * 64 + v + 64) y ≡ node_filled op leaf first number at words (v + 1)
unfolding node_filled
node_turn op leaf first number at words v w x own y e g o h = rw (h, o, g, e, add-one)

module _ (nodes : List Node) (label begins numbers : List ℕ) where
  abbrev after : ℕ → List ℕ
  after n = nodes_after nodes label begins numbers n

  -- they are the next 64
  node_words_lem : (at v : ℕ) → v ≤ 64 → after (at * 64 + v) ≡ node_filled (op_at nodes at) (leaf_of (op_at nodes at) label) (get_or begins at 0) (get_or numbers at 0) at (after (at * 64)) v
  unfolding nodes_after node_filled
  node_words_lem at zero l = let e : at * 64 + 0 ≡ at * 64 = omega arith in rw e
  node_words_lem at (suc v) l =
      let q : (at * 64 + v) / 64 ≡ at = omega arith in
      let r : (at * 64 + v) % 64 ≡ v = omega arith in
      let n : at * 64 + suc v ≡ suc (at * 64 + v) = omega arith in
      let e = node_words_lem at v (omega arith) in
      rw (← e, n, q, r)

  pub nodes_turn :
      (at : ℕ) (w : List ℕ) (leaf first number : ℕ) (r : List ℕ) → w ≡ after (at * 64) → leaf ≡ leaf_of (op_at nodes at) label → first ≡ get_or begins at 0 → number ≡ get_or numbers at 0 →
      r ≡ node_filled (op_at nodes at) leaf first number at w 64 → r ≡ after ((at + 1) * 64)
  nodes_turn at w leaf first number r e l f m h =
      let n : (at + 1) * 64 ≡ at * 64 + 64 = omega arith in
      rw (h, m, f, l, e, n) (sym (node_words_lem at 64 (omega arith)))

-- ---- the entries of part k

pub part_turn :
    (asked : Asked) (op : Op) (first last : ℕ) (words : List ℕ) (k : ℕ) (t : List ℕ) (v : ℕ) (l : List ℕ) (x y own r : ℕ) →
    l ≡ column_filled k (part_at asked op first last words k) t v → x ≡ word_at words first v → y ≡ word_at words last v → own ≡ own_of v k →
    r ≡ told_of asked op x y own → set l (v * 6 + k) r ≡ column_filled k (part_at asked op first last words k) t (v + 1)
unfolding part_at
part_turn asked op first last words k t v l x y own r e p q o h =
    column_turn k v (part_at asked op first last words k) t l r e (rw (h, o, q, p) refl)

pub rows_turn :
    (asked : Asked) (kinds : List Node) (begins order words : List ℕ) (k : ℕ) (t : List ℕ) (first last : ℕ) (r : List ℕ) →
    t ≡ columns_filled (row_at asked kinds begins order words) k → last ≡ get_or order k 0 → first ≡ get_or begins last 0 →
    r ≡ column_filled k (part_at asked (op_at kinds k) first last words k) t 64 → r ≡ columns_filled (row_at asked kinds begins order words) (k + 1)
unfolding columns_filled row_at
rows_turn asked kinds begins order words k t first last r e l f h = rw (h, f, l, e, add-one)

-- after the last part
pub rows_all :
    (asked : Asked) (kinds : List Node) (begins order words : List ℕ) →
    columns_filled (row_at asked kinds begins order words) 6 ≡ rows_from asked kinds begins order words
unfolding rows_from
rows_all asked kinds begins order words = columns_all (row_at asked kinds begins order words)

-- How many parts there are before each place.
use Prim.Native.Nat.{ℕ, zero, suc, ◌+◌, ◌≤◌}
use Rattle.std.specs.Prelude.{◌≡◌, List, length, get_or}
use Rattle.std.proofs.Math.Path.{ap}
use Rattle.std.proofs.Common.{◌∙◌, get_or-set_same}
use native.Mathlib.Omega.{arith}
use Rattle.std.proofs.Math.Decide.{ℕ_discrete}
use Rattle.std.proofs.Math.ListN.{length-set, length-replicate}
use Rattle.std.proofs.Math.Seq.{get_or-set_other}
use Rattle.syntax.specs.declared.Op.{Op}
use Rattle.syntax.specs.declared.Node.{Node}
use Rattle.words.specs.Word.{digit}
use Rattle.words.specs.Below.{count_below}
use Rattle.shape.specs.Ops.{op_at, is_part}
use Rattle.shape.specs.Shape.{parts_before, counts_of}
use Rattle.truth_laws.specs.Tree.{Tree, leaf, one, two, nodes_in, count_in, Stands}

module _ (nodes : List Node) where
  length_counts : (n : ℕ) → length (counts_of nodes n) ≡ 33
  unfolding counts_of
  length_counts zero = length-replicate {A = ℕ} 33 0
  length_counts (suc n) = length-set (counts_of nodes n) (suc n) _ ∙ length_counts n

  pub counts_at : (n p : ℕ) → p ≤ n → n ≤ 32 → get_or (counts_of nodes n) p 0 ≡ parts_before nodes p
  unfolding counts_of count_below
  counts_at zero p l h = let e : p ≡ 0 = omega arith in rw e
  counts_at (suc n) p l h = elim (ℕ_discrete p (suc n)) [
    | yes e ↦ rw e (get_or-set_same (counts_of nodes n) (suc n) (parts_before nodes (suc n)) 0 (omega (arith, length_counts n)))
    | no d ↦ get_or-set_other (counts_of nodes n) (suc n) p (parts_before nodes (suc n)) 0 d ∙ counts_at n p (omega arith) (omega arith)
  ]

  -- one node more
  count_turn : (o : Op) (n : ℕ) → op_at nodes n ≡ o → parts_before nodes (suc n) ≡ parts_before nodes n + digit (is_part o)
  unfolding count_below
  count_turn o n e = ap (λ (x : Op). parts_before nodes n + digit (is_part x)) e

  pub counts_tree : (t : Tree) (i : ℕ) → Stands nodes t i → parts_before nodes (i + nodes_in t) ≡ parts_before nodes i + count_in t
  unfolding Stands nodes_in count_in
  counts_tree (leaf o) i s =
      let e : i + 1 ≡ suc i = omega arith in
      rw e (count_turn o i s.0 ∙ rw s.2 (omega arith))
  counts_tree (one o a) i s =
      let e : i + suc (nodes_in a) ≡ suc (i + nodes_in a) = omega arith in
      rw e (count_turn o (i + nodes_in a) s.1 ∙ omega (arith, counts_tree a i s.0))
  counts_tree (two o a b) i s =
      let e : i + suc (nodes_in a + nodes_in b) ≡ suc (i + nodes_in a + nodes_in b) = omega arith in
      rw e (count_turn o (i + nodes_in a + nodes_in b) s.2 ∙ omega (arith, counts_tree a i s.0, counts_tree b (i + nodes_in a) s.1))

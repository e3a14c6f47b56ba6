-- Where the operands of a rule stand among its nodes, and how their parts are numbered.
use Rattle.std.specs.Prelude.{ℕ, suc, ◌+◌, ◌≤◌, ◌<◌, ◌≡◌, true, false, get_or}
use Rattle.std.proofs.Common.{sym, ◌∙◌, arith}
use Rattle.std.proofs.Math.ListN.{length}
use Rattle.meaning.specs.Formula.{Formula, size, parts}
use Rattle.syntax.specs.declared.Op.{Op}
use Rattle.syntax.specs.declared.Rule.{Rule}
use Rattle.syntax.specs.Value.{rule_of}
use Rattle.theory.specs.Each.{Numbered, numbered_append}
use Rattle.shape.specs.Ops.{op_at, is_part}
use Rattle.shape.specs.Shape.{begins_of}
use Rattle.truth_laws.specs.Begins.{begins_tree}
use Rattle.truth_laws.specs.Tree.{Tree, leaf, one, two, tree_of, nodes_in, own, placed, Stands, nodes_tree, count_tree, length_placed}
use Rattle.truth_laws.proofs.Stands.{rule_stands}
use Rattle.truth_laws.proofs.Numbers.{PartAt, parts_at}

-- the tree t stands at the nodes from i on, and its parts are numbered from n
pub record Occurs (rule : Rule) (t : Tree) (i n : ℕ) : Type 0 where
  pub stands : Stands rule.nodes t i
  pub fits : i + nodes_in t ≤ rule.len
  pub short : rule.len ≤ 32
  pub numbered : Numbered (PartAt rule) (placed t i) n

-- the whole rule
pub occurs_whole : (f : Formula) → size f ≤ 32 → parts f ≤ 6 → Occurs (rule_of f) (tree_of f) 0 0
occurs_whole f few six = record {
  stands = rule_stands f;
  fits = omega (arith, nodes_tree f);
  short = few;
  numbered = parts_at (rule_of f) (tree_of f) (rule_stands f) (sym (nodes_tree f)) (omega (arith, nodes_tree f)) (omega (arith, count_tree f));
}

pub leaf_op : {rule : Rule} {o : Op} {i n : ℕ} → Occurs rule (leaf o) i n → op_at rule.nodes i ≡ o
unfolding Stands
leaf_op c = c.stands.0

-- an operator stands behind the last of its operands, u, which begins at node j, and z is the place behind it; the operator's own number,
-- where it is a part, is n, and the operand's come after it
pub record Above (rule : Rule) (o : Op) (u : Tree) (j n z : ℕ) : Type 0 where
  pub op : op_at rule.nodes (j + nodes_in u) ≡ o
  pub ends : z ≡ suc (j + nodes_in u)
  pub inside : j + nodes_in u < rule.len
  pub short : rule.len ≤ 32
  pub stands : Stands rule.nodes u j
  pub numbered : Numbered (PartAt rule) (own o (j + nodes_in u) (placed u j)) n

module _ {rule : Rule} {o : Op} {u : Tree} {j n z : ℕ} (c : Above rule o u j n z) where
  -- its operand, where it is no part, and where it is one
  pub above_plain : is_part o ≡ false → Occurs rule u j n
  above_plain e = record { stands = c.stands; fits = omega (arith, c.inside); short = c.short; numbered = rw e at c.numbered }

  pub above_part : is_part o ≡ true → PartAt rule (j + nodes_in u) n × Occurs rule u j (suc n)
  above_part e =
      let h : PartAt rule (j + nodes_in u) n × Numbered (PartAt rule) (placed u j) (suc n) = rw e at c.numbered in
      (h.0, record { stands = c.stands; fits = omega (arith, c.inside); short = c.short; numbered = h.1 })

  -- the operand begins where it should
  pub above_begins : get_or (begins_of rule.nodes rule.len) (j + nodes_in u) 0 ≡ j
  above_begins = begins_tree rule.nodes rule.len c.short u j c.stands (omega (arith, c.inside))

-- an operator with one operand
pub one_above : {rule : Rule} {o : Op} {t : Tree} {i n : ℕ} → Occurs rule (one o t) i n → Above rule o t i n (i + nodes_in (one o t))
unfolding Stands nodes_in placed
one_above c = record { op = c.stands.1; ends = omega arith; inside = omega (arith, c.fits); short = c.short; stands = c.stands.0; numbered = c.numbered }

-- with two: its own number stands between theirs
module _ {rule : Rule} {o : Op} (a : Formula) {u : Tree} {i n : ℕ} (c : Occurs rule (two o (tree_of a) u) i n) where
  abbrev t : Tree
  t = tree_of a

  abbrev j : ℕ
  j = i + nodes_in t

  abbrev numbers : Numbered (PartAt rule) (placed t i) n × Numbered (PartAt rule) (own o (j + nodes_in u) (placed u j)) (n + parts a)
  unfolding placed
  numbers =
      let e : length (placed t i) ≡ parts a = length_placed t i ∙ count_tree a in
      rw e at ((numbered_append (PartAt rule) (placed t i) (own o (j + nodes_in u) (placed u j)) n).0 c.numbered)

  pub two_left : Occurs rule t i n
  unfolding Stands nodes_in
  two_left = record { stands = c.stands.0; fits = omega (arith, c.fits); short = c.short; numbered = numbers.0 }

  pub two_above : Above rule o u j (n + parts a) (i + nodes_in (two o t u))
  unfolding Stands nodes_in
  two_above = record { op = c.stands.2; ends = omega arith; inside = omega (arith, c.fits); short = c.short; stands = c.stands.1; numbered = numbers.1 }

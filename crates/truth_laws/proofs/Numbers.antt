-- Each part's node has the part's number, and its operator.
use Prim.Native.Nat.{ℕ, zero, suc, ◌+◌, ◌≤◌, ◌<◌}
use Rattle.std.specs.Prelude.{◌≡◌, Bool, eqb, length, get_or, replicate}
use Rattle.std.proofs.Math.Path.{refl, ap}
use Rattle.std.proofs.Common.{sym, ◌∙◌, get_or-set_same, get_or-set_other, eq-eqb, eqb-true}
use Rattle.std.proofs.Math.Bool.{So}
use mathlib.Core.List.{List, []}
use native.Mathlib.Omega.{arith}
use Rattle.std.proofs.Math.Nat.{zero-add}
use Rattle.std.proofs.Math.Decide.{ℕ_discrete}
use Rattle.std.proofs.Math.ListN.{length-set, length-replicate}
use Rattle.syntax.specs.declared.Op.TheVariants.{False}
use Rattle.syntax.specs.declared.Node.{Node}
use Rattle.syntax.specs.declared.Rule.{Rule}
use Rattle.words.specs.Below.{count_below, any_below}
use Rattle.words.specs.Folds.{first_found, any_found}
use Rattle.words.specs.Lists.{list_at}
use Rattle.words.specs.Truth.{not_so}
use Rattle.theory.specs.Each.{Numbered, numbered_of}
use Rattle.shape.specs.Ops.{op_at}
use Rattle.shape.specs.Shape.{parts_before, order_of, number_in, numbers_of, kinds_after, kinds_of, parts_in, order_in}
use Rattle.truth_laws.specs.Counts.{counts_at, counts_tree}
use Rattle.truth_laws.proofs.Order.{Laid, order_tree}
use Rattle.truth_laws.specs.Apart.{apart_at, placed_apart, placed_below}
use Rattle.truth_laws.specs.Tree.{Tree, nodes_in, count_in, placed, Stands, length_placed}

-- the number of a part's node, where the table begins with a list of nodes apart
number_at : (t : Tree) (l : List ℕ) (k : ℕ) → Laid l (placed t 0) → k < count_in t → number_in l (count_in t) (get_or (placed t 0) k 0) ≡ k
number_at t l k h lk =
    first_found (count_in t) is k lk (not_so (any_below k is) none)
    (eq-eqb (get_or l k 0) (get_or xs k 0) (h.entries k (omega (arith, length_placed t 0))))
  where
    xs : List ℕ
    xs = placed t 0

    is : ℕ → Bool
    is j = eqb (get_or l j 0) (get_or xs k 0)

    none : So (any_below k is) → ⊥
    none a =
        let w = any_found k is a in
        apart_at xs (placed_apart t 0) w.0 k w.1 (omega (arith, length_placed t 0))
        (sym (h.entries w.0 (omega (arith, length_placed t 0, w.1))) ∙ eqb-true (get_or l w.0 0) (get_or xs k 0) w.2)

-- the operators of the parts
module _ (nodes : List Node) (l : List ℕ) where
  length_kinds : (n : ℕ) → length (kinds_after nodes l n) ≡ 6
  unfolding kinds_after
  length_kinds zero = length-replicate {A = Node} 6 (record { op = False })
  length_kinds (suc n) = length-set (kinds_after nodes l n) n _ ∙ length_kinds n

  kinds_after_lem : (n k : ℕ) → k < n → n ≤ 6 → op_at (kinds_after nodes l n) k ≡ op_at nodes (get_or l k 0)
  unfolding kinds_after
  kinds_after_lem zero k lk h = absurd (omega arith)
  kinds_after_lem (suc n) k lk h = elim (ℕ_discrete k n) [
    | yes e ↦ rw e (ap (λ (x : Node). x.op) (get_or-set_same (kinds_after nodes l n) n (record { op = op_at nodes (get_or l n 0) }) (record { op = False }) (omega (arith, length_kinds n))))
    | no d ↦ ap (λ (x : Node). x.op) (get_or-set_other (kinds_after nodes l n) n k (record { op = op_at nodes (get_or l n 0) }) (record { op = False }) d)
        ∙ kinds_after_lem n k (omega arith) (omega arith)
  ]

  pub kinds_at : (k : ℕ) → k < 6 → op_at (kinds_of nodes l) k ≡ op_at nodes (get_or l k 0)
  kinds_at k lk = kinds_after_lem 6 k lk (omega arith)

-- node x is part k
pub record PartAt (rule : Rule) (x k : ℕ) : Type 0 where
  pub order : get_or (order_in rule) k 0 ≡ x
  pub number : get_or (numbers_of (order_in rule) (parts_in rule)) x 0 ≡ k
  pub few : k < 6

module _ (rule : Rule) (t : Tree) (s : Stands rule.nodes t 0) (len : rule.len ≡ nodes_in t) (most : nodes_in t ≤ 32) where
  pub parts_in_lem : parts_in rule ≡ count_in t
  unfolding count_below
  parts_in_lem =
      let e : rule.len ≡ 0 + nodes_in t = omega arith in
      counts_at rule.nodes rule.len rule.len (omega arith) (omega arith)
      ∙ ap (parts_before rule.nodes) e ∙ counts_tree rule.nodes t 0 s ∙ zero-add (count_in t)

  laid : count_in t ≤ 6 → Laid (order_in rule) (placed t 0)
  unfolding order_of count_below
  laid few =
      let e : 0 + nodes_in t ≡ rule.len = omega arith in
      let none : Laid (replicate 6 0) [] = record { few = omega arith; entries = λ k l. absurd (omega arith) } in
      rw e at (order_tree rule.nodes rule.len (omega arith) t 0 [] s (omega arith) refl (omega arith) none)

  pub parts_at : count_in t ≤ 6 → Numbered (PartAt rule) (placed t 0) 0
  unfolding numbers_of
  parts_at few = numbered_of (PartAt rule) 0 (placed t 0) 0 (λ k lk. rw zero-add (record {
    order = (laid few).entries k lk;
    number = list_at 32 (number_in (order_in rule) (parts_in rule)) (get_or (placed t 0) k 0) (omega (arith, placed_below t 0 k lk))
        ∙ rw parts_in_lem (number_at t (order_in rule) k (laid few) (omega (arith, length_placed t 0)));
    few = omega (arith, length_placed t 0);
  }))

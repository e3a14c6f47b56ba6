-- What the calls on a value's nodes say, and one turn of the loop over them.
use Prim.Native.Nat.{ℕ, ◌+◌, ◌-◌, ◌≤◌, ◌<◌}
use mathlib.Core.Path.{◌≡◌, refl, sym, ap, ◌∙◌}
use mathlib.Core.List.{List, [], ◌∷◌}
use mathlib.Core.Bool.{Bool, true, false, ◌&&◌, cond}
use native.Mathlib.Omega.{arith}
use borrow.Author.Tests.{le-leb, lt-leb, ltb-true, ltb-false}
use lib.Dec.{eqb, ltb}
use lib.ListN.{length, take, drop, length-drop}
use lib.Seq.{take_all}
use Rattle.std.specs.Prelude.{◌↔◌, IsTrue, All}
use Rattle.std.specs.List.{list_all}
use Rattle.std.proofs.lemmas.List.Sums.{AllPass-from_list_all, list_all-from_AllPass}
use Rattle.syntax.specs.declared.Op.{Op}
use Rattle.syntax.specs.declared.Node.{Node}
use Rattle.syntax.specs.declared.Rule.{Rule}
use Rattle.syntax.specs.Postfix.{sides, whole}
use Rattle.syntax.specs.Value.{ops_of, stored, held, beyond}
use Rattle.syntax.proofs.Held.{held_start, ops_end}
use Rattle.meaning.specs.Step.{every}

-- a test of all nodes is one of all operators
every_op : (p : Op → Bool) (ns : List Node) → list_all (λ n. p n.op) ns ≡ every p (ops_of ns)
unfolding every ops_of
every_op p [] = refl
every_op p (n ∷ ns) = ap (λ b. p n.op && b) (every_op p ns)

same_answer : (b l : Bool) → (b ≡ true → l ≡ true) → (l ≡ true → b ≡ true) → b ≡ l
same_answer true l to from = sym (to refl)
same_answer false false to from = refl
same_answer false true to from = from refl

pub every_by_all : (p : Op → Bool) (ns : List Node) (b : Bool) → (IsTrue b ↔ All (λ n. IsTrue (p n.op)) ns) → b ≡ every p (ops_of ns)
every_by_all p ns b h =
    let q : Node → Bool = λ n. p n.op in
    same_answer b (list_all q ns) (λ e. list_all-from_AllPass q ns (h.0 e)) (λ e. h.1 (AllPass-from_list_all q ns e)) ∙ every_op p ns

-- the nodes that stand in the array are those that the value holds, and the others are beyond them
module _ (r : Rule) (is : length r.nodes ≡ 32) (k : ℕ) (few : k ≡ stored r) where
  pub held_nodes : ops_of (take k r.nodes) ≡ held r
  held_nodes = ap (λ i. ops_of (take i r.nodes)) few ∙ held_start r is

  pub other_nodes : ops_of (take (length r.nodes - k) (drop k r.nodes)) ≡ beyond r
  other_nodes =
      ap ops_of (take_all (length r.nodes - k) (drop k r.nodes) (omega (arith, length-drop k r.nodes))) ∙ ap (λ i. ops_of (drop i r.nodes)) few ∙ go (ltb 32 r.len) refl
    where
      go : (b : Bool) → ltb 32 r.len ≡ b → ops_of (drop (cond b 32 r.len) r.nodes) ≡ beyond r
      go true e = let h = ltb-true 32 r.len e in ops_end r.nodes 32 (omega arith) ∙ sym (ops_end r.nodes r.len (omega arith))
      go false e = refl

module _ {os : List Op} (d : ℕ) {b : Bool} (inv : whole os d ≡ b) where
  pub whole_on : {o : Op} {ps : List Op} → os ≡ o ∷ ps → (k : ℕ) → k ≡ sides o → k ≤ d → whole ps (d + 1 - k) ≡ b
  unfolding whole
  whole_on {o} {ps} e k q h =
      ap (λ n. whole ps (d + 1 - n)) q ∙ sym (ap (λ x. x && whole ps (d + 1 - sides o)) (le-leb (sides o) d (omega arith))) ∙ sym (ap (λ l. whole l d) e) ∙ inv

  pub whole_stops : {o : Op} {ps : List Op} → os ≡ o ∷ ps → d < sides o → false ≡ b
  unfolding whole
  whole_stops {o} {ps} e h = sym (ap (λ x. x && whole ps (d + 1 - sides o)) (lt-leb (sides o) d h)) ∙ sym (ap (λ l. whole l d) e) ∙ inv

  pub whole_ends : os ≡ [] → eqb d 1 ≡ b
  unfolding whole
  whole_ends e = sym (ap (λ l. whole l d) e) ∙ inv

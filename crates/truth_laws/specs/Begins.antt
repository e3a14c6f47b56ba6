-- Where operands begin: what ends at place i + n, where it has n nodes, begins at place i.
use Prim.Native.Nat.{ℕ, zero, suc, ◌+◌, ◌≤◌, ◌<◌}
use Rattle.std.specs.Prelude.{◌≡◌, Bool, true, false, cond, eqb, length, set}
use Rattle.std.proofs.Common.{sym, ap, ◌∙◌, le_trans}
use Rattle.std.proofs.Math.Path.{ap₂}
use mathlib.Core.List.{List}
use native.Mathlib.Omega.{arith}
use Rattle.std.proofs.Math.Decide.{ℕ_discrete}
use Rattle.std.proofs.Math.ListN.{get_or, length-set, length-replicate}
use Rattle.std.proofs.Math.Seq.{get_or-set_same, get_or-set_other}
use Rattle.syntax.specs.declared.Op.{Op}
use Rattle.syntax.specs.declared.Node.{Node}
use Rattle.syntax.specs.Postfix.{sides}
use Rattle.shape.specs.Ops.{op_at}
use Rattle.shape.specs.Shape.{begin_of, begins_of}
use Rattle.words.specs.Lists.{zeros}
use Rattle.truth_laws.specs.Grows.{stays}
use Rattle.truth_laws.specs.Tree.{Tree, leaf, one, two, nodes_in, Stands}

module _ (nodes : List Node) where
  length_begins : (n : ℕ) → length (begins_of nodes n) ≡ 33
  unfolding begins_of
  length_begins zero = length-replicate {A = ℕ} 33 0
  length_begins (suc n) = length-set (begins_of nodes n) (suc n) _ ∙ length_begins n

  -- a turn leaves the entries before it
  begins_stay : (n p : ℕ) → p ≤ n → get_or (begins_of nodes (suc n)) p 0 ≡ get_or (begins_of nodes n) p 0
  unfolding begins_of
  begins_stay n p l = get_or-set_other (begins_of nodes n) (suc n) p _ 0 (λ e. omega arith)

  begin_low : (o : Op) (i x y : ℕ) → x ≤ i → y ≤ i → begin_of o i x y ≤ i
  begin_low o i x y h k = go (eqb (sides o) 0) (eqb (sides o) 1)
    where
      go : (b c : Bool) → cond b i (cond c x y) ≤ i
      go true c = omega arith
      go false true = h
      go false false = k

  -- nothing begins behind its end
  low_turn : (n : ℕ) → suc n ≤ 32 → ((p : ℕ) → get_or (begins_of nodes n) p 0 ≤ p) → (p : ℕ) → get_or (begins_of nodes (suc n)) p 0 ≤ p
  unfolding begins_of
  low_turn n l low p = elim (ℕ_discrete p (suc n)) [ yes e ↦ rw e at_end_lem | no d ↦ other d ]
    where
      b : List ℕ
      b = begins_of nodes n

      made : ℕ
      made = begin_of (op_at nodes n) n (get_or b n 0) (get_or b (get_or b n 0) 0)

      at_end_lem : get_or (set b (suc n) made) (suc n) 0 ≤ suc n
      at_end_lem =
          let z = begin_low (op_at nodes n) n (get_or b n 0) (get_or b (get_or b n 0) 0) (low n) (le_trans (low (get_or b n 0)) (low n)) in
          rw (get_or-set_same b (suc n) made 0 (omega (arith, length_begins n))) (omega (arith, z))

      other : (p ≡ suc n → ⊥) → get_or (set b (suc n) made) p 0 ≤ p
      other d = rw (get_or-set_other b (suc n) p made 0 d) (low p)

  begins_low : (n : ℕ) → n ≤ 32 → (p : ℕ) → get_or (begins_of nodes n) p 0 ≤ p
  unfolding begins_of
  begins_low zero l p = rw (zeros 33 p) (omega arith)
  begins_low (suc n) l p = low_turn n l (begins_low n (omega arith)) p

  module _ (len : ℕ) (few : len ≤ 32) where
    abbrev at : ℕ → ℕ
    at p = get_or (begins_of nodes len) p 0

    at_turn : (n p : ℕ) → p ≤ n → n ≤ len → at p ≡ get_or (begins_of nodes n) p 0
    at_turn n p l h = stays (λ m. get_or (begins_of nodes m) p 0) len n (λ m k _. begins_stay m p (le_trans l k)) len h (omega arith)

    pub begins_before : (p : ℕ) → at p ≤ p
    begins_before p = begins_low len few p

    made_at : (p : ℕ) → p < len → at (suc p) ≡ begin_of (op_at nodes p) p (at p) (at (at p))
    unfolding begins_of
    made_at p l =
        let b = begins_of nodes p in
        let low : get_or b p 0 ≤ p = begins_low p (omega arith) p in
        let first : at p ≡ get_or b p 0 = at_turn p p (omega arith) (omega arith) in
        at_turn (suc p) (suc p) (omega arith) l
        ∙ get_or-set_same b (suc p) _ 0 (omega (arith, length_begins p))
        ∙ ap₂ (λ (x y : ℕ). begin_of (op_at nodes p) p x y) (sym first) (sym (ap at first ∙ at_turn p (get_or b p 0) low (omega arith)))

    pub begins_tree : (t : Tree) (i : ℕ) → Stands nodes t i → i + nodes_in t ≤ len → at (i + nodes_in t) ≡ i
    unfolding Stands nodes_in
    begins_tree (leaf o) i s h =
        let e : i + 1 ≡ suc i = omega arith in
        rw e (made_at i (omega arith) ∙ rw (s.0, s.1))
    begins_tree (one o a) i s h =
        let e : i + suc (nodes_in a) ≡ suc (i + nodes_in a) = omega arith in
        rw e (made_at (i + nodes_in a) (omega arith) ∙ rw (s.1, s.2) (begins_tree a i s.0 (omega arith)))
    begins_tree (two o a b) i s h =
        let e : i + suc (nodes_in a + nodes_in b) ≡ suc (i + nodes_in a + nodes_in b) = omega arith in
        rw e (made_at (i + nodes_in a + nodes_in b) (omega arith)
        ∙ rw (s.2, s.3, begins_tree b (i + nodes_in a) s.1 (omega arith)) (begins_tree a i s.0 (omega arith)))

-- The nodes of a rule value, one after the other.
use Prim.Native.Nat.{ℕ, ◌+◌, ◌≤◌, ◌<◌}
use mathlib.Core.Path.{◌≡◌, refl, sym, ap, ◌∙◌}
use mathlib.Core.List.{List, [], ◌∷◌}
use mathlib.Core.Bool.{Bool, true, false, cond}
use native.Mathlib.Omega.{arith}
use native.Mathlib.Numerals.{add-one}
use borrow.Author.Tests.{ltb-true, ltb-false}
use lib.Dec.{ltb}
use lib.ListN.{length, take, drop, drop_of_length-le}
use Rattle.std.specs.Prelude.{count_by}
use Rattle.std.proofs.lemmas.List.Recursion.{is_sum_by}
use lib.Seq.{drop-cons, take_all}
use Rattle.syntax.specs.declared.Op.{Op}
use Rattle.syntax.specs.declared.Node.{Node}
use Rattle.syntax.specs.declared.Rule.{Rule}
use Rattle.syntax.specs.Value.{blank, op_at, ops_of, stored, held, is_part, count}

module _ (ns : List Node) where
  pub ops_turn : (i : ℕ) → i < length ns → ops_of (drop i ns) ≡ op_at ns i ∷ ops_of (drop (i + 1) ns)
  unfolding ops_of
  ops_turn i h = ap ops_of (drop-cons ns i blank h) ∙ ap (λ k. op_at ns i ∷ ops_of (drop k ns)) (sym (add-one i))

  pub ops_end : (i : ℕ) → length ns ≤ i → ops_of (drop i ns) ≡ []
  unfolding ops_of
  ops_end i h = ap ops_of (drop_of_length-le ns h)

-- the array has no more of them
pub stored_few : (r : Rule) → stored r ≤ 32
stored_few r = go (ltb 32 r.len) refl
  where
    go : (b : Bool) → ltb 32 r.len ≡ b → cond b 32 r.len ≤ 32
    go true e = omega arith
    go false e = ltb-false 32 r.len e

-- the nodes that stand in the array are those that the rule holds
pub held_start : (r : Rule) → length r.nodes ≡ 32 → ops_of (take (stored r) r.nodes) ≡ held r
held_start r is = go (ltb 32 r.len) refl
  where
    go : (b : Bool) → ltb 32 r.len ≡ b → ops_of (take (cond b 32 r.len) r.nodes) ≡ held r
    go true e = let h = ltb-true 32 r.len e in ap ops_of (take_all 32 r.nodes (omega arith) ∙ sym (take_all r.len r.nodes (omega arith)))
    go false e = refl

-- the parts among the nodes that a rule holds
pub count_held : (r : Rule) → length r.nodes ≡ 32 → count_by (λ n. is_part n.op) (take (stored r) r.nodes) ≡ count (held r)
unfolding count ops_of
count_held r is =
    sym (is_sum_by (λ ms. count (ops_of ms)) (λ m. cond (is_part m.op) 1 0) refl (λ m ms. refl) (take (stored r) r.nodes)) ∙ ap count (held_start r is)

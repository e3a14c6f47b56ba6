-- What the loops find is the truth of the rule on the lasso.
use Prim.Native.Nat.{ℕ, suc, ◌+◌, ◌-◌, ◌≤◌, ◌<◌}
use Prim.{Unit, tt}
use Rattle.std.specs.Prelude.{◌≡◌, Bool, List, length, get_or}
use Rattle.std.proofs.Common.{subst, ◌∙◌}
use native.Mathlib.Omega.{arith}
use Rattle.meaning.specs.Says.{Says}
use Rattle.meaning.specs.Formula.{Formula, Holds, size}
use Rattle.syntax.specs.declared.Rule.{Rule}
use Rattle.syntax.specs.Value.{rule_of}
use Rattle.shape.specs.Ops.{op_at}
use Rattle.node_value.specs.Unfold.{value_at, carry_at}
use Rattle.node_value.proofs.Rows.{Grown, rule_told}
use Rattle.around.specs.Around.{place, around, Means}
use Rattle.around.proofs.Places.{place_below}
use Rattle.around.proofs.Rows.{row, rows_right}
use Rattle.around.specs.Fill.{handed_from, round_of, stacks_after, around_of}
use Rattle.around.specs.Turns.{filled_at, length_stacks}

module _ (rule : Rule) (labels : List ℕ) (s : ℕ) (loops : s < length labels) (few : length labels ≤ 4096) where
  abbrev n : ℕ
  n = length labels

  abbrev label : ℕ → ℕ
  label i = get_or labels i 0

  -- the stack at position i behind p nodes
  abbrev stack : ℕ → ℕ → ℕ
  stack p i = get_or (stacks_after rule.nodes labels s p) i 0

  stacks_grown : Grown (Holds (around labels s)) (λ i. Unit {0}) (place s n) rule.nodes rule.len (row label s n) stack
  unfolding stacks_after handed_from value_at carry_at
  stacks_grown = record {
    grows = λ p l i _.
        let w = stacks_after rule.nodes labels s p in
        let op = op_at rule.nodes p in
        let z : 0 + n - suc (place s n i) ≡ n - suc (place s n i) = omega arith in
        let k = place_below s n loops i in
        filled_at op labels w (round_of op labels s w) n 0 (place s n i) (omega arith) (omega arith) (omega (arith, length_stacks rule.nodes labels s p)) ∙ rw z;
  }

-- of a rule's value, at any position
pub around_says : (f : Formula) → size f ≤ 32 → (labels : List ℕ) (s : ℕ) → s < length labels → length labels ≤ 4096
    → (p : ℕ) → Says (around_of (rule_of f) labels s p) (Holds (around labels s) f p)
unfolding around_of
around_says f short labels s loops few p =
    let label : ℕ → ℕ = λ i. get_or labels i 0 in
    (rule_told (Holds (around labels s)) (λ i. Unit {0}) (place s (length labels)) (row label s (length labels)) (rows_right label s (length labels) loops) f
    (stack (rule_of f) labels s loops few) short (stacks_grown (rule_of f) labels s loops few)).says p tt

pub around_means : (rule : Rule) (labels : List ℕ) (s p : ℕ) (r : Bool) → (rule.len ≤ 32) × (s < length labels) × (length labels ≤ 4096)
    → r ≡ around_of rule labels s p → Means rule labels s p r
around_means rule labels s p r (short, loops, few) e = record {
  says = λ f h.
      let small : size f ≤ 32 = subst (λ (x : Rule). x.len ≤ 32) h short in
      rw (e, h) (around_says f small labels s loops few p);
}

-- What the loops find is the truth of the rule on the finite trace.
use Prim.Native.Nat.{ℕ, zero, suc, ◌+◌, ◌-◌, ◌≤◌, ◌<◌}
use Rattle.std.specs.Prelude.{◌≡◌, Bool}
use Rattle.std.proofs.Math.Path.{ap, ap₂}
use Rattle.std.proofs.Common.{◌∙◌}
use native.Mathlib.Omega.{arith}
use Rattle.meaning.specs.Bit.{bit}
use Rattle.meaning.specs.Says.{Says}
use Rattle.meaning.specs.Formula.{Formula, size}
use Rattle.syntax.specs.declared.Rule.{Rule}
use Rattle.syntax.specs.Value.{rule_of}
use Rattle.words.specs.Unions.{word_at_lem}
use Rattle.shape.specs.Ops.{op_at}
use Rattle.node_value.specs.Unfold.{guess_of, pushed_of, value_at, carry_at}
use Rattle.node_value.specs.Back.{back}
use Rattle.node_value.proofs.Rows.{hands_on, Grown, rule_told}
use Rattle.within.specs.Within.{HoldsWithin}
use Rattle.within.specs.Turn.{stack_after, ahead_from, stack_from}
use Rattle.within.proofs.Rows.{row, rows_right}

module _ (rule : Rule) (label : ℕ → ℕ) (n : ℕ) where
  -- the stack at event i behind p nodes
  abbrev stack : ℕ → ℕ → ℕ
  stack p i = stack_after rule.nodes (label i) (ahead_from rule label (n - suc i) (suc i)) p

  -- what node p hands on
  abbrev hands : ℕ → ℕ → Bool → Bool
  hands p = hands_on label (op_at rule.nodes p) (λ j. bit (stack p j) 1) (λ j. bit (stack p j) 0)

  ahead_is : (p : ℕ) → p < rule.len → (d i : ℕ) → i + d ≡ n → bit (ahead_from rule label d i) p ≡ back (hands p) (guess_of (op_at rule.nodes p)) d i
  unfolding ahead_from back value_at carry_at
  ahead_is p l zero i e = word_at_lem rule.len (λ k. guess_of (op_at rule.nodes k)) p l
  ahead_is p l (suc d) i e =
      let m : d ≡ n - suc i = omega arith in
      word_at_lem rule.len (λ k. carry_at (op_at rule.nodes k) (label i) (stack_after rule.nodes (label i) (ahead_from rule label d (suc i)) k)
      (bit (ahead_from rule label d (suc i)) k)) p l
      ∙ ap₂ (λ (s : ℕ) (b : Bool). carry_at (op_at rule.nodes p) (label i) s b)
      (ap (λ (m : ℕ). stack_after rule.nodes (label i) (ahead_from rule label m (suc i)) p) m) (ahead_is p l d (suc i) (omega arith))

  stacks_grown : (len : ℕ) → len ≤ rule.len → Grown (HoldsWithin n label) (λ i. i < n) (λ i. i) rule.nodes len (row label n) stack
  unfolding stack_after value_at
  stacks_grown len few = record {
    grows = λ p l i lt. ap (λ (b : Bool). pushed_of (stack p i) (op_at rule.nodes p) (value_at (op_at rule.nodes p) (label i) (stack p i) b))
        (ahead_is p (omega arith) (n - suc i) (suc i) (omega arith));
  }

-- THE TOP OF THE STACK at event i tells whether the rule holds there, within the n events
pub within_told : (f : Formula) → size f ≤ 32 → (label : ℕ → ℕ) (n i : ℕ) → i < n → Says (bit (stack_from (rule_of f) label (n - i) i) 0) (HoldsWithin n label f i)
unfolding stack_from
within_told f few label n i lt =
    let m : n - i ≡ suc (n - suc i) = omega arith in
    rw m ((rule_told (HoldsWithin n label) (λ i. i < n) (λ i. i) (row label n)
    (rows_right label n) f (stack (rule_of f) label n) few (stacks_grown (rule_of f) label n (size f) (omega arith))).says i lt)

-- What one more node makes of the stack and of what is handed on.
use Rattle.std.specs.Prelude.{ℕ, ◌+◌, ◌^◌, ◌≡◌, Bool, List}
use Rattle.std.proofs.Common.{add-one}
use Rattle.std.specs.Int.Bits.{bit_or}
use Rattle.meaning.specs.Bit.{bit}
use Rattle.syntax.specs.declared.Node.{Node}
use Rattle.words.specs.Word.{only_of}
use Rattle.words.specs.Unions.{word_more}
use Rattle.shape.specs.Ops.{op_at}
use Rattle.node_value.specs.Unfold.{pushed_of, value_at, carry_at}
use Rattle.within.specs.Turn.{stack_after, carries_after}

module _ (nodes : List Node) (l ahead n s : ℕ) (next : Bool) (e : s ≡ stack_after nodes l ahead n) (b : next ≡ bit ahead n) where
  pub stack_turn : (v : Bool) (r : ℕ) → v ≡ value_at (op_at nodes n) l s next → r ≡ pushed_of s (op_at nodes n) v → r ≡ stack_after nodes l ahead (n + 1)
  unfolding stack_after
  stack_turn v r h k = rw (k, h, b, e, add-one)

  pub carries_turn : (c : ℕ) (v : Bool) (x r : ℕ) → c ≡ carries_after nodes l ahead n → v ≡ carry_at (op_at nodes n) l s next → x ≡ 2 ^ n → r ≡ only_of v x
      → bit_or c r ≡ carries_after nodes l ahead (n + 1)
  carries_turn c v x r h k z m = rw (word_more, m, z, k, h, b, e)

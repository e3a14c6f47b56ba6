-- A rule's nodes at one event after the other, from the last to the first, as the loops find them.
use Rattle.std.specs.Prelude.{ℕ, zero, suc, List}
use Rattle.meaning.specs.Bit.{bit}
use Rattle.syntax.specs.declared.Node.{Node}
use Rattle.syntax.specs.declared.Rule.{Rule}
use Rattle.words.specs.Below.{word_of}
use Rattle.shape.specs.Ops.{op_at}
use Rattle.node_value.specs.Unfold.{guess_of, pushed_of, value_at, carry_at}

-- what each of the first n nodes hands on where no event lies ahead
abbrev pub guesses_of : List Node → ℕ → ℕ
guesses_of nodes n = word_of n (λ k. guess_of (op_at nodes k))

-- the stack of values at an event with the label l, after n nodes: k is a member of `ahead` where node k is handed on true
unfoldable pub stack_after : List Node → ℕ → ℕ → ℕ → ℕ
stack_after nodes l ahead zero = 0
stack_after nodes l ahead (suc n) =
    let s = stack_after nodes l ahead n in pushed_of s (op_at nodes n) (value_at (op_at nodes n) l s (bit ahead n))

-- what each of the first n nodes hands on from there
abbrev pub carries_after : List Node → ℕ → ℕ → ℕ → ℕ
carries_after nodes l ahead n = word_of n (λ k. carry_at (op_at nodes k) l (stack_after nodes l ahead k) (bit ahead k))

-- what is handed on by event i, the first of d up to the last
unfoldable pub ahead_from : Rule → (ℕ → ℕ) → ℕ → ℕ → ℕ
ahead_from rule label zero i = guesses_of rule.nodes rule.len
ahead_from rule label (suc d) i = carries_after rule.nodes (label i) (ahead_from rule label d (suc i)) rule.len

-- and the stack of values there, behind the last node
unfoldable pub stack_from : Rule → (ℕ → ℕ) → ℕ → ℕ → ℕ
stack_from rule label zero i = 0
stack_from rule label (suc d) i = stack_after rule.nodes (label i) (ahead_from rule label d (suc i)) rule.len

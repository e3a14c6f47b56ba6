-- A rule's nodes at all positions of a lasso, node by node, as the loops find them: a stack of values at each position.
use Rattle.std.specs.Prelude.{ℕ, zero, suc, ◌-◌, Bool, List, length, get_or, set, replicate}
use Rattle.meaning.specs.Bit.{bit}
use Rattle.syntax.specs.declared.Op.{Op}
use Rattle.syntax.specs.declared.Node.{Node}
use Rattle.syntax.specs.declared.Rule.{Rule}
use Rattle.shape.specs.Ops.{op_at}
use Rattle.node_value.specs.Unfold.{guess_of, pushed_of, value_at, carry_at}
use Rattle.node_value.specs.Back.{back}
use Rattle.around.specs.Around.{place}

-- what a node hands on at position i, the first of d up to the last
unfoldable pub handed_from : Op → List ℕ → List ℕ → Bool → ℕ → ℕ → Bool
handed_from op labels words end d i = back (λ j ahead. carry_at op (get_or labels j 0) (get_or words j 0) ahead) end d i

-- the stacks with the node's value put on at those d positions
unfoldable pub filled_from : Op → List ℕ → List ℕ → Bool → ℕ → ℕ → List ℕ
filled_from op labels words end zero i = words
filled_from op labels words end (suc d) i =
    set (filled_from op labels words end d (suc i)) i
    (pushed_of (get_or words i 0) op (value_at op (get_or labels i 0) (get_or words i 0) (handed_from op labels words end d (suc i))))

-- what the node hands on from the loop's first position, once round the loop, is what its last position is handed
abbrev pub round_of : Op → List ℕ → ℕ → List ℕ → Bool
round_of op labels s words = handed_from op labels words (guess_of op) (length labels - s) s

-- the stacks behind n nodes
unfoldable pub stacks_after : List Node → List ℕ → ℕ → ℕ → List ℕ
stacks_after nodes labels s zero = replicate 4096 0
stacks_after nodes labels s (suc n) =
    let w = stacks_after nodes labels s n in filled_from (op_at nodes n) labels w (round_of (op_at nodes n) labels s w) (length labels) 0

-- the rule's value at position p
unfoldable pub around_of : Rule → List ℕ → ℕ → ℕ → Bool
around_of rule labels s p = bit (get_or (stacks_after rule.nodes labels s rule.len) (place s (length labels) p) 0) 0

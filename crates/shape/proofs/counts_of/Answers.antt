-- `counts_of`: `at` is what the nodes passed make, and `count` is how many of them are parts.
use mathlib.Core.Path.{◌≡◌, refl, ◌∙◌}
use mathlib.Core.Bool.{Bool, true, false, cond}
use Prim.Native.Nat.{◌+◌, zero-le}
use native.Mathlib.Omega.{arith}
use mir.Val.{bool_byte}
use Rattle.words.specs.Below.{count_below}
use Rattle.words.specs.Folds.{count_le}
use Rattle.shape.specs.Ops.{op_at, is_part}
use Rattle.shape.specs.Shape.{counts_of}
use Rattle.shape.specs.Turns.{parts_turn, counts_turn}
use Rattle.shape.proofs.counts_of.Goals as goal

pub loop-i-init : goal.loop-i-init
unfolding count_below counts_of
loop-i-init c = (zero-le, refl, refl)

one : (b : Bool) → bool_byte b ≡ cond b 1 0
one true = refl
one false = refl

pub overflow_add-count : goal.overflow_add-count
overflow_add-count c =
    let turn = c.loop-i in
    let nodes = c.args.rule.nodes in
    let counted = parts_turn nodes turn.i turn.count _ _ c.from-count.result turn.invariant.1 c.op_at.ensures c.is_part.ensures (c.from-count.ensures ∙ one _) in
    omega (arith, counted, count_le (turn.i + 1) (λ i. is_part (op_at nodes i)))

pub loop-i-preserved : goal.loop-i-preserved
loop-i-preserved c =
    let turn = c.loop-i in
    let nodes = c.args.rule.nodes in
    let counted = parts_turn nodes turn.i turn.count _ _ c.from-count.result turn.invariant.1 c.op_at.ensures c.is_part.ensures (c.from-count.ensures ∙ one _) in
    (omega arith, counted, counts_turn _ _ _ _ turn.invariant.2 counted)

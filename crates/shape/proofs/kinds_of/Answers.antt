-- `kinds_of`: each node is what its call gives.
use Rattle.std.proofs.Common.{rules, ℕ, get_or}
use Rattle.syntax.specs.declared.Node.{Node}
use Rattle.syntax.specs.Value.{blank}
use Rattle.words.specs.Below.{list_below}
use Rattle.shape.specs.Ops.{op_at}
use Rattle.shape.specs.Shape.{kinds_after}
use Rattle.words.proofs.Made.{list_made}
use Rattle.shape.proofs.kinds_of.Goals as goal

pub returns : goal.returns
unfolding kinds_after list_below
returns c =
    let kind : ℕ → Node = λ k. record { op = op_at c.args.rule.nodes (get_or c.args.order.now k 0) } in
    list_made _ _ kind blank (λ k y q call. search rules) 6 _ c.from_fn.ensures.items

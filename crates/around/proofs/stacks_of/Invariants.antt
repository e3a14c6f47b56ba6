-- `stacks_of`: the stacks behind the nodes passed.
use Rattle.std.proofs.Common.{◌≤◌, ◌≡◌}
use Rattle.around.specs.Fill.{stacks_after}
use Rattle.around.proofs.stacks_of.Given as goal

abbrev pub invariant-loop-node : goal.invariant-loop-node
invariant-loop-node l = (l.node-index ≤ l.fn.rule.len) × (l.words ≡ stacks_after l.fn.rule.nodes l.labels l.stem l.node-index)

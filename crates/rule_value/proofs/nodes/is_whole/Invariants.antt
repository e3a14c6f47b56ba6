-- `nodes::is_whole` meets its contract. The loop's invariant: the answer for the nodes from here on, on the rules so far, is the answer. Assumes nothing.
use Rattle.std.proofs.Common.{◌≤◌, ◌≡◌, drop}
use Rattle.syntax.specs.Postfix.{whole}
use Rattle.syntax.specs.Value.{ops_of}
use Rattle.rule_value.proofs.nodes.is_whole.Given as goal

abbrev pub invariant-loop-node : goal.invariant-loop-node
invariant-loop-node l = (l.depth ≤ l.node-index) × (whole (ops_of (drop l.node-index l.node-items)) l.depth ≡ whole (ops_of l.node-items) 0)

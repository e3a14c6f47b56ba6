-- `printer::room_of` meets its contract. The loop's invariant: what is counted and what the nodes ahead bring are what all bring. Assumes nothing.
use Rattle.std.proofs.Common.{◌+◌, ◌*◌, ◌≤◌, ◌≡◌, drop}
use Rattle.syntax.specs.Value.{ops_of}
use Rattle.printer.specs.Tell.{shares}
use Rattle.printer.proofs.room_of.Given as goal

abbrev pub invariant-loop-node : goal.invariant-loop-node
invariant-loop-node l = (l.total ≤ 4 * l.node-index) × (l.total + shares (ops_of (drop l.node-index l.node-items)) ≡ shares (ops_of l.node-items))

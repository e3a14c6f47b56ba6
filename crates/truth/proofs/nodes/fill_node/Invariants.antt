-- `nodes::fill_node`: the words passed are filled in.
use mathlib.Core.Path.{◌≡◌}
use Prim.Native.Nat.{◌≤◌}
use Rattle.truth.specs.Nodes.{node_filled}
use Rattle.truth.proofs.nodes.fill_node.Given as goal

abbrev pub invariant-loop-v : goal.invariant-loop-v
invariant-loop-v l = (l.v ≤ 64) × (l.words ≡ node_filled l.op l.leaf l.first l.number l.at l.initial.words l.v)

-- `nodes::fill_node`: the words passed are filled in.
use mathlib.Core.Path.{refl}
use Prim.Native.Nat.{zero-le}
use native.Mathlib.Omega.{arith}
use Rattle.truth.specs.Nodes.{node_filled}
use Rattle.truth.specs.Turns.{node_turn}
use Rattle.std.proofs.lemmas.Grind.{common_steps}
use Rattle.truth.proofs.nodes.fill_node.Goals as goal

pub loop-v-init : goal.loop-v-init
unfolding node_filled
loop-v-init c = (zero-le, refl)

pub loop-v-preserved : goal.loop-v-preserved
loop-v-preserved c = grind (arith, common_steps, node_turn)

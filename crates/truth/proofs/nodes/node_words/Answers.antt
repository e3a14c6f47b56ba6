-- `nodes::node_words`: `words` has the words behind the nodes passed.
use Rattle.std.proofs.Common.{arith, refl, zero-le}
use Rattle.std.proofs.lemmas.Grind.{common_steps}
use Rattle.truth.specs.Nodes.{nodes_after}
use Rattle.truth.specs.Turns.{nodes_turn}
use Rattle.truth.proofs.nodes.node_words.Goals as goal

pub loop-at-init : goal.loop-at-init
unfolding nodes_after
loop-at-init c = (zero-le, refl)

pub loop-at-preserved : goal.loop-at-preserved
loop-at-preserved c = grind (arith, common_steps, nodes_turn)

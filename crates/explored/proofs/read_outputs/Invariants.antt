-- `read_outputs`: the rows passed have what their lamps show.
use Rattle.std.proofs.Common.{◌≡◌}
use Rattle.joined.specs.Written.{written}
use Rattle.explored.specs.Blocks.{block_at}
use Rattle.explored.specs.States.{answer_of}
use Rattle.explored.proofs.read_outputs.Given as goal

abbrev pub invariant-loop-r : goal.invariant-loop-r
invariant-loop-r l = l.outputs ≡ written l.r (λ r. answer_of (block_at 130 l.room r)) l.initial.outputs

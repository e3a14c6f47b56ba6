-- `read_outputs`: a lamp shows at most 64 states left.
use Rattle.joined.specs.Written.{written_none, written_turn}
use Rattle.explored.specs.States.{answer_of, few_left}
use Rattle.explored.proofs.read_outputs.Goals as goal

pub loop-r-init : goal.loop-r-init
loop-r-init c = written_none _ _

pub lamp_number-requires : goal.lamp_number-requires
lamp_number-requires c = rw c.lamp.ensures (few_left _)

pub loop-r-preserved : goal.loop-r-preserved
unfolding answer_of
loop-r-preserved c = written_turn _ _ _ _ _ c.loop-r.invariant (rw (c.lamp.ensures, c.load.ensures) at c.lamp_number.ensures)

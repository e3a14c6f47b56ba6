-- `load`: whether an event came, and the two sets, as they stand in the block.
use Rattle.explored.specs.States.{monitor_loaded}
use Rattle.explored.proofs.load.Goals as goal

pub returns : goal.returns
returns c = monitor_loaded _ _ c.words_from.ensures c.words_from-2.ensures c.entry.ensures

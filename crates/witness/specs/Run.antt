-- The moves and the debts by what a rule says.
use Rattle.std.specs.Prelude.{ℕ, ◌+◌, List, length}
use Rattle.graphs.specs.Sets.{Nodes}
use Rattle.graphs.specs.Walk.{Edges}
use Rattle.ways.specs.declared.Ways.{Ways}
use Rattle.nearest.specs.Graph.{moves_of}
use Rattle.walk.specs.Debts.{debts_to}

abbrev pub moves_in : Ways → List ℕ → Edges
moves_in w next = moves_of next w.leave w.enter w.count

abbrev pub debts_in : Ways → List ℕ → List Nodes
debts_in w fair = debts_to fair w.count w.settled (length fair + w.parts)

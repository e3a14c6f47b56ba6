-- `turns::write_legs`: the way so far meets the first k debts (`Going`). From a live pair every debt is reached.
use Rattle.std.proofs.Common.{◌+◌, ◌-◌, ◌≤◌, length}
use Rattle.model.specs.Sets.{nodes_of}
use Rattle.nearest.specs.Graph.{moves_of}
use Rattle.walk.specs.Debts.{debts_to}
use Rattle.walk.specs.Legs.{Going}
use Rattle.walk.proofs.turns.write_legs.Given as goal

abbrev pub invariant-loop-k : goal.invariant-loop-k
invariant-loop-k l = (l.k ≤ length l.fair + l.parts) × Going (moves_of l.next l.leave l.enter l.count) (debts_to l.fair l.count l.settled l.k) (nodes_of l.live) l.q l.a l.initial.out l.out l.at l.k

abbrev pub decreases-loop-k : goal.decreases-loop-k
decreases-loop-k l = length l.fair + l.parts - l.k

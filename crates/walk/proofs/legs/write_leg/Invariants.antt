-- `legs::write_leg`: the way down to y is written, and the rank of y is what is left of it.
use Rattle.std.proofs.Common.{◌+◌, ◌≤◌, ◌<◌}
use mathlib.Core.Bool.{So}
use Rattle.model.specs.Sets.{nodes_of}
use Rattle.nearest.specs.Graph.{moves_of}
use Rattle.nearest.specs.Ranking.{rank_of}
use Rattle.walk.specs.Written.{Written}
use Rattle.walk.proofs.legs.write_leg.Given as goal

abbrev pub invariant-loop-y : goal.invariant-loop-y
invariant-loop-y l = (l.y < 4096) × So (nodes_of l.near.words l.y) × Written (moves_of l.next l.leave l.enter l.count) (nodes_of l.near.words) l.x l.y l.initial.out l.out l.at l.i × (l.i + rank_of l.near.ranks l.y ≤ l.at + rank_of l.near.ranks l.x)

abbrev pub decreases-loop-y : goal.decreases-loop-y
decreases-loop-y l = rank_of l.near.ranks l.y

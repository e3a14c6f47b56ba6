-- `knots::find_knot`: x leads to q. Where q leads to none that does not lead back it is the knot; else less is reached from where it leads.
use Rattle.words.specs.Below.{count_below}
use Rattle.graphs.specs.Walk.{Reach}
use Rattle.graphs.specs.Sweep.{goes}
use Rattle.model.specs.Sets.{nodes_of}
use Rattle.nearest.specs.Graph.{moves_of}
use Rattle.walk.proofs.knots.find_knot.Given as goal

abbrev pub invariant-loop-q : goal.invariant-loop-q
invariant-loop-q l = Reach (moves_of l.next l.leave l.enter l.count) (nodes_of l.live) l.x l.q

abbrev pub decreases-loop-q : goal.decreases-loop-q
decreases-loop-q l = count_below 4096 (goes 4096 (moves_of l.next l.leave l.enter l.count) (nodes_of l.live) l.q)

-- `movers::scan_moves`: `rest` is what of `within` has no move into the words passed. In the inner loop the states tried are still to be
-- dropped. Where none is left, all have a move.
use Rattle.std.proofs.Common.{◌+◌}
use Rattle.words.specs.Below.{union_below}
use Rattle.sweeps.specs.Sweeps.{via_at}
use Rattle.sweeps.specs.Scan.{Left}
use Rattle.sweeps.proofs.Tried.{TryingMembers}
use Rattle.sweeps.proofs.movers.scan_moves.Given as goal

abbrev pub invariant-loop-s : goal.invariant-loop-s
invariant-loop-s l = TryingMembers l.next l.target l.within (union_below (l.w + 1) (via_at l.next l.leave l.enter l.count l.set l.v)) l.rest l.s-iterator.0

abbrev pub invariant-scan : goal.invariant-scan
invariant-scan l = Left l.within (union_below l.w (via_at l.next l.leave l.enter l.count l.set l.v)) l.rest

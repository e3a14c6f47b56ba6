-- `nearest::lower`: none of the pairs passed is of low rank, so one is found before the end.
use Rattle.std.proofs.Common.{◌*◌, ◌≤◌}
use Rattle.nearest.specs.Scan.{NoneTo, NoneBut}
use Rattle.nearest.proofs.lower.Given as goal

abbrev pub invariant-loop-s : goal.invariant-loop-s
invariant-loop-s l = NoneBut l.set l.ranks l.limit l.w l.s-iterator.0

abbrev pub invariant-loop-w : goal.invariant-loop-w
invariant-loop-w l = (l.w ≤ 64) × NoneTo l.set l.ranks l.limit (l.w * 64)

-- `nearest::drop_all`: those of the rest are still to be dropped.
use Rattle.std.proofs.Common.{◌^◌, ◌<◌}
use Rattle.nearest.specs.Places.{Dropping}
use Rattle.nearest.proofs.drop_all.Given as goal

abbrev pub invariant-loop-v : goal.invariant-loop-v
invariant-loop-v l = (l.v-iterator.0 < 2 ^ 64) × Dropping l.initial.others l.joining l.v-iterator.0 l.others

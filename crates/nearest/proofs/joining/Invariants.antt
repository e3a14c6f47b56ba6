-- `nearest::joining`: the words of the rest are still to be worked out.
use Rattle.std.proofs.Common.{◌^◌, ◌<◌, get_or}
use Rattle.sweeps.specs.Sweeps.{movers_at}
use Rattle.nearest.specs.Places.{Filling}
use Rattle.nearest.proofs.joining.Given as goal

abbrev pub invariant-loop-v : goal.invariant-loop-v
invariant-loop-v l =
    (l.v-iterator.0 < 2 ^ 64) × (l.v-iterator.0 < 2 ^ l.count) × Filling l.count (λ u. movers_at l.next l.leave l.enter l.count l.front (get_or l.others u 0) u) l.v-iterator.0 l.some l.words

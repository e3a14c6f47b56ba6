-- `nearest::rank_all`: the words of the rest are still to be marked.
use Rattle.std.proofs.Common.{◌^◌, ◌<◌, ◌≡◌, length}
use Rattle.nearest.specs.Ranking.{Marked, passed}
use Rattle.nearest.proofs.rank_all.Given as goal

abbrev pub invariant-loop-v : goal.invariant-loop-v
invariant-loop-v l = (l.v-iterator.0 < 2 ^ 64) × (length l.ranks ≡ 4096) × Marked (passed l.v-iterator.0 l.joining) l.rank l.initial.ranks l.ranks

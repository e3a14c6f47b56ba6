-- `nearest::rank_word`: the pairs of the rest are still to get the rank.
use Rattle.std.proofs.Common.{◌^◌, ◌<◌, ◌≡◌, length}
use Rattle.nearest.specs.Ranking.{Marking}
use Rattle.nearest.proofs.rank_word.Given as goal

abbrev pub invariant-loop-s : goal.invariant-loop-s
invariant-loop-s l = (l.s-iterator.0 < 2 ^ 64) × (length l.initial.ranks ≡ 4096) × Marking l.v l.word l.s-iterator.0 l.rank l.initial.ranks l.ranks

-- `nearest::joining_at`: what is found, and what joins at the valuations left, is what joins. Where no state is beside those found, none does.
use Rattle.std.proofs.Common.{◌^◌, ◌<◌, ◌≡◌, bit_or}
use Rattle.pairs.specs.Post.{post_of}
use Rattle.sweeps.specs.Sweeps.{movers_at}
use Rattle.nearest.specs.Joining.{joins_by}
use Rattle.nearest.proofs.joining_at.Given as goal

abbrev pub invariant-loop-w : goal.invariant-loop-w
invariant-loop-w l = (l.w-iterator.0 < 2 ^ 64) × (l.found < 2 ^ 64) × (bit_or l.found (post_of (joins_by l.next l.leave l.enter l.count l.front l.others l.v) l.w-iterator.0) ≡ movers_at l.next l.leave l.enter l.count l.front l.others l.v)

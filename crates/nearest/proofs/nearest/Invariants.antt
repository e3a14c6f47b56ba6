-- `nearest::nearest`: each sweep gives its number as rank to what joins (`Sweeping`), and adds a pair or is the last.
use Rattle.std.proofs.Common.{◌-◌, ◌^◌, ◌<◌, ◌≡◌, length}
use Rattle.words.specs.Below.{count_below}
use Rattle.model.specs.Sets.{nodes_of}
use Rattle.sweeps.specs.Sweeps.{without_set}
use Rattle.nearest.specs.Joining.{held_of}
use Rattle.nearest.specs.Places.{OnlyAt}
use Rattle.nearest.specs.Search.{Sweeping}
use Rattle.nearest.proofs.nearest.Given as goal

abbrev pub invariant-loop-more : goal.invariant-loop-more
invariant-loop-more l =
    (length l.ranks ≡ 4096)
    × (l.held ≡ held_of l.count l.front)
    × (l.places < 2 ^ l.count)
    × OnlyAt l.count l.places l.others
    × Sweeping l.next l.leave l.enter l.count l.z l.goal l.others l.front l.ranks l.rank

abbrev pub decreases-loop-more : goal.decreases-loop-more
decreases-loop-more l =
    4096 - count_below 4096 (nodes_of (without_set l.z l.others))

-- `reach::reaching`: the set is on its way to the pairs that reach the goal; each sweep but the last adds one.
use Rattle.std.proofs.Common.{◌-◌}
use Rattle.pairs.specs.Sets.{Words}
use Rattle.sweeps.specs.Laws.{Sweeping, pairs_in}
use Rattle.sweeps.proofs.reach.reaching.Given as goal

abbrev pub invariant-loop-more : goal.invariant-loop-more
invariant-loop-more l = Words l.set.words × Sweeping l.next l.leave l.enter l.count l.within l.goal l.set.words

abbrev pub decreases-loop-more : goal.decreases-loop-more
decreases-loop-more l = 4096 - pairs_in l.set.words

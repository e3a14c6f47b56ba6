-- `checks::pairs_fit` meets its contract: the union of what is beyond. Assumes nothing.
use Rattle.std.proofs.Common.{le_antisymm}
use Rattle.checks.specs.Checks.{pairs_fit}
use Rattle.checks.proofs.pairs_fit.Goals as goal

pub returns : goal.returns
unfolding pairs_fit
returns c = cc (le_antisymm c.loop-v.invariant.0 c.loop-v-test.false)

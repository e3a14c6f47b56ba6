-- `checks::pairs_fit` meets its contract: the union of what is beyond. Assumes nothing.
use Rattle.std.proofs.Common.{◌≤◌, ◌≡◌}
use Rattle.words.specs.Below.{union_below}
use Rattle.checks.specs.Checks.{stray_at}
use Rattle.checks.proofs.pairs_fit.Given as goal

abbrev pub invariant-loop-v : goal.invariant-loop-v
invariant-loop-v l = (l.v ≤ 64) × (l.beyond ≡ union_below l.v (stray_at l.words l.states l.count))

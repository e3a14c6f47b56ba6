-- The proof of the cycle of calls {put_tree}. The measure is the number of nodes left. What each branch tells, a law of `Trees` says.
-- Assumes nothing.
use Rattle.std.proofs.Common.{◌-◌}
use Rattle.printer.proofs.+put_tree.Given as goal

abbrev pub decreases-put_tree : goal.decreases-put_tree
decreases-put_tree l = l.node

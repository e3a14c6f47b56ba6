use Rattle.std.proofs.Common.{length}
use Rattle.text_examples.proofs.kinds.each.Given as goal

abbrev pub decreases-loop-kind : goal.decreases-loop-kind
decreases-loop-kind g l = length l.rest

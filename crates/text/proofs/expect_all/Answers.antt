-- `text::expect_all`. A byte more.
use Rattle.std.proofs.Common.{arith, rules}
use Rattle.text.specs.After.{word_turn}
use Rattle.text.proofs.expect_all.Goals as goal

pub loop-b-preserved : goal.loop-b-preserved
loop-b-preserved c = (omega arith, word_turn _ _ _ _ _ _ (search rules) c.loop-b.invariant.1 c.expect-end.ensures.0, omega arith)

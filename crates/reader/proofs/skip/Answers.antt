-- `reader::skip` meets its contract. Assumes nothing.
use native.Mathlib.Omega.{arith}
use borrow.Author.Tests.{not-false}
use Rattle.syntax.specs.Bytes.{gap}
use Rattle.reader.proofs.Tokens.{passed}
use Rattle.std.proofs.lemmas.Grind.{common_steps}
use Rattle.reader.proofs.skip.Goals as goal

pub loop-at-preserved : goal.loop-at-preserved
loop-at-preserved c = grind (arith, common_steps, not-false, gap, passed)

-- `nexts_of`: `found` has the parts passed that are X.
use Prim.Native.Nat.{zero-le}
use native.Mathlib.Omega.{arith}
use Rattle.std.proofs.lemmas.Grind.{common_steps}
use Rattle.std.specs.Int.Bits.{or_zero_r}
use Rattle.words.specs.Unions.{word_none, word_more}
use Rattle.shape.proofs.nexts_of.Goals as goal

pub loop-k-init : goal.loop-k-init
loop-k-init c = (zero-le, word_none _)

pub loop-k-preserved : goal.loop-k-preserved
loop-k-preserved c = grind (arith, common_steps, word_more, or_zero_r)

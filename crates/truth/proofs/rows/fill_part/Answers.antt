-- `rows::fill_part`: the entries passed are filled in.
use mathlib.Core.Path.{refl}
use Prim.Native.Nat.{zero-le}
use native.Mathlib.Omega.{arith}
use Rattle.truth.specs.Columns.{column_filled}
use Rattle.truth.specs.Turns.{part_turn}
use Rattle.std.proofs.lemmas.Grind.{common_steps}
use Rattle.truth.proofs.rows.fill_part.Goals as goal

pub loop-v-init : goal.loop-v-init
unfolding column_filled
loop-v-init g c = (zero-le, refl)

pub loop-v-preserved : goal.loop-v-preserved
loop-v-preserved g c = grind (arith, common_steps, part_turn)

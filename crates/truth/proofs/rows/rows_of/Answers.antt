-- `rows::rows_of`: the columns passed are filled in, the others still 0.
use Rattle.std.proofs.Common.{arith, refl, zero-le, le_antisymm}
use Rattle.std.proofs.lemmas.Grind.{common_steps}
use Rattle.truth.specs.Columns.{columns_filled}
use Rattle.truth.specs.Turns.{rows_turn, rows_all}
use Rattle.truth.proofs.rows.rows_of.Goals as goal

pub loop-k-init : goal.loop-k-init
unfolding columns_filled
loop-k-init g c = (zero-le, refl)

pub loop-k-preserved : goal.loop-k-preserved
loop-k-preserved g c = grind (arith, common_steps, rows_turn)

pub returns : goal.returns
returns g c = rw (← rows_all) (cc (le_antisymm c.loop-k.invariant.0 c.loop-k-test.false))

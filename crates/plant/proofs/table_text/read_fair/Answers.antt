-- `plant::table_text::read_fair`. The loop has read the fairness sets below k.
use Rattle.std.proofs.Common.{refl, arith}
use native.Mathlib.Nat.{le_antisymm}
use Rattle.text.specs.Many.{slots_below}
use Rattle.text.specs.After.{cursor_after}
use Rattle.words.specs.Lists.{filled_none, filled_turn}
use Rattle.plant.specs.Lines.{fair_turn, fair_done}
use Rattle.plant.proofs.table_text.read_fair.Goals as goal

pub loop-k-init : goal.loop-k-init
unfolding slots_below cursor_after
loop-k-init c = (refl, filled_none 4 _, omega arith)

pub loop-k-preserved : goal.loop-k-preserved
loop-k-preserved c =
    let t = fair_turn _ _ _ _ _ _ c.loop-k.invariant.0 c.field-set.ensures in
    (t.1, filled_turn 4 _ _ _ _ c.loop-k.invariant.1 t.0, omega arith)

pub returns : goal.returns
returns c =
    rw (le_antisymm c.loop-k.auto.k-end c.loop-k-test.false) at (fair_done _ _ _ _ _ c.loop-k.invariant.0 c.loop-k.invariant.1 (omega arith))

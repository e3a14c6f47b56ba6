-- `plant::table_text::read_rows`. The loop has read the states below k.
use Rattle.std.proofs.Common.{ℕ, refl, ap, arith}
use native.Mathlib.Nat.{le_antisymm}
use Rattle.text.specs.Many.{slots_below}
use Rattle.text.specs.After.{cursor_after}
use Rattle.words.specs.Lists.{filled_none, filled_turn}
use Rattle.plant.specs.Lines.{row_turn, rows_done, label_room}
use Rattle.plant.proofs.table_text.read_rows.Goals as goal

pub loop-k-init : goal.loop-k-init
unfolding slots_below cursor_after
loop-k-init c = (refl, filled_none 64 _, filled_none 64 _, omega arith)

pub overflow_cast-label : goal.overflow_cast-label
overflow_cast-label c = omega (arith, label_room _ _ _ _ _ _ c.field-props.ensures.0 c.requires.2)

pub loop-k-preserved : goal.loop-k-preserved
loop-k-preserved c =
    let t = row_turn _ _ _ _ _ _ _ _ _ c.loop-k.invariant.0 c.field-props.ensures c.field-states.ensures in (
      t.1,
      filled_turn 64 _ _ _ _ c.loop-k.invariant.1 (ap (λ (q : ℕ × ℕ). q.0) t.0),
      filled_turn 64 _ _ _ _ c.loop-k.invariant.2 (ap (λ (q : ℕ × ℕ). q.1) t.0),
      omega arith,
    )

pub returns : goal.returns
returns c = rw (le_antisymm c.loop-k.auto.k-end c.loop-k-test.false) at (rows_done _ _ _ _ _ _ _ c.loop-k.invariant.0 c.loop-k.invariant.1 c.loop-k.invariant.2)

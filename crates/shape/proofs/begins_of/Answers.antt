-- `begins_of`: `at` is what the nodes passed make.
use mathlib.Core.Path.{refl}
use Prim.Native.Nat.{zero-le}
use native.Mathlib.Omega.{arith}
use Rattle.shape.specs.Shape.{begins_of}
use Rattle.shape.specs.Turns.{begins_turn}
use Rattle.shape.proofs.begins_of.Goals as goal

pub loop-i-init : goal.loop-i-init
unfolding begins_of
loop-i-init c = (zero-le, refl)

pub loop-i-preserved : goal.loop-i-preserved
loop-i-preserved c = (omega arith, begins_turn _ _ _ _ _ _ c.loop-i.invariant.1 c.op_at.ensures c.entry.ensures c.begin.ensures)

-- `order_of`: `order` is what the nodes passed make.
use mathlib.Core.Path.{refl}
use Prim.Native.Nat.{zero-le}
use native.Mathlib.Omega.{arith}
use Rattle.shape.specs.Shape.{order_of}
use Rattle.shape.specs.Turns.{order_turn}
use Rattle.std.proofs.lemmas.Grind.{common_steps}
use Rattle.shape.proofs.order_of.Goals as goal

pub loop-i-init : goal.loop-i-init
unfolding order_of
loop-i-init c = (zero-le, refl)

pub loop-i-preserved : goal.loop-i-preserved
loop-i-preserved c = grind (arith, common_steps, order_turn)

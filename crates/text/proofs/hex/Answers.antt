-- `text::hex`. The loop has read _i digits.
use Rattle.std.proofs.Common.{refl, arith}
use Rattle.text.specs.After.{cursor_after}
use Rattle.text.specs.Number.{hex_guess, hex_slots}
use Rattle.text.specs.Read.{hex_turn, hex_room}
use Rattle.text.proofs.hex.Goals as goal

pub loop-i-init : goal.loop-i-init
unfolding hex_guess hex_slots cursor_after
loop-i-init c = record { is = refl; slots = refl; small = omega arith; at = omega arith }

pub overflow_mul-value : goal.overflow_mul-value
overflow_mul-value c = record { fits = omega (arith, hex_room _ _ _ _ 15 _ c.loop-i.invariant (omega arith)) }

pub overflow_add-value : goal.overflow_add-value
overflow_add-value c = record { fits = omega (arith, hex_room _ _ _ _ 15 _ c.loop-i.invariant (omega arith)) }

pub loop-i-preserved : goal.loop-i-preserved
loop-i-preserved c = hex_turn _ _ _ _ _ _ _ c.loop-i.invariant.at c.loop-i.invariant c.digit-x.ensures

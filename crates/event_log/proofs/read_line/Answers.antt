-- `event_log::read_line`. The fields, one after the other.
use Rattle.std.proofs.Common.{arith}
use Rattle.text.specs.Read.{hex_room}
use Rattle.event_log.specs.Line.{lined}
use Rattle.event_log.proofs.read_line.Goals as goal

pub overflow_cast-event : goal.overflow_cast-event
overflow_cast-event c = omega (arith, hex_room _ _ _ _ 4 _ c.hex-see.ensures c.requires)

pub overflow_cast-event-2 : goal.overflow_cast-event-2
overflow_cast-event-2 c = omega (arith, hex_room _ _ _ _ 4 _ c.hex-val.ensures c.requires)

pub returns : goal.returns
returns c =
    lined _ _ _ _ _ _ _ _ _ _ _ _ _ _ c.read_lead-lead.ensures.0 c.expect_all-a.ensures c.hex-see.ensures c.expect_all-b.ensures c.hex-val.ensures c.expect_all-d.ensures c.count-new.ensures

-- `check_room`: 11, and then 24. Assumes nothing.
use Rattle.scraps.specs.Laws.{room_short, room_long, room_fits}
use Rattle.scraps.proofs.check_room.Goals as goal

pub returns-then-room-lines_in : goal.returns-then-room-lines_in
returns-then-room-lines_in c = room_short _ _ _ c.lines_in.ensures c.if-room-lines_in.true c.at.ensures

pub returns-then-taken-scrap : goal.returns-then-taken-scrap
returns-then-taken-scrap c = room_long _ _ _ c.lines_in.ensures c.if-room-lines_in.false c.requires c.if-taken-scrap.true c.at-then-taken-scrap.ensures

pub returns : goal.returns
returns c = room_fits _ _ _ c.lines_in.ensures c.if-room-lines_in.false c.requires c.if-taken-scrap.false

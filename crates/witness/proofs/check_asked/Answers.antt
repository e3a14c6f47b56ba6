-- `check_asked`: what a look at the monitor refuses, and then the room.
use Rattle.std.proofs.Common.{rules}
use Rattle.witness.proofs.Given.{not_looked, no_room, room_enough}
use Rattle.witness.proofs.check_asked.Goals as goal

pub returns-then-room-lt-ROOM : goal.returns-then-room-lt-ROOM
returns-then-room-lt-ROOM c =
    let a = c.args in
    no_room a.plant a.fair.now a.label.now a.next.now a.rule a.monitor c.look.ensures a.room c.in_ok-look.was
    c.if-room-lt-ROOM.true c.at.ensures

pub returns-in_err-look : goal.returns-in_err-look
returns-in_err-look c =
    let a = c.args in
    let refused =
    not_looked a.plant a.fair.now a.label.now a.next.now a.rule a.monitor c.look.ensures a.room c.in_err-look.was in
    search rules

pub returns : goal.returns
returns c =
    let a = c.args in
    room_enough a.plant a.fair.now a.label.now a.next.now a.rule a.monitor c.look.ensures a.room c.in_ok-look.was c.if-room-lt-ROOM.false

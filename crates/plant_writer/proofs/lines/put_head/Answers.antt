-- `plant_writer::lines::put_head` meets its contract: five pieces, one behind the other. Assumes nothing.
use Rattle.std.proofs.Common.{◌++◌}
use Rattle.text.specs.Slot.{word}
use Rattle.text.specs.Number.{hex_slots}
use Rattle.plant.specs.Text.{lf, start_key}
use Rattle.plant_writer.specs.Pieces.{keyed, puts_slots, props_line, states_line, start_line, just_line}
use Rattle.plant_writer.proofs.lines.put_head.Goals as goal

pub returns : goal.returns
returns c =
    let a = c.args in
    let p = a.plant in
    let two = puts_slots (props_line p.props) (states_line p.states) c.put_count_line-a.ensures c.put_count_line-b.ensures in
    let third = puts_slots (word start_key) (hex_slots 16 p.start ++ lf) (keyed start_key c.put_text-c.ensures) c.put_hex_end-d.ensures in
    let three = puts_slots (props_line p.props ++ states_line p.states) (start_line p.start) two third in
    puts_slots ((props_line p.props ++ states_line p.states) ++ start_line p.start) (just_line a.just) three c.put_count_line.ensures

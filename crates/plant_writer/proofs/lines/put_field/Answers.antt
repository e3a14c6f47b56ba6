-- `plant_writer::lines::put_field` meets its contract: the name and its number are the key, and behind it stands the number. Assumes nothing.
use Rattle.std.proofs.Common.{◌++◌}
use Rattle.text.specs.Slot.{word}
use Rattle.text.specs.Number.{hex_slots, count_slots}
use Rattle.plant.specs.Text.{lf, key_slots}
use Rattle.plant_writer.specs.Pieces.{keyed, puts_slots}
use Rattle.plant_writer.proofs.lines.put_field.Goals as goal

pub returns : goal.returns
returns c =
    let a = c.args in
    let key = puts_slots (word a.name.now) (count_slots 61 a.k) (keyed a.name.now c.put_text-named.ensures) c.put_count-keyed.ensures in
    puts_slots (key_slots a.name.now a.k) (hex_slots a.width a.n ++ lf) key c.put_hex_end.ensures

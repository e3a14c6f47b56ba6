-- `plant_writer::lines::put_row` meets its contract: one line behind the other. Assumes nothing.
use Rattle.plant.specs.Text.{label_name, next_name}
use Rattle.plant.specs.Written.{line}
use Rattle.plant_writer.specs.Pieces.{puts_slots}
use Rattle.plant_writer.proofs.lines.put_row.Goals as goal

pub returns : goal.returns
returns c =
    let a = c.args in
    puts_slots (line label_name a.k a.width a.label) (line next_name a.k 16 a.next) (rw c.from.ensures at c.put_field-behind.ensures) c.put_field.ensures

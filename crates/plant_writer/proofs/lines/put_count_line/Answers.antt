-- `plant_writer::lines::put_count_line` meets its contract: a key, and behind it the count. Assumes nothing.
use Rattle.text.specs.Slot.{word}
use Rattle.text.specs.Number.{count_slots}
use Rattle.plant_writer.specs.Pieces.{keyed, puts_slots}
use Rattle.plant_writer.proofs.lines.put_count_line.Goals as goal

pub returns : goal.returns
returns c =
    let key = c.args.key.now in
    puts_slots (word key) (count_slots 10 c.args.n) (keyed key c.put_text-behind.ensures) c.put_count.ensures

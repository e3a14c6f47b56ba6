-- `plant_writer::lines::put_hex_end` meets its contract: the digits, and LF behind them. Assumes nothing.
use Rattle.std.proofs.Common.{length}
use Rattle.text.specs.Slot.{written}
use Rattle.text.specs.Number.{hex_slots}
use Rattle.plant.specs.Text.{lf}
use Rattle.plant_writer.specs.Pieces.{puts_slots, hex_fits}
use Rattle.plant_writer.proofs.lines.put_hex_end.Goals as goal

pub put_hex-end-requires : goal.put_hex-end-requires
put_hex-end-requires c =
    hex_fits c.args.at (length c.args.buffer.now) c.args.width c.args.n lf c.requires

pub returns : goal.returns
unfolding written
returns c =
    puts_slots (hex_slots c.args.width c.args.n) lf c.put_hex-end.ensures c.put_byte.ensures

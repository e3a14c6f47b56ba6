-- `plant_writer::lines::put_hex` meets its contract: what falls is the width, and the digits of higher weight are put first. Assumes nothing.
use Rattle.std.proofs.Common.{arith, ◌-◌, ◌/◌}
use Rattle.text.specs.Number.{hex_slots}
use Rattle.text.specs.Hex.{hex_length}
use Rattle.plant_writer.specs.Pieces.{laid, no_digit, digit_more}
use Rattle.plant_writer.proofs.lines.+put_hex.Goals as goal

pub returns-then-width-eq0 : goal.returns-then-width-eq0
returns-then-width-eq0 t c = no_digit _ _ _ _ c.if-width-eq0.true c.requires

pub put_byte-requires : goal.put_byte-requires
put_byte-requires t c =
    let high = laid (hex_slots (c.args.width - 1) (c.args.n / 16)) c.put_hex-end.ensures in
    omega (arith, c.requires, high.0, high.1, hex_length (c.args.width - 1) (c.args.n / 16), c.if-width-eq0.false)

pub returns : goal.returns
returns t c = digit_more _ _ (omega arith) c.put_hex-end.ensures c.put_byte.ensures c.digit_byte.ensures

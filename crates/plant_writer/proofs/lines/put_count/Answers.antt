-- `plant_writer::lines::put_count` meets its contract: one digit or two, and the end. Assumes nothing.
use Rattle.std.proofs.Common.{arith}
use Rattle.plant_writer.specs.Pieces.{one_digit, two_digits}
use Rattle.plant_writer.proofs.lines.put_count.Goals as goal

-- a number below 10
pub returns-then-n-lt10 : goal.returns-then-n-lt10
returns-then-n-lt10 c =
    one_digit _ _ (omega (arith, c.if-n-lt10.true)) c.put_byte-ones.ensures c.put_byte.ensures

-- and one from 10 on
pub returns : goal.returns
returns c =
    two_digits _ _ (omega (arith, c.if-n-lt10.false)) c.requires.0 c.put_byte-tens.ensures c.put_byte-ones-2.ensures c.put_byte-2.ensures

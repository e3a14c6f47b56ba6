-- `lines::put_field`: a text and a number (`puts`). Assumes nothing.
use Rattle.std.proofs.Common.{arith}
use Rattle.writing.specs.Put.{puts}
use Rattle.day_writer.proofs.lines.put_field.Goals as goal

pub returns : goal.returns
returns c =
    record { text = puts c.put_text-behind.ensures c.put_number.ensures.text; bound = omega (arith, c.put_number.ensures.bound, c.put_text-behind.ensures.len) }

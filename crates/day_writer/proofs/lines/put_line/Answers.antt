-- `lines::put_line`: three texts, one behind the other (`puts`). Assumes nothing.
use Rattle.std.proofs.Common.{arith}
use Rattle.writing.specs.Put.{puts}
use Rattle.day_writer.proofs.lines.put_line.Goals as goal

pub returns : goal.returns
returns c =
    record { text = puts (puts c.put_field-a.ensures.text c.put_field-b.ensures.text) c.put_end.ensures.text; bound = omega (arith, c.put_end.ensures.bound, c.put_field-b.ensures.bound, c.put_field-a.ensures.bound) }

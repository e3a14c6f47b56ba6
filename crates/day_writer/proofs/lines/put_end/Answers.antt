-- `lines::put_end`: five texts, one behind the other (`puts`). Assumes nothing.
use Rattle.std.proofs.Common.{arith}
use Rattle.writing.specs.Put.{puts}
use Rattle.day_writer.proofs.lines.put_end.Goals as goal

pub returns : goal.returns
returns c =
    record { text = puts (puts (puts (puts c.put_text-a.ensures c.put_word-b.ensures.text) c.put_text-c.ensures) c.put_decided-d.ensures.text) c.put_text.ensures; bound = omega (arith, c.put_text.ensures.len, c.put_decided-d.ensures.bound, c.put_text-c.ensures.len, c.put_word-b.ensures.bound, c.put_text-a.ensures.len) }

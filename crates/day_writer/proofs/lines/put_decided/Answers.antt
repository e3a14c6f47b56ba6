-- `lines::put_decided`: a number of 32 bits, or a dash. Assumes nothing.
use Rattle.std.proofs.Common.{arith, lt-ltb, le-ltb}
use Rattle.day_writer.specs.Text.{decided_text}
use Rattle.day_writer.proofs.lines.put_decided.Goals as goal

pub returns-then-decided-lt-NONE : goal.returns-then-decided-lt-NONE
unfolding decided_text
returns-then-decided-lt-NONE c =
    record { text = rw (lt-ltb _ _ c.if-decided-lt-NONE.true) c.put_number.ensures.text; bound = c.put_number.ensures.bound }

pub returns : goal.returns
unfolding decided_text
returns c =
    record { text = rw (le-ltb _ _ c.if-decided-lt-NONE.false) c.put_text.ensures; bound = omega (arith, c.put_text.ensures.len) }

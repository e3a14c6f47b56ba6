-- `event_log::event_in`. The line behind those below it.
use Rattle.std.proofs.Common.{ℕ, ◌*◌, sym, ap, ◌∙◌, lt-ltb, le-ltb}
use Rattle.text.specs.Lines.{start_is}
use Rattle.text.specs.LinesRead.{line_or, lent_line}
use Rattle.event_log.specs.Line.{line_bytes}
use Rattle.event_log.specs.Read.{event_as}
use Rattle.event_log.proofs.event_in.Goals as goal

pub returns-then-line-text : goal.returns-then-line-text
unfolding event_as line_or
returns-then-line-text c =
    let a = c.args in
    let wide = c.bytes_of-bytes.ensures in
    rw (lt-ltb _ _ (rw wide at c.if-line-text.true)) (lent_line a.text.now _ _ _ _ (ap (λ (n : ℕ). a.line * n) wide ∙ sym (start_is (line_bytes a.numbered a.width) a.line)) c.read_line.ensures).is

pub returns-else-line-text : goal.returns-else-line-text
unfolding event_as line_or
returns-else-line-text c = rw (le-ltb _ _ (rw c.bytes_of-bytes.ensures at c.if-line-text.false))

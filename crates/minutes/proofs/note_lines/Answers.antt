-- `note_lines`: how the day went, with a refused event's line as the place. Assumes nothing.
use Rattle.std.proofs.Common.{arith}
use Rattle.minutes.proofs.Cases.{line_within, went_so}
use Rattle.minutes.proofs.note_lines.Goals as goal

pub overflow_mul-offset : goal.overflow_mul-offset
overflow_mul-offset c =
    record { fits = omega (arith, line_within c.args.opened c.args.log.now c.empty-day.ensures c.note_log-went.ensures c.line_bytes.ensures) }

pub returns : goal.returns
returns c =
    went_so c.args.opened c.args.log.now c.empty-day.ensures c.note_log-went.ensures c.line_bytes.ensures c.at_line.ensures

-- `follow_log`: the course of the log, and the verdicts for which there is room. Assumes nothing.
use Rattle.std.proofs.Common.{rules, arith}
use Rattle.controller.proofs.Cases.{line_within, ends_so}
use Rattle.controller.proofs.follow_log.Goals as goal

pub overflow_mul-offset : goal.overflow_mul-offset
overflow_mul-offset c =
    record { fits = omega (arith, line_within c.args.opened c.args.log.now c.follow-went.ensures c.line_bytes.ensures) }

pub returns : goal.returns
returns c = search (rules, ends_so)

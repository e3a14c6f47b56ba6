-- `good_of`: as far as the reader of logs says. Assumes nothing.
use Rattle.radio.specs.Laws.{good_whole, good_part, good_none}
use Rattle.radio.proofs.line.good_of.Goals as goal

pub returns-in-Ok : goal.returns-in-Ok
returns-in-Ok c =
    good_whole _ _ c.requires.0 c.requires.1 _ c.byte_at-numbered.ensures c.may_be.ensures c.read_log.ensures c.if-may_be.true c.in-Ok.is

pub returns-in-Err : goal.returns-in-Err
returns-in-Err c =
    good_part _ _ c.requires.0 c.requires.1 _ c.byte_at-numbered.ensures c.may_be.ensures c.read_log.ensures c.if-may_be.true c.in-Err.is

pub returns : goal.returns
returns c =
    good_none _ _ c.requires.0 c.requires.1 _ c.byte_at-numbered.ensures c.may_be.ensures c.if-may_be.false

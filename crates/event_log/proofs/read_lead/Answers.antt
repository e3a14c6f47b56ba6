-- `event_log::read_lead`. A number with its key and a space, or nothing.
use Rattle.std.proofs.Common.{arith}
use Rattle.event_log.specs.Lead.{number_took, none_took}
use Rattle.event_log.proofs.read_lead.Goals as goal

pub returns-then-numbered : goal.returns-then-numbered
returns-then-numbered c =
    let t = number_took _ _ _ _ _ c.expect_all-a.ensures c.hex-given.ensures c.expect.ensures in
    rw c.if-numbered.true (t, omega (arith, c.expect_all-a.ensures.1, c.hex-given.ensures.at, c.expect.ensures.1))

pub returns : goal.returns
returns c = rw c.if-numbered.false (none_took _, omega arith)

-- `sent::check_report`: the claim, and then the lengths.
use Rattle.neighbour.proofs.Runs.{bad_claim, long_run, good_report}
use Rattle.neighbour.proofs.sent.check_report.Goals as goal

pub returns-then-claim-gt-OUT_OF_MODEL : goal.returns-then-claim-gt-OUT_OF_MODEL
returns-then-claim-gt-OUT_OF_MODEL c = let a = c.args in bad_claim a.claim a.keeping a.breaking c.if-claim-gt-OUT_OF_MODEL.true c.at.ensures

pub returns-then-too_long : goal.returns-then-too_long
returns-then-too_long c = let a = c.args in long_run a.claim a.keeping a.breaking c.if-claim-gt-OUT_OF_MODEL.false c.too_long.ensures c.if-too_long.true c.at-then-too_long.ensures

pub returns : goal.returns
returns c = let a = c.args in good_report a.claim a.keeping a.breaking c.if-claim-gt-OUT_OF_MODEL.false c.too_long.ensures c.if-too_long.false

-- `ShownRun::of`: by whether it is too long.
use Rattle.neighbour.proofs.Runs.{long_by, short_by}
use Rattle.neighbour.proofs.sent.ShownRun.of.Goals as goal

pub returns-then-is_long : goal.returns-then-is_long
returns-then-is_long c = long_by c.args.stem.now c.args.turn.now c.is_long.ensures c.if-is_long.true

pub returns : goal.returns
returns c = short_by c.args.stem.now c.args.turn.now c.is_long.ensures c.if-is_long.false c.joined.ensures

-- `words::count`: the machine's count of ones counts the members.
use Rattle.words.proofs.Unions.{ones_count}
use Rattle.words.proofs.count.Goals as goal

pub returns : goal.returns
returns c = ones_count 64 c.args.x c.ranges.x.fits

-- `sent::joined`: two texts, one behind the other.
use Rattle.neighbour.proofs.Runs.{joined_by}
use Rattle.neighbour.proofs.sent.joined.Goals as goal

pub returns : goal.returns
returns c = joined_by c.put_text-first.ensures c.put_text-len.ensures

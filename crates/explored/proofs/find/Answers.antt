-- `find`: the first row that stands for the state.
use Rattle.std.proofs.Common.{rules}
use Rattle.joined.proofs.Ranges.{first_found_by}
use Rattle.explored.specs.States.{same_block}
use Rattle.explored.proofs.find.Goals as goal

pub returns : goal.returns
returns c = first_found_by _ _ _ _ (same_block c.args.room.now c.args.state.now) c.find.ensures.ran (λ k b q call. search rules) c.unwrap_or.ensures

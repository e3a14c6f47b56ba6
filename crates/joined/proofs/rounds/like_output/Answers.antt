-- `rounds::like_output`: the first row with the output of r.
use Rattle.std.proofs.Common.{rules}
use Rattle.joined.proofs.Ranges.{first_found_by}
use Rattle.joined.specs.Table.{by_output}
use Rattle.machines.specs.Leader.{lead}
use Rattle.joined.proofs.rounds.like_output.Goals as goal

pub returns : goal.returns
unfolding lead
returns c = first_found_by _ _ _ _ (λ s. by_output c.args.outputs.now s c.args.r) c.find.ensures.ran (λ k b q call. search rules) c.unwrap_or.ensures

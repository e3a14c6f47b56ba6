-- `rounds::leader`: the first row that leads on to r.
use Rattle.std.proofs.Common.{rules}
use Rattle.joined.proofs.Ranges.{first_found_by}
use Rattle.joined.specs.Table.{leads_on}
use Rattle.joined.proofs.rounds.leader.Goals as goal

pub returns : goal.returns
returns c = first_found_by _ _ _ _ (λ s. leads_on c.args.cells.now c.args.class.now c.args.fresh.now c.args.c s c.args.r) c.find.ensures.ran (λ k b q call. search rules) c.unwrap_or.ensures

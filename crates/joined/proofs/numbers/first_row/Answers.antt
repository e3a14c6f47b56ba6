-- `numbers::first_row`: the first row that becomes row j.
use Rattle.std.proofs.Common.{rules, eqb, get_or}
use Rattle.joined.proofs.Ranges.{first_found_by}
use Rattle.joined.proofs.numbers.first_row.Goals as goal

pub returns : goal.returns
returns c = first_found_by _ _ _ _ (λ r. eqb (get_or c.args.class.now r 0) c.args.j) c.find.ensures.ran (λ k b q call. search rules) c.unwrap_or.ensures

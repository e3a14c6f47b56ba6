-- `at_end`: the claim and the lengths, and then the runs.
use Rattle.opened.specs.Opened.{fair_in, label_in, next_in}
use Rattle.neighbour.proofs.Cases.{refused_by_lem, judged_by}
use Rattle.std.proofs.Common.{arith}
use Rattle.std.proofs.lemmas.Grind.{common_steps}
use Rattle.neighbour.proofs.at_end.Goals as goal

pub returns-in-Err : goal.returns-in-Err
returns-in-Err c = grind (arith, common_steps, fair_in, label_in, next_in, refused_by_lem)

pub returns-in-Ok : goal.returns-in-Ok
returns-in-Ok c = grind (arith, common_steps, fair_in, label_in, next_in, judged_by)

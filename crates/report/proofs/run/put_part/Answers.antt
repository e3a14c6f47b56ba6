-- `report::run::put_part` meets its contract: the key, and the states behind it (`puts`).
-- Assumes nothing.
use Rattle.std.proofs.Common.{rules}
use Rattle.report.proofs.Puts.{puts}
use Rattle.report.proofs.run.put_part.Goals as goal

pub returns : goal.returns
returns c = search (rules, puts)

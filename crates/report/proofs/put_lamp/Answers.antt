-- `report::put_lamp` meets its contract: five texts, each behind the one before it (`puts`).
-- Assumes nothing.
use Rattle.std.proofs.Common.{rules}
use Rattle.report.proofs.Puts.{puts}
use Rattle.report.proofs.put_lamp.Goals as goal

pub returns : goal.returns
returns c = search (rules, puts)

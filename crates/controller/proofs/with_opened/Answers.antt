-- `with_opened`: the log and the buffer, and then its lines. Assumes nothing.
use Rattle.std.proofs.Common.{rules}
use Rattle.controller.proofs.Cases.{log_fits, heard_by_lem, heard_so}
use Rattle.controller.proofs.with_opened.Goals as goal

pub returns-in-Ok : goal.returns-in-Ok
returns-in-Ok c = search (rules, log_fits, heard_by_lem, heard_so)

-- `put_went`: the lines, and a refusal behind them. Assumes nothing.
use Rattle.std.proofs.Common.{rules}
use Rattle.transcript.proofs.Cases.{went_stopped}
use Rattle.transcript.proofs.play.put_went.Goals as goal

pub returns-in-Err : goal.returns-in-Err
returns-in-Err c = search (rules, went_stopped)

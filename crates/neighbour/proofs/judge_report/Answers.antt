-- `judge_report`: the runs put together, and then the rest.
use Rattle.neighbour.proofs.Runs.{sized_by}
use Rattle.neighbour.proofs.judge_report.Goals as goal

pub judge_runs-requires : goal.judge_runs-requires
judge_runs-requires c = let a = c.args in sized_by a.keep_stem.now a.keep_loop.now a.break_stem.now a.break_loop.now c.of-keeping.ensures c.of-breaking.ensures

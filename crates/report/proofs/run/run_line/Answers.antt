-- `report::run::run_line` meets its contract: four texts, one behind the other (`puts`).
-- Assumes nothing.
use Rattle.report.proofs.Puts.{puts, behind}
use Rattle.report.proofs.run.run_line.Goals as goal

pub returns-clause-text : goal.returns-clause-text
returns-clause-text c =
    let loop = rw (behind c.args.stem c.args.states.now) at c.put_part-c.ensures.text in
    puts (puts (puts c.put_kind-a.ensures.text c.put_part-b.ensures.text) loop) c.put_text.ensures

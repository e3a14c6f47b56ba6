-- `report::no_run_line` meets its contract: three texts (`puts`), and they fit (`line`).
-- Assumes nothing.
use Rattle.report.specs.Text.{no_run_text}
use Rattle.report.proofs.Puts.{puts, line}
use Rattle.report.proofs.no_run_line.Goals as goal

pub returns : goal.returns
returns c =
    let (text, room) =
    line {r = c.put_refusal.result} {text = no_run_text c.args.keeps c.args.refusal} (puts (puts c.put_kind-len.ensures.text c.put-a.ensures) c.put_refusal.ensures.text) in
    record { text = text; room = room }

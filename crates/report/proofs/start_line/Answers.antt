-- `report::start_line` meets its contract: two texts (`puts`), and they fit (`line`).
-- Assumes nothing.
use Rattle.report.specs.Text.{start_text}
use Rattle.report.proofs.Puts.{puts, line}
use Rattle.report.proofs.start_line.Goals as goal

pub returns : goal.returns
returns c =
    let (text, room) = line {r = c.put_lamp.result} {text = start_text c.args.lamp} (puts c.put-a.ensures c.put_lamp.ensures.text) in
    record { text = text; room = room }

-- `report::lamp_line` meets its contract: three texts (`puts`), and they fit (`line`).
-- Assumes nothing.
use Rattle.report.specs.Text.{lamp_text}
use Rattle.report.proofs.Puts.{puts, line}
use Rattle.report.proofs.lamp_line.Goals as goal

pub returns : goal.returns
returns c =
    let (text, room) = line {r = c.put_lamp.result} {text = lamp_text c.args.n c.args.lamp} (puts (puts c.put-a.ensures c.put_number-b.ensures.text) c.put_lamp.ensures.text) in
    record { text = text; room = room }

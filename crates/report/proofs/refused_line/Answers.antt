-- `report::refused_line` meets its contract: one text, and it fits (`line`).
-- Assumes nothing.
use Rattle.report.specs.Text.{refused_text}
use Rattle.report.proofs.Puts.{line}
use Rattle.report.proofs.refused_line.Goals as goal

pub returns : goal.returns
returns c =
    let (text, room) = line {r = c.put_refusal.result} {text = refused_text c.args.refusal} c.put_refusal.ensures.text in
    record { text = text; room = room }

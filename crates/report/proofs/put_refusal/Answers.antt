-- `report::put_refusal` meets its contract: five texts (`puts`).
-- Assumes nothing.
use Rattle.report.proofs.Puts.{puts}
use Rattle.report.proofs.put_refusal.Goals as goal

pub returns : goal.returns
returns c =
    let number = rw (c.from.ensures, c.number.ensures) at c.put_number-b.ensures.text in
    record { text = puts (puts (puts (puts c.put-a.ensures number) c.put-c.ensures) c.put_number-d.ensures.text) c.put.ensures }

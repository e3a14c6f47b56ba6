-- `plant_writer::write_table` meets its contract: what the check of the table answers decides, and then whether the text fits. Assumes nothing.
use Rattle.std.proofs.Common.{sym, ◌∙◌, arith, rules}
use Rattle.writing.specs.Put.{put_start_lem, put_over}
use Rattle.plant_writer.specs.Writing.{writable, fitting}
use Rattle.plant_writer.proofs.write_table.Goals as goal

pub put_table-bytes-requires : goal.put_table-bytes-requires
put_table-bytes-requires c =
    let a = c.args in
    writable a.plant a.fair.now a.label.now a.next.now (sym c.check_table.ensures ∙ c.in_ok-check_table.was) _ (search rules)

pub returns : goal.returns
returns c =
    let a = c.args in
    let p = c.put_table-bytes.ensures in
    let (long, laid) = put_over (rw (put_start_lem p) at c.put_text.ensures) in
    let f = fitting a.plant a.fair.now a.label.now a.next.now a.buffer.now (sym c.check_table.ensures ∙ c.in_ok-check_table.was) (omega (arith, c.if-buffer-bytes.false, (put_over p).0)) _ _ (put_over p).0 laid in
    record { answer = f.0; buffer = f.1 }

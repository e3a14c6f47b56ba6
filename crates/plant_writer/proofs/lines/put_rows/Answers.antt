-- `plant_writer::lines::put_rows` meets its contract: the loop has put the lines of the states below k. Assumes nothing.
use Rattle.std.proofs.Common.{arith, length, rules}
use Rattle.plant_writer.specs.Pieces.{row_lines, no_line, line_more, line_fits}
use Rattle.plant_writer.proofs.lines.put_rows.Goals as goal

pub loop-k-init : goal.loop-k-init
loop-k-init c =
    let a = c.args in
    no_line (row_lines a.width a.label.now a.next.now) _ _ (omega (arith, c.requires.2))

pub put_row-end-requires : goal.put_row-end-requires
put_row-end-requires c =
    let a = c.args in (
      omega arith,
      line_fits (row_lines a.width a.label.now a.next.now) c.loop-k.k (length a.label.now) (search rules) c.loop-k.invariant c.requires.2,
    )

pub loop-k-preserved : goal.loop-k-preserved
loop-k-preserved c =
    let a = c.args in
    line_more (row_lines a.width a.label.now a.next.now) c.loop-k.k c.loop-k.invariant c.put_row-end.ensures

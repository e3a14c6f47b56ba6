-- `plant_writer::lines::put_fair` meets its contract: the loop has put the lines below k. Assumes nothing.
use Rattle.std.proofs.Common.{zero-le, length, arith, rules}
use Rattle.plant_writer.specs.Pieces.{fair_line, no_line, line_more, line_fits}
use Rattle.plant_writer.proofs.lines.put_fair.Goals as goal

pub loop-k-init : goal.loop-k-init
loop-k-init c = (zero-le, no_line (fair_line c.args.fair.now) _ _ (omega (arith, c.requires.1)))

pub put_field-end-requires : goal.put_field-end-requires
put_field-end-requires c =
    let fair = c.args.fair.now in
    (omega arith, line_fits (fair_line fair) c.loop-k.k (length fair) (search rules) c.loop-k.invariant.1 c.requires.1)

pub loop-k-preserved : goal.loop-k-preserved
loop-k-preserved c = (omega arith, line_more (fair_line c.args.fair.now) c.loop-k.k c.loop-k.invariant.1 c.put_field-end.ensures)

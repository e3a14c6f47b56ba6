-- `numbers::joined_cell`: a cell of the first row that becomes row j, as a joined row.
use Rattle.std.proofs.Common.{◌∙◌, arith}
use Rattle.joined.specs.Join.{first_inside, cell_read}
use Rattle.joined.proofs.numbers.joined_cell.Goals as goal

pub start-requires : goal.start-requires
start-requires c =
    let pre = c.requires in
    let inside = first_inside pre.5 _ _ pre.3 c.first_row.ensures.0 in
    (omega arith, pre.1)

pub returns : goal.returns
returns c =
    let pre = c.requires in
    rw (c.entry.ensures, c.start.ensures.0) at c.entry-2.ensures
    ∙ cell_read pre.5 pre.4 _ _ _ pre.3 pre.2 c.first_row.ensures.0

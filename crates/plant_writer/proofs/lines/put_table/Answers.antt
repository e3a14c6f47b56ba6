-- `plant_writer::lines::put_table` meets its contract: head, fairness sets and states, one behind the other. Assumes nothing.
use Rattle.std.proofs.Common.{◌++◌, sym, ◌∙◌, arith}
use Rattle.plant_writer.specs.Pieces.{puts_slots, rest_fits, head_of, fair_of, rows_of}
use Rattle.plant_writer.proofs.Pieces.{all_fit, put_whole}
use Rattle.plant_writer.proofs.lines.put_table.Goals as goal

pub put_rows-requires : goal.put_rows-requires
put_rows-requires c =
    let a = c.args in
    let w = c.requires in
    let head = head_of a.plant a.fair.now a.label.now a.next.now in
    let fair = fair_of a.plant a.fair.now a.label.now a.next.now in
    let rows = rows_of a.plant a.fair.now a.label.now a.next.now in
    let first = puts_slots head fair c.put_head-head.ensures c.put_fair-sets.ensures in (
      omega (arith, w.states, w.labels),
      w.nexts ∙ sym w.labels,
      rw c.width_of.ensures.0 (rest_fits (head ++ fair) rows first (all_fit a.plant a.fair.now a.label.now a.next.now w)),
    )

pub returns : goal.returns
returns c =
    let a = c.args in
    let head = head_of a.plant a.fair.now a.label.now a.next.now in
    let fair = fair_of a.plant a.fair.now a.label.now a.next.now in
    let rows = rows_of a.plant a.fair.now a.label.now a.next.now in
    let first = puts_slots head fair c.put_head-head.ensures c.put_fair-sets.ensures in
    put_whole a.plant a.fair.now a.label.now a.next.now c.requires (puts_slots (head ++ fair) rows first (rw c.width_of.ensures.0 at c.put_rows.ensures))

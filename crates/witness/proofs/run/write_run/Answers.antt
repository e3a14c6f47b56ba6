-- `write_run`: by what its calls ensure, one after the other.
use Rattle.std.proofs.Common.{refl, rules}
use Rattle.ways.specs.Ways.{few_part_ways, few_ways}
use Rattle.checks.proofs.Given.{accepted, ready}
use Rattle.live.proofs.Given.{in_order}
use Rattle.witness.proofs.Given.{found_live, long, goes_on, none_live, begins, goes}
use Rattle.witness.proofs.run.write_run.Goals as goal

pub ways_of-ways-requires : goal.ways_of-ways-requires
ways_of-ways-requires c =
    let a = c.args in
    ready (accepted a.plant a.fair.now a.label.now a.next.now a.rule (search rules) refl c.requires.0)

pub lasting-live-requires : goal.lasting-live-requires
lasting-live-requires c =
    let a = c.args in
    let i = accepted a.plant a.fair.now a.label.now a.next.now a.rule (search rules) refl c.requires.0 in
    let ok = in_order a.plant a.fair.now a.label.now a.next.now a.rule i in
    (ok.1, rw c.ways_of-ways.ensures (few_part_ways (ready i)), ok.2)

pub returns-then-is_empty : goal.returns-then-is_empty
returns-then-is_empty c =
    let a = c.args in
    let i = accepted a.plant a.fair.now a.label.now a.next.now a.rule (search rules) refl c.requires.0 in
    let is = found_live i c.ways_of-ways.ensures c.lasting-live.ensures in
    none_live i is a.asked.now a.buffer.now c.meet-both.ensures c.is_empty.ensures c.if-is_empty.true c.at.ensures

pub write_walk-lengths-requires : goal.write_walk-lengths-requires
write_walk-lengths-requires c =
    let a = c.args in
    let i = accepted a.plant a.fair.now a.label.now a.next.now a.rule (search rules) refl c.requires.0 in
    let is = found_live i c.ways_of-ways.ensures c.lasting-live.ensures in
    record {
      count_bound = (rw c.ways_of-ways.ensures (few_ways (ready i)), rw c.ways_of-ways.ensures (few_part_ways (ready i)), i.table.few_fair, long i is, c.requires.1);
      fair = rw c.ways_of-ways.ensures (goes_on i is);
      held = begins i is a.asked.now a.buffer.now c.meet-both.ensures c.is_empty.ensures c.if-is_empty.false;
    }

pub returns : goal.returns
returns c =
    let a = c.args in
    let i = accepted a.plant a.fair.now a.label.now a.next.now a.rule (search rules) refl c.requires.0 in
    let is = found_live i c.ways_of-ways.ensures c.lasting-live.ensures in
    goes i is a.asked.now a.buffer.now c.meet-both.ensures c.is_empty.ensures c.if-is_empty.false (rw c.ways_of-ways.ensures at c.write_walk-lengths.ensures)

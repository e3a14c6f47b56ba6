-- `work_on`: what the rule says, worked out once, and the opening.
use Rattle.ways.specs.Ways.{few_ways}
use Rattle.columns.specs.Columns.{few_columns}
use Rattle.fixed_machine.specs.Worked.{worked_on}
use Rattle.fixed_machine.proofs.work_on.Goals as goal

pub work_in-requires : goal.work_in-requires
work_in-requires c = (
  (c.requires.0.labels, rw c.ways_of-ways.ensures (few_ways c.requires.0)),
  rw c.count.ensures (few_columns c.args.plant.props).0,
  rw c.count.ensures (few_columns c.args.plant.props).1,
  c.requires.1,
)

pub returns : goal.returns
returns c =
    let a = c.args in
    record {
      made = worked_on a.plant.start a.plant.props a.label.now a.next.now a.rule _ c.ways_of-ways.ensures c.opened-first.ensures c.count.ensures c.work_in.ensures.made;
      words = c.work_in.ensures.words;
    }

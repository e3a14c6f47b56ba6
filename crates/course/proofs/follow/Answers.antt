-- `follow`: by what the rule says, worked out once. Assumes nothing.
use Rattle.std.proofs.Common.{rules}
use Rattle.ways.specs.Ways.{few_ways}
use Rattle.course.proofs.CourseRight.{fitting_ready, followed}
use Rattle.course.proofs.follow.Goals as goal

pub ways_of-ways-requires : goal.ways_of-ways-requires
ways_of-ways-requires c =
    let a = c.args in
    fitting_ready a.plant a.fair.now a.label.now a.next.now a.rule (search rules) c.requires

pub turns-requires : goal.turns-requires
turns-requires c =
    let a = c.args in
    let ok = fitting_ready a.plant a.fair.now a.label.now a.next.now a.rule (search rules) c.requires in
    (ok.labels, rw c.ways_of-ways.ensures (few_ways ok))

pub returns : goal.returns
returns c =
    let a = c.args in
    followed a.plant a.fair.now a.label.now a.next.now a.rule (search rules) c.requires
    c.ways_of-ways.ensures a.text.now c.turns.ensures

-- `live_pairs`: by what its calls ensure, one after the other.
use Rattle.ways.specs.Ways.{few_part_ways}
use Rattle.live.specs.LiveRight.{live_is}
use Rattle.live.proofs.live_pairs.Goals as goal

pub lasting-requires : goal.lasting-requires
lasting-requires c =
    let given = c.before.requires in
    (given.1, rw c.ways_of-ways.ensures (few_part_ways given.0), given.2)

pub returns : goal.returns
returns c =
    let a = c.before.args in
    live_is a.states a.fair.now a.label.now a.next.now a.rule c.ways_of-ways.ensures c.lasting.ensures

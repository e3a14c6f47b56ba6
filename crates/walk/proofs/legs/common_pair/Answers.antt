-- `legs::common_pair`: by the law of what two sets have in common (`meet_nodes`).
use Rattle.nearest.specs.Graph.{nodes_below}
use Rattle.walk.specs.Ways.{meet_nodes}
use Rattle.walk.proofs.legs.common_pair.Goals as goal

pub some_pair-requires : goal.some_pair-requires
some_pair-requires c =
    let start = c.before in
    let a = start.args in
    let (y, h) = start.requires.1 in
    let both = (meet_nodes a.some.now a.others.now start.requires.0 y).1 h in
    (y, record { small = nodes_below a.others.now start.requires.0 y h.1; held = rw c.meet-both.ensures both })

pub returns : goal.returns
returns c =
    let start = c.before in
    let a = start.args in
    let s = c.some_pair.ensures in
    let (held, other) = (meet_nodes a.some.now a.others.now start.requires.0 _).0 (rw c.meet-both.ensures at s.held) in
    (record { small = s.small; held = held }, other)

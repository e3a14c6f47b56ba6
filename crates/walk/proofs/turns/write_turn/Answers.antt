-- `turns::write_turn`: from the knot by way of each debt; from there a move leads on (`turn_on`), and all leads back (`turn_end`).
use Rattle.std.proofs.Common.{length-set, arith}
use Rattle.nearest.specs.Graph.{nodes_below, move_of_lem}
use Rattle.walk.specs.Ways.{nearest_slope, open_some, some_open}
use Rattle.walk.specs.Legs.{going_in, near_low, turn_on, turn_end}
use Rattle.walk.proofs.turns.write_turn.Goals as goal

pub onward-ways-requires : goal.onward-ways-requires
onward-ways-requires c =
    let p = c.requires in
    (p.count_bound.0, nodes_below c.args.live.now p.count_bound.3 _ (going_in c.write_legs-legs.ensures))

pub some_pair-y-requires : goal.some_pair-y-requires
some_pair-y-requires c =
    let p = c.requires in
    let small = nodes_below c.args.live.now p.count_bound.3 in
    let (y, m, i) = turn_on p.fair p.home c.write_legs-legs.ensures in
    let low = (move_of_lem _ _ _ _ _ y m).from_low in
    (y, open_some _ _ _ _ p.count_bound.0 _ _ low c.onward-ways.ensures (small y (p.home.near.ranked.inside y i)) m i)

pub write_leg-requires : goal.write_leg-requires
write_leg-requires c =
    let p = c.requires in
    let small = nodes_below c.args.live.now p.count_bound.3 in
    let h = p.home in
    let g = c.write_legs-legs.ensures in
    let (y, m, _) = turn_on p.fair h g in
    let low = (move_of_lem _ _ _ _ _ y m).from_low in
    let s = some_open _ _ _ _ p.count_bound.0 _ _ low c.onward-ways.ensures c.some_pair-y.ensures in
    record {
      count_bound = (p.count_bound.0, c.some_pair-y.ensures.small, simp length-set (omega (arith, near_low h.near _ s.1, g.short, g.written.size, p.count_bound)));
      slope = nearest_slope small h.near;
      inside = s.1;
    }

pub returns : goal.returns
returns c =
    let p = c.requires in
    let h = p.home in
    let g = c.write_legs-legs.ensures in
    let (y, m, _) = turn_on p.fair h g in
    let low = (move_of_lem _ _ _ _ _ y m).from_low in
    let s = some_open _ _ _ _ p.count_bound.0 _ _ low c.onward-ways.ensures c.some_pair-y.ensures in
    turn_end g (omega (arith, p.count_bound)) s.0 s.1 (omega (arith, g.short, g.written.size, p.count_bound)) h.near c.write_leg.ensures

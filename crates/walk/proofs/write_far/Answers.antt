-- `write_far`: the stem is laid over the buffer, and the loop over its tail, which is one `over`.
use Rattle.std.proofs.Common.{length-take, length-drop, arith}
use Rattle.nearest.specs.Graph.{nodes_below}
use Rattle.walk.specs.Ways.{nearest_slope}
use Rattle.walk.specs.Knots.{knotted_in, knotted_there}
use Rattle.walk.specs.Legs.{near_low, walked_far}
use Rattle.walk.specs.Written.{states, written_count, written_over}
use Rattle.words.specs.Over.{over_lent}
use Rattle.walk.proofs.write_far.Goals as goal

pub write_leg-stem-requires : goal.write_leg-stem-requires
write_leg-stem-requires c =
    let p = c.requires in
    let small = nodes_below c.args.live.now p.count_bound.3 in
    let h = c.find_knot-knot.ensures in
    let i = knotted_in h in
    record {
      count_bound = (p.count_bound.0, small _ p.inside, omega (arith, near_low h.near _ i, p.count_bound.4));
      slope = nearest_slope small h.near;
      inside = i;
    }

pub write_turn-turn-requires : goal.write_turn-turn-requires
write_turn-turn-requires c =
    let p = c.requires in
    let h = c.find_knot-knot.ensures in
    let e = c.write_leg-stem.ensures in
    record {
      count_bound = (p.count_bound.0, p.count_bound.1, p.count_bound.2, p.count_bound.3, simp (length-take, length-drop) (omega (arith, near_low h.near _ (knotted_in h), e.short, e.written.size, p.count_bound.4)));
      fair = p.fair;
      home = knotted_there h;
    }

pub returns : goal.returns
returns c =
    let h = c.find_knot-knot.ensures in
    let e = c.write_leg-stem.ensures in
    let t = c.write_turn-turn.ensures in
    walked_far h e t (over_lent _ (states e.written.nodes) _ _ _ _ (written_count e.written) (written_over e.written) t.bytes)

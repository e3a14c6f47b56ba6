-- `legs::write_way`: x is of the goal, or the ranks lead there.
use Rattle.std.proofs.Common.{sym, ◌∙◌, arith}
use Rattle.graphs.specs.Close.{closure_iff}
use Rattle.nearest.specs.Graph.{nodes_below}
use Rattle.walk.specs.Ways.{nearest_slope}
use Rattle.walk.specs.Legs.{near_low, way_here, way_led}
use Rattle.walk.proofs.legs.write_way.Goals as goal

pub returns-then-has : goal.returns-then-has
returns-then-has c = way_here _ _ c.requires.inside (sym c.has.ensures ∙ c.if-has.true)

pub write_leg-requires : goal.write_leg-requires
write_leg-requires c =
    let p = c.requires in
    let n = c.nearest-near.ensures in
    let i = (closure_iff n.closure _).1 p.reaches in
    record {
      count_bound = (p.count_bound.0, p.count_bound.1, omega (arith, near_low n _ i, p.count_bound.3));
      slope = nearest_slope (nodes_below c.args.live.now p.count_bound.2) n;
      inside = i;
    }

pub returns : goal.returns
returns c =
    let n = c.nearest-near.ensures in
    way_led n ((closure_iff n.closure _).1 c.requires.reaches) c.write_leg.ensures

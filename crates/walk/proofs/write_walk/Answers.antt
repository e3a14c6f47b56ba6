-- `write_walk`: x leads to a pair at which it can stay (`walked_rest`), or the walk goes on to where all leads back.
use Rattle.std.proofs.Common.{sym, ◌∙◌, arith}
use Rattle.nearest.specs.Graph.{nodes_below}
use Rattle.walk.specs.Ways.{nearest_slope}
use Rattle.walk.specs.Legs.{near_low, walked_rest}
use Rattle.walk.proofs.write_walk.Goals as goal

pub write_rest-requires : goal.write_rest-requires
write_rest-requires c =
    let p = c.requires in
    let n = c.ways_to_rest-near.ensures.near in
    let i = sym c.has.ensures ∙ c.if-has.true in
    record {
      count_bound = (p.count_bound.0, c.common_pair-x.ensures.0.small, omega (arith, near_low n _ i, p.count_bound.4));
      slope = nearest_slope (nodes_below c.args.live.now p.count_bound.3) n;
      inside = i;
    }

pub returns-then-has : goal.returns-then-has
returns-then-has c =
    let h = c.ways_to_rest-near.ensures in
    let i = sym c.has.ensures ∙ c.if-has.true in
    walked_rest _ c.common_pair-x.ensures.0.held h i c.write_rest.ensures

-- `legs::downhill`: the ranks fall along some move (`Slope`), so the scan has a pair to find.
use Rattle.walk.specs.Ways.{slope_lower, lower_downhill}
use Rattle.walk.proofs.legs.downhill.Goals as goal

pub lower-requires : goal.lower-requires
lower-requires c =
    let p = c.requires in
    slope_lower _ _ _ _ p.count_bound.0 _ _ p.slope _ p.above.0 p.above.1 c.onward-ways.ensures

pub returns : goal.returns
returns c =
    let p = c.requires in
    lower_downhill _ _ _ _ p.count_bound.0 _ _ p.slope _ p.above.0 p.above.1 c.onward-ways.ensures c.lower.ensures

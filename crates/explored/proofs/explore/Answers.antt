-- `explore`: row 0 stands for the opening.
use Rattle.std.proofs.Common.{◌≤◌, arith, length}
use Rattle.explored.specs.States.{opens_in}
use Rattle.explored.proofs.explore.Goals as goal

pub returns : goal.returns
returns c =
    let long : 33280 ≤ length c.args.room.now = omega (arith, c.requires.3) in
    opens_in c.args.first c.args.room.now _ long c.block_of-state.ensures c.store.ensures c.fill.ensures

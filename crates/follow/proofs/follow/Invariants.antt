-- While more is listened to, the log gets longer, up to the most that one may have.
use Rattle.std.proofs.Common.{◌-◌, ◌≤◌}
use Rattle.scraps.specs.Calls.{longest}
use Rattle.follow.specs.AtOnce.{bytes_heard}
use Rattle.follow.proofs.follow.Given as goal

abbrev pub invariant-loop-behind : goal.invariant-loop-behind
invariant-loop-behind g l = bytes_heard l.now ≤ longest

abbrev pub decreases-loop-behind : goal.decreases-loop-behind
decreases-loop-behind g l = longest - bytes_heard l.now

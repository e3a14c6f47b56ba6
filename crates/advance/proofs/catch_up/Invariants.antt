-- `catch_up`: as many moves as turns were gone. Assumes nothing.
use Rattle.std.proofs.Common.{◌≤◌, ◌≡◌}
use Rattle.labels.specs.Labels.{agreeing_of}
use Rattle.sides.specs.Sides.{caught_up_by}
use Rattle.advance.proofs.catch_up.Given as goal

abbrev pub invariant-loop-k : goal.invariant-loop-k
invariant-loop-k l = (l.k ≤ l.missing) × (l.agree ≡ agreeing_of l.label 0 0) × (l.now ≡ caught_up_by l.label l.next l.leave l.enter l.count l.live l.initial.now l.k)

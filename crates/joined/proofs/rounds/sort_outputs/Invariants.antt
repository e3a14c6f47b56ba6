-- `rounds::sort_outputs`: the rows passed have the first row of their output.
use Rattle.std.proofs.Common.{◌≡◌}
use Rattle.machines.specs.Leader.{lead}
use Rattle.joined.specs.Written.{written}
use Rattle.joined.specs.Table.{by_output}
use Rattle.joined.proofs.rounds.sort_outputs.Given as goal

abbrev pub invariant-loop-r : goal.invariant-loop-r
invariant-loop-r l = l.class ≡ written l.r (lead (by_output l.outputs)) l.initial.class

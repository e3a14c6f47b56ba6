-- `rounds::refine`: the rows passed have their leaders, which are found among those found before.
use Rattle.std.proofs.Common.{◌≡◌}
use Rattle.machines.specs.Leader.{lead}
use Rattle.joined.specs.Written.{written}
use Rattle.joined.specs.Table.{finer}
use Rattle.joined.proofs.rounds.refine.Given as goal

abbrev pub invariant-loop-r : goal.invariant-loop-r
invariant-loop-r l = l.fresh ≡ written l.r (lead (finer l.cells l.class l.c)) l.initial.fresh

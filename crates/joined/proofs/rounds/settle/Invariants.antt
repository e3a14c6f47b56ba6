-- `rounds::settle`: the lists hold the leaders of some number of rounds; each round but the last makes one more.
use Rattle.std.proofs.Common.{◌-◌, ◌≡◌, length}
use Rattle.joined.specs.Table.{leaders_in}
use Rattle.joined.specs.Settle.{Settling}
use Rattle.joined.proofs.rounds.settle.Given as goal

abbrev pub invariant-loop-class : goal.invariant-loop-class
invariant-loop-class l = (length l.class ≡ length l.initial.class) × (length l.fresh ≡ length l.initial.fresh) × Settling l.outputs l.cells l.n l.c l.initial.class l.initial.fresh l.class l.fresh

abbrev pub decreases-loop-class : goal.decreases-loop-class
decreases-loop-class l = l.n - leaders_in l.n l.class

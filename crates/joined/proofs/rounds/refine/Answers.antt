-- `rounds::refine`: a row's leader is found among those found before.
use Rattle.std.proofs.Common.{◌∙◌, arith}
use Rattle.joined.specs.Written.{written_turn}
use Rattle.joined.specs.Finer.{finer_turn}
use Rattle.joined.proofs.rounds.refine.Goals as goal

pub loop-r-preserved : goal.loop-r-preserved
loop-r-preserved c =
    let inv = c.loop-r.invariant in
    written_turn _ _ _ _ _ inv (c.leader.ensures.0 ∙ finer_turn _ _ _ _ _ _ (omega arith) inv)

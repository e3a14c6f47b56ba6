-- `check_run`: by the first test that fails; what it means is `checked_means`.
use Rattle.node_value.specs.Turns.{passed, failed}
use Rattle.shown.specs.Checked.{moves_loop, found_start, found_moves, found_fairness, found_agreement, found_value, found_correct}
use Rattle.shown.proofs.Right.{checked_means}
use Rattle.std.proofs.Common.{arith}
use Rattle.std.proofs.lemmas.Grind.{common_steps}
use Rattle.shown.proofs.check_run.Goals as goal

pub returns-then-not-starts : goal.returns-then-not-starts
returns-then-not-starts c = grind (arith, common_steps, failed, found_start, checked_means)

pub returns-then-not-moves : goal.returns-then-not-moves
returns-then-not-moves c = grind (arith, common_steps, passed, failed, found_moves, checked_means)

pub returns-then-not-is_fair : goal.returns-then-not-is_fair
returns-then-not-is_fair c = grind (arith, common_steps, passed, failed, found_fairness, checked_means)

pub agree-requires : goal.agree-requires
agree-requires c = grind (arith, common_steps, passed, moves_loop)

pub returns-then-not-agree : goal.returns-then-not-agree
returns-then-not-agree c = grind (arith, common_steps, passed, failed, found_agreement, checked_means)

pub holds_on_run-requires : goal.holds_on_run-requires
holds_on_run-requires c = grind (arith, common_steps, passed, moves_loop)

pub returns-then-not-kept : goal.returns-then-not-kept
returns-then-not-kept c = grind (arith, common_steps, passed, failed, found_value, checked_means)

pub returns : goal.returns
returns c = grind (arith, common_steps, passed, found_correct, checked_means)

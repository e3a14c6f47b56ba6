-- `moves`: a loop, and each move.
use Rattle.std.proofs.Common.{rules, tests, ◌∙◌, length, lt-ltb, le-ltb, arith, refl}
use Rattle.std.proofs.lemmas.Iterator.{YieldsList-from_range}
use Rattle.std.proofs.lemmas.Iterator.Search.{all_from_yields_List}
use Rattle.shown.specs.Tests.{move_at, moves_of}
use Rattle.shown.proofs.Chains.{all_range}
use Rattle.shown.proofs.moves.Goals as goal

pub returns-then-stem-run : goal.returns-then-stem-run
unfolding moves_of
returns-then-stem-run c =
    rw (lt-ltb _ _ c.if-stem-run.true)
    (all_from_yields_List (move_at c.args.next.now c.args.states c.args.run.now c.args.stem) _ _ _ c.all.ensures.ran (YieldsList-from_range 0 (length c.args.run.now) (length c.args.run.now) refl (omega arith)) (λ x b q k. search (rules, tests))
    ∙ all_range (length c.args.run.now) (move_at c.args.next.now c.args.states c.args.run.now c.args.stem))

pub returns-else-stem-run : goal.returns-else-stem-run
unfolding moves_of
returns-else-stem-run c = rw (le-ltb _ _ c.if-stem-run.false) refl

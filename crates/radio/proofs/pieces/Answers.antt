-- `pieces`: piece after piece as the definition goes (`Going`). Assumes nothing.
use Rattle.std.proofs.Common.{ℕ, ◌-◌, ◌≡◌, List, arith, length, take, drop, length-drop, take_all}
use Rattle.radio.proofs.Turning.{starts, at_within, at_more, line_small, goes_on}
use Rattle.radio.proofs.pieces.Goals as goal

-- the rest of a scrap as a call is lent it
lent : (scrap : List ℕ) (at : ℕ) → take (length scrap - at) (drop at scrap) ≡ drop at scrap
lent scrap at = take_all (length scrap - at) (drop at scrap) (omega (arith, length-drop at scrap))

pub loop-at-init : goal.loop-at-init
loop-at-init c = starts _ _ _ _ _ _ c.requires.2 c.requires.3

pub overflow_add-at : goal.overflow_add-at
overflow_add-at c =
    record { fits = omega (arith, at_within _ _ _ _ _ _ c.loop-at.invariant c.loop-at-test.true (lent c.args.scrap.now c.loop-at.at) c.piece-read.ensures, c.requires.2.low) }

pub end_line-turned-requires : goal.end_line-turned-requires
end_line-turned-requires c =
    let small = line_small _ _ _ _ _ _ c.loop-at.invariant c.loop-at-test.true (lent c.args.scrap.now c.loop-at.at) c.piece-read.ensures in
    (c.requires.0, c.requires.1, small.0, omega (arith, small.1), small.2)

pub loop-at-smaller : goal.loop-at-smaller
loop-at-smaller c =
    omega (arith, at_more _ _ _ _ _ _ c.loop-at.invariant c.loop-at-test.true (lent c.args.scrap.now c.loop-at.at) c.piece-read.ensures, c.loop-at-test.true)

pub loop-at-preserved : goal.loop-at-preserved
loop-at-preserved c =
    goes_on _ _ _ _ _ _ c.loop-at.invariant c.loop-at-test.true (lent c.args.scrap.now c.loop-at.at) c.piece-read.ensures c.end_line-turned.ensures c.note-done.ensures.count c.note-done.ensures.verdicts

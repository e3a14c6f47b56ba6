-- `check_kept`: 1, 2, 9, and then what stands. Assumes nothing.
use Rattle.std.proofs.Common.{rules}
use Rattle.scraps.specs.Laws.{kept_held, kept_stands, kept_not}
use Rattle.scraps.proofs.check_kept.Goals as goal

pub returns-then-part_fits : goal.returns-then-part_fits
returns-then-part_fits c =
    let a = c.args in
    kept_stands a.plant a.fair.now a.label.now a.next.now a.rule a.live a.radio c.check_held.ensures c.part_fits.ensures c.in_ok-check_held.was c.if-part_fits.true

pub returns-in_err-check_held : goal.returns-in_err-check_held
returns-in_err-check_held c =
    let a = c.args in
    let refused =
    kept_held a.plant a.fair.now a.label.now a.next.now a.rule a.live a.radio c.check_held.ensures c.in_err-check_held.was in
    search rules

pub returns-else-part_fits : goal.returns-else-part_fits
returns-else-part_fits c =
    let a = c.args in
    kept_not a.plant a.fair.now a.label.now a.next.now a.rule a.live a.radio c.check_held.ensures c.part_fits.ensures c.in_ok-check_held.was c.if-part_fits.false c.at.ensures

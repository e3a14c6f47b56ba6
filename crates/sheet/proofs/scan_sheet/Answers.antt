-- `sheet::scan_sheet` meets its contract: a turn's step is the machine's (`turn`), and behind the last byte the text may end or not. Assumes nothing.
use Rattle.std.specs.Prelude.{Ok, Err}
use Rattle.std.proofs.Common.{length, ◌+◌, cond, ◌≡◌, sym, ap, ◌∙◌, arith, drop, get_or}
use Rattle.sheet.specs.Machine.{scan_from, begin}
use Rattle.sheet.specs.Promises.{looked, not_looked}
use Rattle.sheet.proofs.Turn.{at_end_lem, small, turn}
use Rattle.sheet.proofs.scan_sheet.Goals as goal
use Rattle.sheet.proofs.scan_sheet.Goals.{After-is_stuck, After-may_end}

-- after a turn's step, the machine answers by whether it is stuck
stepped : (c : goal.After-is_stuck) →
    let l = c.loop-at in
    let s = c.args.text.now in
    cond c.is_stuck.result (Err l.at) (scan_from c.file-lines.result c.step-state.result (l.at + 1) (drop (l.at + 1) s)) ≡ begin s
stepped c =
    let l = c.loop-at in
    let s = c.args.text.now in
    rw (c.is_stuck.ensures, c.file-lines.ensures)
    (sym (turn l.lines l.state c.step-state.result l.at s c.loop-at-test.true c.step-state.ensures) ∙ l.invariant.1)

-- after the loop, it answers by whether the text may end
ended : (c : goal.After-may_end) →
    cond c.may_end.result (Ok c.loop-at.lines) (Err (length c.args.text.now)) ≡ begin c.args.text.now
unfolding scan_from
ended c =
    let l = c.loop-at in
    let s = c.args.text.now in
    let e : l.at ≡ length s = omega (arith, l.auto.at-end, c.loop-at-test.false) in
    rw c.may_end.ensures (rw e at (sym (ap (scan_from l.lines l.state l.at) (at_end_lem s l.at l.auto.at-end c.loop-at-test.false)) ∙ l.invariant.1))

pub returns-then-text-gt-SHEET : goal.returns-then-text-gt-SHEET
returns-then-text-gt-SHEET c = sym (not_looked _ c.if-text-gt-SHEET.true)

pub returns-then-is_stuck : goal.returns-then-is_stuck
returns-then-is_stuck c =
    rw c.if-is_stuck.true at (stepped (goal.at.returns-then-is_stuck c).After-is_stuck) ∙ sym (looked _ c.if-text-gt-SHEET.false)

pub loop-at-preserved : goal.loop-at-preserved
loop-at-preserved c =
    let l = c.loop-at in
    let b = get_or c.args.text.now l.at 0 in
    (rw c.step-state.ensures (small l.state b l.at l.invariant.0), rw c.if-is_stuck.false at (stepped (goal.at.loop-at-preserved c).After-is_stuck))

pub returns-then-may_end : goal.returns-then-may_end
returns-then-may_end c = rw c.if-may_end.true at (ended (goal.at.returns-then-may_end c).After-may_end) ∙ sym (looked _ c.if-text-gt-SHEET.false)

pub returns-else-may_end : goal.returns-else-may_end
returns-else-may_end c = rw c.if-may_end.false at (ended (goal.at.returns-else-may_end c).After-may_end) ∙ sym (looked _ c.if-text-gt-SHEET.false)

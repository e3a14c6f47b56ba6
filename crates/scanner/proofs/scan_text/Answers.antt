-- `scanner::scan_text` meets its contract. The loop's invariant: from here on, in the state reached, the scanner answers what it answers from the start;
-- and no more parentheses are open than bytes are read. Assumes nothing.
use Rattle.std.specs.Prelude.{Ok, Err}
use Rattle.std.proofs.Common.{ℕ, [], ◌+◌, ◌≡◌, refl, sym, ap, ◌∙◌, cond, arith, length, drop}
use Rattle.syntax.specs.Scan.{move, moved, scan_from, scan}
use Rattle.syntax.proofs.Places.{at_end_lem}
use Rattle.scanner.proofs.Turn.{shallow, turn}
use Rattle.scanner.proofs.scan_text.Goals as goal
use Rattle.scanner.proofs.scan_text.Goals.{After-is_dead, After-may_end}

-- after a turn's step, the scanner answers by whether it is stuck
stepped : (c : goal.After-is_dead) →
    let l = c.loop-at in
    let s = c.args.text.now in
    cond c.is_dead.result (Err l.at) (scan_from c.state_after-state.result (l.at + 1) (drop (l.at + 1) s)) ≡ scan s
stepped c =
    let l = c.loop-at in
    let s = c.args.text.now in
    let e = c.state_after-state.ensures ∙ ap (moved l.state.depth) (c.move_of.ensures ∙ ap (move l.state.mode) c.sign_of.ensures) in
    ap (λ b. cond b (Err l.at) (scan_from c.state_after-state.result (l.at + 1) (drop (l.at + 1) s))) c.is_dead.ensures
    ∙ sym (turn l.state c.state_after-state.result l.at s c.loop-at-test.true e) ∙ l.invariant.2

-- after the loop, it answers by whether the text may end
ended : (c : goal.After-may_end) → cond c.may_end.result (Ok tt) (Err (length c.args.text.now)) ≡ scan c.args.text.now
unfolding scan_from
ended c =
    let l = c.loop-at in
    let e : length c.args.text.now ≡ l.at = omega (arith, l.invariant.0, c.loop-at-test.false) in
    ap (λ b. cond b (Ok tt) (Err (length c.args.text.now))) c.may_end.ensures ∙ ap (λ (k : ℕ). scan_from l.state k []) e
    ∙ sym (ap (scan_from l.state l.at) (at_end_lem _ l.at l.invariant.0 c.loop-at-test.false)) ∙ l.invariant.2

pub loop-at-init : goal.loop-at-init
unfolding scan
loop-at-init c = (omega arith, omega arith, refl)

pub returns-then-is_dead : goal.returns-then-is_dead
returns-then-is_dead c = rw c.if-is_dead.true at (stepped (goal.at.returns-then-is_dead c).After-is_dead)

pub loop-at-preserved : goal.loop-at-preserved
loop-at-preserved c =
    let l = c.loop-at in
    let d = rw (sym c.state_after-state.ensures) at (shallow l.state.depth c.move_of.result) in
    (omega (arith, c.loop-at-test.true), omega (arith, l.invariant.1), rw c.if-is_dead.false at (stepped (goal.at.loop-at-preserved c).After-is_dead))

pub returns-then-may_end : goal.returns-then-may_end
returns-then-may_end c = rw c.if-may_end.true at (ended (goal.at.returns-then-may_end c).After-may_end)

pub returns-else-may_end : goal.returns-else-may_end
returns-else-may_end c = rw c.if-may_end.false at (ended (goal.at.returns-else-may_end c).After-may_end)

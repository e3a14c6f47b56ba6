-- `stretch::look_back`: from the last line back to where the stretch begins (`Looked`). Assumes nothing.
use Rattle.std.proofs.Common.{arith, refl, ap, ℕ, ◌/◌, ◌-◌, ◌&&◌, ◌≡◌, length, ltb}
use Rattle.std.proofs.lemmas.Grind.{common_steps}
use Rattle.text.specs.Number.{width_of}
use Rattle.event_log.specs.declared.Event.{Event}
use Rattle.event_log.specs.Read.{event_at}
use Rattle.last_stretch.specs.Stretch.{begins, back_from}
use Rattle.last_stretch.proofs.Turns.{starts, goes_back, ends_restart, ends_first, going_on, found, found_counted}
use Rattle.last_stretch.proofs.look_back.Goals.{else-loop-line-test, then-loop-line-test+then-not-back}
use Rattle.last_stretch.proofs.look_back.Goals as goal

pub loop-line-init : goal.loop-line-init
loop-line-init c =
    let a = c.args in
    (ap (λ (n : ℕ). length a.log.now / n) c.line_bytes.ensures, starts _ _ _ _ c.behind_last-back.ensures, rw c.behind_last-back.ensures refl)

pub loop-line-preserved : goal.loop-line-preserved
loop-line-preserved c =
    let inv = c.loop-line.invariant in (
      inv.0,
      goes_back _ _ _ _ inv.1 (going_on inv.2 c.loop-line-test.true) (omega (arith, c.loop-line-test.true)) c.event_at.ensures c.further-back.ensures,
      c.if-not-back.false,
    )

pub returns : goal.returns
returns c =
    let a = c.args in
    let inv = c.loop-line.invariant in
    let event : ℕ → Event = event_at (width_of a.props) a.log.now in
    let n : ℕ = length a.log.now / c.line_bytes.result in
    let used : ℕ = c.props_of-used.result in
    let is : c.loop-line-test.back ≡ back_from a.rule used event (n - begins event n) (begins event n) = elim c.loop-line-test.branch [
      | else-loop-line-test w ↦ rw w.back-is (ends_first _ _ _ _ inv.1 (omega (arith, w.loop-line-test.false)))
      | then-loop-line-test+then-not-back w ↦
          rw w.back-is
          (ends_restart _ _ _ _
          (goes_back _ _ _ _ inv.1 (going_on inv.2 w.loop-line-test.true) (omega (arith, w.loop-line-test.true)) w.event_at.ensures w.further-back.ensures)
          w.if-not-back.true)
    ] in
    let ready : c.if-lines-gt0.result ≡ (ltb 0 n && c.loop-line-test.back.all) = grind (arith, common_steps) in
    found_counted a.rule event inv.0 (found a.rule event n c.props_of-used.ensures is ready c.has.ensures)

-- `report_text::list`: from each place on the list ends where it does from its start.
use Rattle.std.proofs.Common.{ℕ, ◌≡◌, ◌∙◌, sym, ap, false, not, List, drop}
use borrow.Author.Tests.{not-true, not-false}
use Rattle.report_text.specs.declared.Cursor.{Cursor}
use Rattle.report_text.specs.Form.{list_end, list_to, list_of}
use Rattle.report_text.proofs.Turn.{list_on, list_stop, list_done}
use Rattle.std.proofs.Common.{arith}
use Rattle.std.proofs.lemmas.Grind.{common_steps}
use Rattle.report_text.proofs.list.Goals as goal

started : (s : List ℕ) (c : Cursor) → not c.ok ≡ false → list_to c false c.at (drop c.at s) ≡ list_of s c
unfolding list_of
started s c h = simp (not-false c.ok h)

pub returns-then-not-c : goal.returns-then-not-c
unfolding list_of
returns-then-not-c c = simp (not-true c.args.c.ok c.if-not-c.true)

pub returns-then-not-goes_on : goal.returns-then-not-goes_on
returns-then-not-goes_on c = grind (arith, common_steps, not-true, list_stop, started)

pub loop-at-preserved : goal.loop-at-preserved
loop-at-preserved c = grind (arith, common_steps, not-false, list_on)

pub returns : goal.returns
returns c =
    let l = c.loop-at in
    let e : l.at ≡ c.max.result = omega (arith, l.auto.at, l.invariant.0, c.loop-at-test.false, c.max.ensures) in
    c.list_end-2.ensures ∙ ap (list_end c.args.c l.inside) (sym e) ∙ list_done _ l.inside l.at _ c.loop-at-test.false ∙ l.invariant.1 ∙ started _ _ c.if-not-c.false

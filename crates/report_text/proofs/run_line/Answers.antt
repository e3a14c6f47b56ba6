-- `report_text::run_line`: by the byte behind the kind.
use Rattle.std.proofs.Common.{ap, ◌∙◌, eq-eqb, ne_eqb}
use Rattle.report_text.specs.Form.{missing}
use Rattle.report_text.proofs.Whole.{line_is}
use Rattle.report_text.proofs.run_line.Goals as goal

pub returns-then-byte_at-eq114 : goal.returns-then-byte_at-eq114
returns-then-byte_at-eq114 c =
    c.without.ensures ∙ ap missing c.word.ensures
    ∙ line_is _ _ _ _ _ _ c.word-behind.ensures c.byte_at.ensures (eq-eqb _ _ c.if-byte_at-eq114.true)

pub returns : goal.returns
returns c =
    c.shown_run.ensures ∙ line_is _ _ _ _ _ _ c.word-behind.ensures c.byte_at.ensures (ne_eqb _ _ c.if-byte_at-eq114.false)

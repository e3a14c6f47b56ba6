-- `report_text::run`: by the first byte of the kind.
use Rattle.std.proofs.Common.{◌∙◌, eq-eqb, ne_eqb}
use Rattle.report_text.proofs.Whole.{run_is}
use Rattle.report_text.proofs.run.Goals as goal

pub returns-then-byte_at : goal.returns-then-byte_at
returns-then-byte_at c =
    c.run_line.ensures ∙ run_is _ _ _ _ _ _ c.byte_at.ensures c.byte_at-2.ensures (eq-eqb _ _ c.if-byte_at.true)

pub returns : goal.returns
returns c =
    c.without.ensures ∙ run_is _ _ _ _ _ _ c.byte_at.ensures c.byte_at-2.ensures (ne_eqb _ _ c.if-byte_at.false)

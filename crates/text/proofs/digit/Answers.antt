-- `text::digit`. The guess at a digit fits exactly if the byte is one.
use Rattle.std.proofs.Common.{◌∙◌, arith}
use Rattle.text.specs.Read.{digit_yes, digit_no}
use Rattle.text.proofs.digit.Goals as goal

pub returns-then-v-lt16 : goal.returns-then-v-lt16
returns-then-v-lt16 c = digit_yes _ _ _ _ (c.from.ensures ∙ c.digit_at-v.ensures) (omega (arith, c.from.ensures)) c.step.ensures

pub returns : goal.returns
returns c = digit_no _ _ _ _ c.digit_at-v.ensures c.if-v-lt16.false c.step-2.ensures

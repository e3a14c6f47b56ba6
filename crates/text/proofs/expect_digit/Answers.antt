-- `text::expect_digit`. One slot.
use Rattle.std.proofs.Common.{◌∙◌}
use Rattle.text.specs.Read.{digit_met}
use Rattle.text.proofs.expect_digit.Goals as goal

pub returns : goal.returns
returns c = digit_met _ _ _ _ _ c.requires.0 (c.from.ensures ∙ c.digit_at.ensures) c.step.ensures

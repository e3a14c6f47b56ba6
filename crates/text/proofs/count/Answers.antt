-- `text::count`. The guess, and its slots.
use Rattle.text.specs.Read.{count_is}
use Rattle.text.proofs.count.Goals as goal

pub returns : goal.returns
returns c =
    count_is _ _ _ _ _ _ _ _ _ c.requires c.digit_at.ensures c.digit_at-2.ensures c.count_of-value.ensures
    c.expect_count.ensures

-- `behind::caught_up`: nothing where nothing is missing, and else by what the rule says. Assumes nothing.
use Rattle.ways.specs.Ways.{few_ways}
use Rattle.day_sheet.specs.Code.{sheet_none}
use Rattle.day_sheet.proofs.behind.caught_up.Goals as goal

pub returns-then-gap-eq0 : goal.returns-then-gap-eq0
returns-then-gap-eq0 c = rw c.if-gap-eq0.true (sheet_none _ _ _ _ _ _ _)

pub unseen-requires : goal.unseen-requires
unseen-requires c =
    let pre = c.requires in
    (pre.0.labels, rw c.ways_of-ways.ensures (few_ways pre.0), pre.1)

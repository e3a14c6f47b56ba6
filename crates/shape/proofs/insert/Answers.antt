-- `insert`: the nodes from `at` on are moved by one, where there is room.
use Rattle.std.proofs.Common.{rules}
use Rattle.shape.proofs.Inserted.{inserted_within, inserted_beyond}
use Rattle.shape.proofs.insert.Goals as goal

pub returns-then-at-lt6 : goal.returns-then-at-lt6
returns-then-at-lt6 c = let by = c.copy_within.ensures.by_index in inserted_within _ _ _ _ (search rules) by.0 by.1 c.if-at-lt6.true

pub returns-else-at-lt6 : goal.returns-else-at-lt6
returns-else-at-lt6 c = inserted_beyond _ _ _ (search rules) c.if-at-lt6.false

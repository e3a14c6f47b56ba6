-- The proof of the cycle of calls of the reader's levels. The measure: 8 for each byte left, and the level's height: 0 for a leaf, and 1 more for each looser level.
-- A call goes to a tighter level at the same place, or to any level further on. What each member did, a law of `Levels` says for its shape.
-- Assumes nothing.
use Prim.Native.Nat.{◌+◌, ◌-◌, ◌*◌}
use lib.ListN.{length}
use Rattle.reader.proofs.+more_and_more_or_read_and_read_arrow_read_leaf_read_or_read_prefix_read_until.Given as goal

abbrev pub decreases-more_and : goal.decreases-more_and
decreases-more_and l = 8 * (length l.text.now - l.draft.at) + 0

abbrev pub decreases-more_or : goal.decreases-more_or
decreases-more_or l = 8 * (length l.text.now - l.draft.at) + 0

abbrev pub decreases-read_and : goal.decreases-read_and
decreases-read_and l = 8 * (length l.text.now - l.draft.at) + 3

abbrev pub decreases-read_arrow : goal.decreases-read_arrow
decreases-read_arrow l = 8 * (length l.text.now - l.draft.at) + 5

abbrev pub decreases-read_leaf : goal.decreases-read_leaf
decreases-read_leaf l = 8 * (length l.text.now - l.draft.at) + 0

abbrev pub decreases-read_or : goal.decreases-read_or
decreases-read_or l = 8 * (length l.text.now - l.draft.at) + 4

abbrev pub decreases-read_prefix : goal.decreases-read_prefix
decreases-read_prefix l = 8 * (length l.text.now - l.draft.at) + 1

abbrev pub decreases-read_until : goal.decreases-read_until
decreases-read_until l = 8 * (length l.text.now - l.draft.at) + 2

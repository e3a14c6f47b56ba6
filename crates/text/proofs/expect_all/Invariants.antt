-- `text::expect_all`. The loop has gone over the bytes passed.
use Rattle.std.proofs.Common.{◌≡◌, ◌+◌, ◌≤◌, length, take}
use Rattle.text.specs.After.{cursor_after}
use Rattle.text.specs.Slot.{word}
use Rattle.text.proofs.expect_all.Given as goal

abbrev pub invariant-loop-b : goal.invariant-loop-b
invariant-loop-b l = (l.b-index ≤ length l.known) × (l.end ≡ cursor_after l.text l.initial.end (word (take l.b-index l.known))) × (l.end.at ≡ l.initial.end.at + l.b-index)

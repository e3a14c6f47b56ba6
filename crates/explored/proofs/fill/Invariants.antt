-- `fill`: the places passed are filled; each turn stores the state in its row and the row in its cell, in one list.
use Rattle.std.proofs.Common.{◌*◌, ◌-◌, ◌≤◌, ◌≡◌, length}
use Rattle.explored.specs.Blocks.{block_at}
use Rattle.explored.specs.States.{Found}
use Rattle.explored.proofs.fill.Given as goal

abbrev pub invariant-loop-place : goal.invariant-loop-place
invariant-loop-place l = (l.rows ≤ 256) × (l.end ≡ l.rows * l.c) × (l.end ≤ 256 * l.c) × (length l.room ≡ length l.initial.room)
    × Found l.label l.next l.ways l.live.words (block_at 130 l.initial.room 0) l.c l.room l.place l.rows

abbrev pub decreases-loop-place : goal.decreases-loop-place
decreases-loop-place l = 256 * l.c - l.place

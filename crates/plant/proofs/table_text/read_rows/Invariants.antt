-- `plant::table_text::read_rows`. The loop has read the states below k.
use Rattle.std.proofs.Common.{◌≡◌, ◌+◌, ◌*◌, ◌≤◌, drop}
use Rattle.words.specs.Below.{filled}
use Rattle.text.specs.Many.{slots_below}
use Rattle.text.specs.After.{cursor_after}
use Rattle.plant.specs.Text.{row}
use Rattle.plant.specs.Lines.{row_at}
use Rattle.plant.proofs.table_text.read_rows.Given as goal

abbrev pub invariant-loop-k : goal.invariant-loop-k
invariant-loop-k l =
    (l.end ≡ cursor_after l.text l.initial.end (slots_below (row l.width) l.k (row_at l.width (drop l.initial.end.at l.text))))
    × (l.label ≡ filled 64 l.k (λ k. (row_at l.width (drop l.initial.end.at l.text) k).0))
    × (l.next ≡ filled 64 l.k (λ k. (row_at l.width (drop l.initial.end.at l.text) k).1))
    × (l.end.at ≤ l.initial.end.at + 56 * l.k)

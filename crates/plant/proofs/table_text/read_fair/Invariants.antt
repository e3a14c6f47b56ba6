-- `plant::table_text::read_fair`. The loop has read the fairness sets below k.
use Rattle.std.proofs.Common.{◌≡◌, ◌+◌, ◌*◌, ◌≤◌, drop}
use Rattle.words.specs.Below.{filled}
use Rattle.text.specs.Many.{slots_below}
use Rattle.text.specs.After.{cursor_after}
use Rattle.plant.specs.Text.{field, fair_name}
use Rattle.plant.specs.Lines.{fair_at}
use Rattle.plant.proofs.table_text.read_fair.Given as goal

abbrev pub invariant-loop-k : goal.invariant-loop-k
invariant-loop-k l =
    (l.end ≡ cursor_after l.text l.initial.end (slots_below (field fair_name 16) l.k (fair_at (drop l.initial.end.at l.text))))
    × (l.words ≡ filled 4 l.k (fair_at (drop l.initial.end.at l.text)))
    × (l.end.at ≤ l.initial.end.at + 28 * l.k)

-- `next_at`: by whether an event came and the column is another than the first.
use Rattle.explored.specs.Led.{led_narrowed}
use Rattle.explored.proofs.next_at.Goals as goal

pub returns-then-column-gt0 : goal.returns-then-column-gt0
returns-then-column-gt0 c =
    led_narrowed _ _ _ _ _ _ _ _ _ _ c.requires.0.1 c.requires.4 c.load-from.ensures c.event_at-event.ensures c.if-from.true c.if-column-gt0.true
    (rw c.entry-first.ensures at c.load-wide.ensures) c.narrowed.ensures

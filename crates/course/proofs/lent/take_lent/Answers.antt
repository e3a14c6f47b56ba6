-- `lent::take_lent`: both sets moved, or split anew, or taken by value. Assumes nothing.
use Rattle.std.proofs.Common.{rules, ℕ, sym, ◌∙◌, ◌≡◌, Bool, true}
use Rattle.std.proofs.Math.Path.{refl}
use Rattle.pairs.specs.declared.Pairs.{Pairs}
use Rattle.sides.specs.declared.Monitor.{Monitor}
use Rattle.sides.specs.Sides.{sides_of}
use Rattle.course.specs.Lent.{came_moved, came_split, taken_lent}
use Rattle.course.proofs.lent.take_lent.Goals as goal

-- an event had come before
seen_too : {s : Bool} {keeps breaks : Pairs} {n : ℕ} → s ≡ true
    → ◌≡◌ {A = Monitor} (record { seen = s; keeps = keeps; breaks = breaks; expected = n }) (sides_of n true keeps.words breaks.words)
seen_too e = rw e refl

pub returns-then-event-clause-taken : goal.returns-then-event-clause-taken
returns-then-event-clause-taken c =
    c.restart.ensures
    ∙ seen_too c.if-monitor.true
    ∙ taken_lent _ _ _ _ _ _ _ c.args.monitor.now c.args.event c.number_of-number.ensures
    (came_split _ _ _ _ _ _ _ _ _ _ c.agreeing-agree.ensures (sym c.missing-gap.ensures ∙ search rules) c.if-monitor.true c.if-event.true refl refl)

pub returns-then-monitor-clause-taken : goal.returns-then-monitor-clause-taken
returns-then-monitor-clause-taken c =
    seen_too c.if-monitor.true
    ∙ taken_lent _ _ _ _ _ _ _ c.args.monitor.now c.args.event c.number_of-number.ensures
    (came_moved _ _ _ _ _ _ _ _ _ _ c.agreeing-agree.ensures (sym c.missing-gap.ensures ∙ search rules) c.if-monitor.true c.if-event.false c.led-monitor.ensures c.led-monitor-then-monitor.ensures)

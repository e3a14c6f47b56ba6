-- `look_through`: the checks one after the other, and then the loop. Assumes nothing.
use Rattle.std.proofs.Common.{ℕ, ◌+◌, ◌≡◌, ap, ◌∙◌, arith, length}
use Rattle.columns.specs.Columns.{count_of, few_columns}
use Rattle.machine_lookup.specs.Shape.{rows_of}
use Rattle.machine_events.specs.Turns.{no_props, many_props, no_row, no_room, with_room}
use Rattle.machine_events.proofs.look_through.Goals.{then-props-lt1-via-then-props-lt1, then-props-lt1-via-else-props-lt1+then-props-gt3}
use Rattle.machine_events.proofs.look_through.Goals as goal

pub returns-then-props-lt1 : goal.returns-then-props-lt1
returns-then-props-lt1 c =
    let a = c.args in
    elim c.then-props-lt1.branch [
      | then-props-lt1-via-then-props-lt1 w ↦
          let both = no_props a.machine.now a.props a.row a.events.now a.shown.now w.if-props-lt1.true c.refused.ensures in
          record { answer = both.0; shown = both.1 }
      | then-props-lt1-via-else-props-lt1+then-props-gt3 w ↦
          let both = many_props a.machine.now a.props a.row a.events.now a.shown.now w.if-props-gt3.true c.refused.ensures in
          record { answer = both.0; shown = both.1 }
    ]

pub overflow_add-width : goal.overflow_add-width
overflow_add-width c = record { fits = omega (arith, c.count-width.ensures, (few_columns c.args.props).1) }

pub returns-then-rows-row : goal.returns-then-rows-row
returns-then-rows-row c =
    let a = c.args in
    let rows : c.rows_of-rows.result ≡ rows_of (length a.machine.now) (count_of a.props + 2) = c.rows_of-rows.ensures ∙ ap (λ (k : ℕ). rows_of (length a.machine.now) (k + 2)) c.count-width.ensures in
    let both = no_row a.machine.now a.props a.row a.events.now a.shown.now c.if-props-lt1.false c.if-props-gt3.false (omega (arith, rows, c.if-rows-row.true)) c.refused-then-rows-row.ensures in
    record { answer = both.0; shown = both.1 }

pub returns-then-shown-events : goal.returns-then-shown-events
returns-then-shown-events c =
    let a = c.args in
    let rows : c.rows_of-rows.result ≡ rows_of (length a.machine.now) (count_of a.props + 2) = c.rows_of-rows.ensures ∙ ap (λ (k : ℕ). rows_of (length a.machine.now) (k + 2)) c.count-width.ensures in
    let both = no_room a.machine.now a.props a.row a.events.now a.shown.now c.if-props-lt1.false c.if-props-gt3.false (omega (arith, rows, c.if-rows-row.false)) c.if-shown-events.true c.refused-then-shown-events.ensures in
    record { answer = both.0; shown = both.1 }

pub returns : goal.returns
returns c =
    let a = c.args in
    let rows : c.rows_of-rows.result ≡ rows_of (length a.machine.now) (count_of a.props + 2) = c.rows_of-rows.ensures ∙ ap (λ (k : ℕ). rows_of (length a.machine.now) (k + 2)) c.count-width.ensures in
    let both =
    with_room a.machine.now a.props a.row a.events.now a.shown.now c.if-props-lt1.false c.if-props-gt3.false (omega (arith, rows, c.if-rows-row.false)) c.if-shown-events.false c.turns.ensures
    in
    record { answer = both.0; shown = both.1 }

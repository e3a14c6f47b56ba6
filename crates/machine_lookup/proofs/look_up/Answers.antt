-- `look_up`: the checks one after the other, and then the row that the cell holds.
use Rattle.std.proofs.Common.{ℕ, ◌+◌, ◌≤◌, ◌≡◌, refl, ap, ◌∙◌, Bool, true, false, arith, get_or, le-ltb}
use mir.Val.{bool_byte}
use Rattle.words.specs.Word.{only_of}
use Rattle.columns.specs.Columns.{count_of}
use Rattle.machine_lookup.specs.Lookup.{looked_none, looked_unheld, looked_illegal, looked_there}
use Rattle.machine_lookup.specs.Shape.{shape_some, shape_nought, shape_held, rows_hold, first_of, first_legal, cell_there}
use Rattle.machine_lookup.proofs.look_up.Goals as goal

-- a flag as a number
flag : (b : Bool) → bool_byte b ≡ only_of b 1
flag true = refl
flag false = refl

pub returns-then-width-eq0 : goal.returns-then-width-eq0
returns-then-width-eq0 c = looked_none _ _ _ _ (shape_nought _ _ _ c.shape_of-width.ensures c.if-width-eq0.true) c.at.ensures

pub returns-then-rows-row : goal.returns-then-rows-row
returns-then-rows-row c =
    let shaped = shape_some _ _ _ c.shape_of-width.ensures c.if-width-eq0.false in
    looked_unheld _ _ _ c.args.event shaped.some shaped.few shaped.wide
    (rows_hold _ _ _ ∙ le-ltb _ _ (rw shaped.rows at c.if-rows-row.true)) c.at-then-rows-row.ensures

pub returns-then-width-first : goal.returns-then-width-first
returns-then-width-first c =
    let shaped = shape_some _ _ _ c.shape_of-width.ensures c.if-width-eq0.false in
    let held = shape_held _ _ _ _ shaped c.if-rows-row.false in
    looked_illegal _ _ _ c.args.event shaped.some shaped.few shaped.wide held.held
    (first_legal _ shaped.some shaped.few c.args.event ∙ le-ltb (first_of c.args.event.see c.args.event.val) (count_of c.args.props + 2) (omega (arith, shaped.wide, c.first_of-first.ensures.0, c.if-width-first.true))) c.at-then-width-first.ensures

pub overflow_mul-cell : goal.overflow_mul-cell
overflow_mul-cell c =
    let held = shape_held _ _ _ _ (shape_some _ _ _ c.shape_of-width.ensures c.if-width-eq0.false) c.if-rows-row.false in
    record { fits = omega (arith, held.low) }

pub overflow_add-cell : goal.overflow_add-cell
overflow_add-cell c =
    let held = shape_held _ _ _ _ (shape_some _ _ _ c.shape_of-width.ensures c.if-width-eq0.false) c.if-rows-row.false in
    record { fits = omega (arith, held.low, c.first_of-first.ensures.1) }

pub overflow_add-cell-2 : goal.overflow_add-cell-2
overflow_add-cell-2 c =
    let held = shape_held _ _ _ _ (shape_some _ _ _ c.shape_of-width.ensures c.if-width-eq0.false) c.if-rows-row.false in
    record { fits = omega (arith, held.low, c.first_of-first.ensures.1, bit c.args.event.new) }
  where
    bit : (b : Bool) → bool_byte b ≤ 1
    bit true = omega arith
    bit false = omega arith

pub bounds-machine-cell : goal.bounds-machine-cell
bounds-machine-cell c =
    let shaped = shape_some _ _ _ c.shape_of-width.ensures c.if-width-eq0.false in
    (cell_there _ _ _ _ c.args.event shaped c.if-rows-row.false _ c.first_of-first.ensures.0 c.if-width-first.false _ (flag c.args.event.new)).below

pub stand_at-requires : goal.stand_at-requires
stand_at-requires c =
    let held = shape_held _ _ _ _ (shape_some _ _ _ c.shape_of-width.ensures c.if-width-eq0.false) c.if-rows-row.false in
    (held.wide, held.narrow, held.rows_are)

pub returns : goal.returns
returns c =
    let shaped = shape_some _ _ _ c.shape_of-width.ensures c.if-width-eq0.false in
    let held = shape_held _ _ _ _ shaped c.if-rows-row.false in
    let cell = cell_there _ _ _ _ c.args.event shaped c.if-rows-row.false _ c.first_of-first.ensures.0 c.if-width-first.false _ (flag c.args.event.new) in
    looked_there _ _ _ c.args.event shaped.some shaped.few shaped.wide held.held cell.legal refl (ap (λ (at : ℕ). get_or c.args.machine.now at 0) cell.there) c.stand_at.ensures

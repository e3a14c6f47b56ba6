-- `stand_at`: a row that is none, or shows what it can, or not.
use Rattle.std.proofs.Common.{refl, arith, ◌∙◌, sym}
use Rattle.machine_lookup.specs.Lookup.{stand_beyond, stand_shown, stand_none}
use Rattle.machine_lookup.proofs.stand_at.Goals as goal

pub returns-then-rows-row : goal.returns-then-rows-row
returns-then-rows-row c =
    stand_beyond c.args.machine.now c.args.width c.args.cell (omega arith) c.at.ensures

pub returns-then-can_show : goal.returns-then-can_show
returns-then-can_show c =
    stand_shown c.args.machine.now c.args.width c.args.cell (omega arith) refl refl (sym c.can_show.ensures ∙ c.if-can_show.true)

pub returns-else-can_show : goal.returns-else-can_show
returns-else-can_show c =
    stand_none c.args.machine.now c.args.width c.args.cell (omega arith) refl refl (sym c.can_show.ensures ∙ c.if-can_show.false) c.at-else-can_show.ensures

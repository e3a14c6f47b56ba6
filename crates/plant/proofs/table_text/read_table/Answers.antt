-- `plant::table_text::read_table`. Each return is a case of `read_as`.
use Rattle.std.proofs.Common.{ap, sym, ◌∙◌, arith}
use Rattle.std.proofs.lemmas.Grind.{common_steps}
use Rattle.plant.specs.Read.{refused_read, read_unfit, read_fits}
use Rattle.plant.proofs.table_text.read_table.Goals as goal

pub returns-then-end : goal.returns-then-end
returns-then-end c =
    c.refused.ensures ∙ ap refused_read c.at.ensures ∙ read_unfit _ _ _ c.parse.ensures (grind (arith, common_steps))

pub returns-in-Ok : goal.returns-in-Ok
returns-in-Ok c =
    let told = c.in-Ok.is in
    rw told (read_fits _ _ _ c.parse.ensures _ (grind (arith, common_steps)) (sym told ∙ c.check_read-outcome.ensures))

pub returns-in-Err : goal.returns-in-Err
returns-in-Err c =
    let told = c.in-Err.is in
    c.refused-in-Err.ensures
    ∙ read_fits _ _ _ c.parse.ensures _ (grind (arith, common_steps)) (sym told ∙ c.check_read-outcome.ensures)

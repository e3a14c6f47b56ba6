-- `show_table`: a text that was written fits its bytes.
use Rattle.std.proofs.Common.{sym, ◌∙◌, arith, take, replicate}
use Rattle.plant_writer.specs.Promises.{written}
use Rattle.table.proofs.show_table.Goals as goal

pub show_text-requires : goal.show_text-requires
show_text-requires g c =
    let t = c.args.table in
    let fits = written t.plant (take t.plant.just t.fair) (take t.plant.states t.label) (take t.plant.states t.next) (replicate 2477 0) _
    (sym c.write_table-wrote.ensures.answer ∙ c.in-Ok.is) in
    omega (arith, fits.most)

-- `show_sheet`: a text that was written fits its bytes.
use Rattle.std.proofs.Common.{arith, replicate}
use Rattle.day.proofs.Room.{written_fits}
use Rattle.day.proofs.show_sheet.Goals as goal

pub show_text-requires : goal.show_text-requires
show_text-requires g c = omega (arith, written_fits c.args.sheet (replicate 6080 0) c.write_sheet-wrote.ensures.answer c.in-Ok.is)

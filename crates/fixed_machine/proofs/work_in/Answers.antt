-- `work_in`: too many states, or a machine; the words end 0 either way.
use Rattle.std.specs.Prelude.{Err}
use Rattle.std.proofs.Common.{arith, refl, ap}
use Rattle.fixed_machine.specs.Worked.{over, found_none, found_rows, found_in, worked}
use Rattle.fixed_machine.proofs.work_in.Goals.{then-n-eq0, else-n-eq0}
use Rattle.fixed_machine.proofs.work_in.Goals as goal

pub lay-made-requires : goal.lay-made-requires
lay-made-requires c =
    let (small, found) = found_rows c.explore-n.ensures c.if-n-eq0.false in
    (small, c.requires.1, c.requires.2, omega (arith, c.requires.3), found_in found)

pub returns-clause-made : goal.returns-clause-made
returns-clause-made c = elim c.if-n-eq0.branch [
  | then-n-eq0 w ↦ rw (w.machine-is, w.made-is) (over (found_none c.explore-n.ensures w.if-n-eq0.true) (ap Err w.at.ensures) refl)
  | else-n-eq0 w ↦
      let (small, found) = found_rows c.explore-n.ensures w.if-n-eq0.false in
      rw (w.machine-is, w.made-is) (worked found small w.lay-made.ensures)
]

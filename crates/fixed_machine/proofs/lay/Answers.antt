-- `lay`: the rows found are a machine, which is joined and written.
use Rattle.std.proofs.Common.{ℕ, refl, arith}
use lib.ListN.{length-replicate}
use borrow.Author.Rules.{part_to_end}
use Rattle.joined.specs.Join.{numbers_joined}
use Rattle.fixed_machine.specs.Worked.{same_proper, size_low, laid_short, laid_whole}
use Rattle.fixed_machine.proofs.lay.Goals as goal

pub join-count-requires : goal.join-count-requires
join-count-requires c = (
  c.requires.0,
  omega (arith, c.requires.2),
  omega (arith, c.requires.0),
  omega (arith, c.requires.0),
  same_proper c.args.room.now _ _ _ _ c.read_outputs.ensures (part_to_end c.args.room.now 33280) c.requires.4,
)

pub overflow_mul-count : goal.overflow_mul-count
overflow_mul-count c =
    record { fits = omega (arith, size_low c.args.room.now _ _ _ _ c.read_outputs.ensures (part_to_end c.args.room.now 33280) c.join-count.ensures.2 c.requires.0 c.requires.2) }

pub returns-then-machine-count : goal.returns-then-machine-count
returns-then-machine-count c =
    laid_short c.args.room.now _ _ _ _ c.read_outputs.ensures (part_to_end c.args.room.now 33280) c.join-count.ensures.2 c.args.machine.now c.if-machine-count.true c.at.ensures

pub write_table-requires : goal.write_table-requires
write_table-requires c = (
  c.requires.0,
  omega (arith, c.requires.2),
  c.join-count.ensures.2,
  c.if-machine-count.false,
  same_proper c.args.room.now _ _ _ _ c.read_outputs.ensures (part_to_end c.args.room.now 33280) c.requires.4,
  numbers_joined _ _ _ _ _ _ (omega (arith, c.requires.0, length-replicate {A = ℕ} 256 0)) c.join-count.ensures.0,
)

pub returns : goal.returns
returns c =
    laid_whole c.args.room.now _ _ _ _ c.read_outputs.ensures (part_to_end c.args.room.now 33280) c.join-count.ensures.2 c.args.machine.now
    c.if-machine-count.false refl c.write_table.ensures

-- `write_table`: the bytes passed are written.
use Rattle.std.proofs.Common.{◌≡◌}
use Rattle.machines.specs.Joined.{joined}
use Rattle.machines.specs.Bytes.{table_byte}
use Rattle.joined.specs.Written.{written}
use Rattle.machines.specs.Held.{machine_of}
use Rattle.machine_bytes.proofs.write_table.Given as goal

abbrev pub invariant-loop-p : goal.invariant-loop-p
invariant-loop-p l = l.table ≡ written l.p (table_byte l.c (joined l.c (machine_of l.outputs l.cells l.n l.c))) l.initial.table

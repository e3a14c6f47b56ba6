-- `rows::fill_part`: the entries passed are filled in.
use mathlib.Core.Path.{◌≡◌}
use Prim.Native.Nat.{◌≤◌}
use Rattle.truth.specs.Columns.{column_filled}
use Rattle.truth.specs.Rows.{part_at}
use Rattle.truth.proofs.rows.fill_part.Given as goal

abbrev pub invariant-loop-v : goal.invariant-loop-v
invariant-loop-v g l =
    (l.v ≤ 64) × (l.table ≡ column_filled l.k (part_at g.A.Asked.asked l.op l.first l.last l.words l.k) l.initial.table l.v)

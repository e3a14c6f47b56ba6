-- `rows::rows_of`: the columns passed are filled in, the others still 0.
use mathlib.Core.Path.{◌≡◌}
use Prim.Native.Nat.{◌≤◌}
use Rattle.truth.specs.Columns.{columns_filled}
use Rattle.truth.specs.Rows.{row_at}
use Rattle.truth.proofs.rows.rows_of.Given as goal

abbrev pub invariant-loop-k : goal.invariant-loop-k
invariant-loop-k g l =
    (l.k ≤ 6) × (l.table ≡ columns_filled (row_at g.A.Asked.asked l.fn.kinds.nodes l.fn.begins l.fn.order l.fn.words) l.k)

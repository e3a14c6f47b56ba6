-- What a rule and the labels of a table say, as prepare, the monitor and a witness go by it.
use Rattle.std.specs.Prelude.{ℕ, ◌^◌, ◌≤◌, ◌≡◌, List}
use Rattle.std.proofs.Common.{pow_mono}
use Rattle.syntax.specs.declared.Rule.{Rule}
use Rattle.truth.specs.declared.tables.MoveTables.{MoveTables}
use Rattle.truth.specs.declared.tables.RestartTables.{RestartTables}
use Rattle.truth.specs.declared.tables.Tables.{Tables}
use Rattle.truth.specs.Tables.{move_tables_in, restart_tables_in, tables_of}
use Rattle.truth.specs.Ready.{Ready}
use Rattle.truth_laws.proofs.TablesRight.{few_parts}
use Rattle.leads.specs.Halves.{leaving_of, entering_of}
use Rattle.ways.specs.declared.MoveWays.{MoveWays}
use Rattle.ways.specs.declared.RestartWays.{RestartWays}
use Rattle.ways.specs.declared.Ways.{Ways}

-- from the tables of a rule's parts
abbrev pub ways_from : Tables → Ways
ways_from t = record {
  parts = t.parts;
  count = 2 ^ t.parts;
  leave = leaving_of t.parts t.low t.high;
  enter = entering_of t.parts t.nexts t.operand;
  settled = t.settled;
  holds = t.holds;
}

unfoldable pub ways_of : List ℕ → Rule → Ways
ways_of label rule = ways_from (tables_of label rule)

-- those of them that a move goes by, and a restart
abbrev pub move_ways_in : Ways → MoveWays
move_ways_in w = record { count = w.count; leave = w.leave; enter = w.enter }

abbrev pub restart_ways_in : Ways → RestartWays
restart_ways_in w = record { moves = move_ways_in w; holds = w.holds }

-- the same from a move's tables alone
unfoldable pub move_ways_from : MoveTables → MoveWays
move_ways_from t = record { count = 2 ^ t.parts; leave = leaving_of t.parts t.low t.high; enter = entering_of t.parts t.nexts t.operand }

-- ---- for code: the whole values, from what the calls ensure

module _ (label : List ℕ) (rule : Rule) where
  pub ways_whole : {leave enter : List ℕ} {count : ℕ} {t : Tables} → t ≡ tables_of label rule → leave ≡ leaving_of t.parts t.low t.high → enter ≡ entering_of t.parts t.nexts t.operand
      → count ≡ 2 ^ t.parts
      → record { parts = t.parts; count = count; leave = leave; enter = enter; settled = t.settled; holds = t.holds } ≡ ways_of label rule
  unfolding ways_of
  ways_whole e l n k = rw (l, n, k, e)

  pub move_ways_whole : {t : MoveTables} → t ≡ move_tables_in (tables_of label rule) → move_ways_from t ≡ move_ways_in (ways_of label rule)
  unfolding ways_of move_ways_from
  move_ways_whole e = rw e

  pub restart_ways_whole : {t : RestartTables} {m : MoveWays} → t ≡ restart_tables_in (tables_of label rule) → m ≡ move_ways_from t.moves
      → record { moves = m; holds = t.holds } ≡ restart_ways_in (ways_of label rule)
  unfolding ways_of move_ways_from
  restart_ways_whole e m = rw (m, e)

-- at most six parts, and 64 valuations
pub few_part_ways : {label : List ℕ} {rule : Rule} → Ready label rule → (ways_of label rule).parts ≤ 6
unfolding ways_of
few_part_ways ok = few_parts ok

pub few_ways : {label : List ℕ} {rule : Rule} → Ready label rule → (ways_of label rule).count ≤ 64
unfolding ways_of
few_ways ok = pow_mono (few_parts ok)

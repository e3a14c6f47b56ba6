-- With what an accepted rule says the walk is a witness.
use Rattle.std.specs.Prelude.{ℕ, List}
use Rattle.std.proofs.Math.Bool.{So}
use Rattle.meaning.specs.Formula.{Formula, parts}
use Rattle.meaning.specs.Run.{Plant}
use Rattle.meaning.specs.Limits.{AcceptedTable, Small}
use Rattle.graphs.specs.Fair.{Fair}
use Rattle.model.specs.Sets.{nodes_of}
use Rattle.model.specs.LiveSet.{live_set}
use Rattle.model.specs.Witness.{has_live}
use Rattle.leads.specs.Halves.{leaving_of, entering_of}
use Rattle.leads.specs.HalvesRight.{from_halves, to_halves}
use Rattle.truth.specs.declared.tables.Tables.{Tables}
use Rattle.truth.specs.RightTables.{RightTables}
use Rattle.ways.specs.Ways.{ways_from}
use Rattle.walk.specs.Legs.{Walked}
use Rattle.walk.specs.Shows.{RightHalves, Shows, live_fair, live_asked, walked_shows}
use Rattle.witness.specs.Run.{moves_in, debts_in}

module _ (T : Plant) (f : Formula) (A : AcceptedTable T) (small : Small f) (t : Tables) (R : RightTables T f t) where
  abbrev leave : List ℕ
  leave = leaving_of (parts f) t.low t.high

  abbrev enter : List ℕ
  enter = entering_of (parts f) t.nexts t.operand

  halves : RightHalves T f leave enter
  halves = record {
    leaves = from_halves T f A small t.low t.high t.nexts t.operand R.low R.high R.nexts R.operand;
    enters = to_halves T f A small t.low t.high t.nexts t.operand R.low R.high R.nexts R.operand;
  }

  -- every live pair can go on, and to every debt
  pub run_is_fair : Fair (moves_in (ways_from t) T.next) (debts_in (ways_from t) T.fair) (nodes_of (live_set T f))
  run_is_fair = rw R.count (live_fair T f A small leave enter t.settled halves R.settled)

  -- where the asked set has a live pair, here is one
  pub run_begins : (asked : List ℕ) → So (has_live T f asked) → (y : ℕ) × (So (nodes_of asked y) × So (nodes_of (live_set T f) y))
  run_begins asked e = live_asked T f A small leave enter t.settled halves R.settled asked e

  pub run_shows : {asked before now : List ℕ} {stem turn : ℕ} → Walked (moves_in (ways_from t) T.next) (debts_in (ways_from t) T.fair) (nodes_of (live_set T f)) (nodes_of asked) before now stem turn
      → Shows T f asked before now stem turn
  run_shows w = walked_shows T f A small leave enter t.settled halves R.settled (rw R.count at w)

-- With what an accepted rule says the live set worked out is that of the model.
use Rattle.std.specs.Prelude.{ℕ, ◌-◌, ◌^◌, ◌≡◌, refl, List}
use Rattle.std.proofs.Common.{ap, ◌∙◌}
use Rattle.meaning.specs.Formula.{Formula, parts}
use Rattle.meaning.specs.Run.{Plant}
use Rattle.meaning.specs.Limits.{AcceptedTable, Small}
use Rattle.model.specs.LiveSet.{all_pairs, live_set}
use Rattle.leads.specs.Halves.{leaving_of, entering_of}
use Rattle.leads.specs.HalvesRight.{before_halves}
use Rattle.sweeps.specs.Rounds.{every_of, lasting_of}
use Rattle.sweeps.specs.SweepsRight.{Moves}
use Rattle.sweeps.specs.Lives.{live_right}
use Rattle.syntax.specs.declared.Rule.{Rule}
use Rattle.truth.specs.declared.tables.Tables.{Tables}
use Rattle.truth.specs.RightTables.{RightTables}
use Rattle.ways.specs.declared.Ways.{Ways}
use Rattle.ways.specs.Ways.{ways_from, ways_of}
use Rattle.live.specs.Prepare.{live_by, live_of}

-- ---- what the code has

-- what its calls give, one after the other
pub live_is : {w : Ways} (states : ℕ) (fair label next : List ℕ) (rule : Rule) {r : List ℕ} → w ≡ ways_of label rule
    → r ≡ lasting_of fair next w.leave w.enter w.settled w.parts states → r ≡ live_of states fair label next rule
unfolding live_of live_by
live_is states fair label next rule e er = er ∙ ap (λ (u : Ways). live_by u states fair next) e

-- ---- what it means

every_all : (T : Plant) (f : Formula) → every_of (2 ^ parts f) (2 ^ T.states - 1) ≡ all_pairs T f
unfolding every_of all_pairs
every_all T f = refl

module _ (T : Plant) (f : Formula) (A : AcceptedTable T) (small : Small f) (t : Tables) (R : RightTables T f t) where
  moves : Moves T f (leaving_of (parts f) t.low t.high) (entering_of (parts f) t.nexts t.operand)
  moves = record { leading = before_halves T f A small t.low t.high t.nexts t.operand R.low R.high R.nexts R.operand }

  pub live_by_lem : live_by (ways_from t) T.states T.fair T.next ≡ live_set T f
  unfolding live_by lasting_of
  live_by_lem = rw (R.count, every_all T f)
      (live_right T f A small (leaving_of (parts f) t.low t.high) (entering_of (parts f) t.nexts t.operand) moves t.settled R.settled)

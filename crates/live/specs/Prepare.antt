-- What `prepare` answers: the checks (01, Refusal numbers), and behind them the live set of the table and the rule.
use Rattle.std.specs.Prelude.{ℕ, List, replicate, Ok, Err}
use Rattle.model.specs.LiveSet.{live_set}
use Rattle.sweeps.specs.Rounds.{lasting_of}
use Rattle.answers.specs.Results.{Outcome}
use Rattle.plant.specs.declared.Plant.{Plant}
use Rattle.plant.specs.Table.{plant_of}
use Rattle.syntax.specs.declared.Rule.{Rule}
use Rattle.syntax.specs.Value.{formula_of}
use Rattle.ways.specs.declared.Ways.{Ways}
use Rattle.ways.specs.Ways.{ways_of}
use Rattle.checks.specs.Checks.{input_outcome}
use Rattle.live.specs.declared.Prepared.{Prepared}

-- with a refusal the empty set
abbrev pub prepared_as : Outcome → List ℕ → Prepared
prepared_as (Ok _) live = record { outcome = Ok tt; live = record { words = live } }
prepared_as (Err r) live = record { outcome = Err r; live = record { words = replicate 64 0 } }

unfoldable pub prepared_of : Plant → List ℕ → List ℕ → List ℕ → Rule → Prepared
prepared_of p fair label next rule = prepared_as (input_outcome p fair label next rule) (live_set (plant_of p fair label next) (formula_of rule))

-- ---- the live set as code works it out

unfoldable pub live_by : Ways → ℕ → List ℕ → List ℕ → List ℕ
live_by w states fair next = lasting_of fair next w.leave w.enter w.settled w.parts states

unfoldable pub live_of : ℕ → List ℕ → List ℕ → List ℕ → Rule → List ℕ
live_of states fair label next rule = live_by (ways_of label rule) states fair next

-- What tables must hold, so that moves, goals and openings worked out with them are those of the rule f.
use Rattle.std.specs.Prelude.{ℕ, ◌^◌, ◌<◌, ◌≡◌, true, false, get_or}
use Rattle.meaning.specs.Bit.{bit}
use Rattle.meaning.specs.Formula.{Formula, parts}
use Rattle.meaning.specs.Run.{Plant}
use Rattle.theory.specs.Move.{settled}
use Rattle.theory.specs.Parts.{part_of}
use Rattle.model.specs.Values.{Shows}
use Rattle.model.specs.Tables.{Rows, unfolds, is_next, operand_of}
use Rattle.truth.specs.declared.tables.Tables.{Tables}

pub record RightTables (T : Plant) (f : Formula) (t : Tables) : Type 0 where
  -- as many parts, and which of them are X
  pub count : t.parts ≡ parts f
  pub nexts : (k : ℕ) → k < parts f → bit t.nexts k ≡ is_next (part_of f k)
  -- what a part unfolds to where its value next is 0, and where it is 1
  pub low : Rows T f t.low (λ c. unfolds c false)
  pub high : Rows T f t.high (λ c. unfolds c true)
  -- the operand of a part X
  pub operand : Rows T f t.operand operand_of
  -- where a part is settled
  pub settled : Rows T f t.settled settled
  -- where the rule holds
  pub holds : (v : ℕ) → v < 64 → Shows T f 0 v (get_or t.holds v 0)
  pub words : (v : ℕ) → get_or t.holds v 0 < 2 ^ 64

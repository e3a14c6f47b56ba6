-- Where the program says that a step was refused.
use Rattle.std.specs.Prelude.{◌||◌, cond, ℕ, eqb, Ok, Err}
use Rattle.answers.specs.declared.Refusal.{Refusal}
use Rattle.answers.specs.Results.{Outcome}
use Rattle.answers.specs.Paper.{kind_number, refused_at}

-- refusals 10 and 16 at the offset of the event's line; any other as the call gave it
abbrev pub placed_at : Refusal → ℕ → Refusal
placed_at r offset = cond (eqb (kind_number r.kind) 10 || eqb (kind_number r.kind) 16) (refused_at r.kind offset) r

abbrev pub at_line : Outcome → ℕ → Outcome
at_line (Ok _) offset = Ok tt
at_line (Err r) offset = Err (placed_at r offset)

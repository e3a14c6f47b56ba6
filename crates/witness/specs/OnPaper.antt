-- The answer of witness on paper: the lengths of the stem and of the loop, or the refusal (01, The shape each place takes).
use Rattle.std.specs.Prelude.{[], ◌∷◌, Result, Ok, Err}
use Rattle.answers.specs.Paper.{Paper, accepted, refusal}
use Rattle.walk.specs.declared.Lengths.{Lengths}
use Rattle.answers.specs.declared.Refusal.{Refusal}

abbrev pub witnessed : Result Lengths Refusal → Paper
witnessed (Ok l) = accepted (l.stem ∷ l.turn ∷ [])
witnessed (Err r) = refusal r

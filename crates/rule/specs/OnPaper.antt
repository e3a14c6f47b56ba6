-- The answer of print_rule on paper: how many bytes were printed, or the refusal (01, The shape each place takes).
use Rattle.std.specs.Prelude.{[], ◌∷◌, Result, Ok, Err}
use Rattle.answers.specs.Paper.{Paper, accepted, refusal}
use Rattle.rule.specs.declared.Length.{Length}
use Rattle.answers.specs.declared.Refusal.{Refusal}

abbrev pub printed : Result Length Refusal → Paper
printed (Ok l) = accepted (l.bytes ∷ [])
printed (Err r) = refusal r

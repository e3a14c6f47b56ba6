-- The answer of write_table on paper: how many bytes were written, or the refusal.
use Rattle.std.specs.Prelude.{[], ◌∷◌, Result, Ok, Err}
use Rattle.answers.specs.Paper.{Paper, accepted, refusal}
use Rattle.plant_writer.specs.declared.Length.{Length}
use Rattle.answers.specs.declared.Refusal.{Refusal}

abbrev pub wrote : Result Length Refusal → Paper
wrote (Ok l) = accepted (l.bytes ∷ [])
wrote (Err r) = refusal r

-- A text as the line that holds it, and what putting a text behind a line makes of it.
use Rattle.std.specs.Prelude.{List, ◌++◌, ℕ, ◌-◌, length, replicate}
pub use Rattle.writing.specs.Put.{Put}
use Rattle.report.specs.declared.Line.{Line}

-- the text, and zeros behind it
abbrev pub line_of : List ℕ → Line
line_of text = record { len = length text; bytes = text ++ replicate (70 - length text) 0 }

-- the text was put behind the line's own
abbrev pub PutOn : Line → List ℕ → Line → Type 0
PutOn line text new = Put line.bytes line.len text new.bytes new.len

-- What reading a log gives.
use Rattle.std.specs.Prelude.{ℕ, ◌/◌, Bool, List, eqb, length, get_or, Ok, Err}
use Rattle.text.specs.LinesRead.{lines_read, line_or}
use Rattle.event_log.specs.Line.{line, line_bytes}
use Rattle.event_log.specs.Log.{nothing}
use Rattle.event_log.specs.declared.Event.{Event}
use Rattle.event_log.specs.declared.LogRead.{LogRead}
use Rattle.answers.specs.declared.Kind.TheVariants.{LogText}
use Rattle.answers.specs.declared.Refusal.{Refusal}
use Rattle.answers.specs.Paper.{refused_at}

-- with a refusal no lines are counted
abbrev pub refused_with : Refusal → LogRead
refused_with r = record { outcome = Err r; lines = 0 }

-- 12 at a place
abbrev pub refused_log : ℕ → LogRead
refused_log place = refused_with (refused_at LogText place)

-- so many lines
abbrev pub accepted_log : ℕ → LogRead
accepted_log n = record { outcome = Ok tt; lines = n }

-- whether a text's lines are to be numbered: its first byte tells it, `n`
unfoldable pub is_numbered : List ℕ → Bool
is_numbered s = eqb (get_or s 0 0) 110

-- how many bytes each line of a text has
abbrev pub bytes_in : ℕ → List ℕ → ℕ
bytes_in w s = line_bytes (is_numbered s) w

-- ---- of lines that are numbered, or are not

-- 12 where the text stops to fit lines of w digits, and else how many there are
unfoldable pub read_as : Bool → ℕ → List ℕ → LogRead
read_as numbered w s = lines_read (line numbered w) (line_bytes numbered w) refused_log accepted_log s

-- the event of a line, and one that sees nothing beyond the last whole line
unfoldable pub event_as : Bool → ℕ → List ℕ → ℕ → Event
event_as numbered w s k = line_or (line numbered w) (line_bytes numbered w) nothing s k

-- ---- as the first byte tells it

abbrev pub log_read : ℕ → List ℕ → LogRead
log_read w s = read_as (is_numbered s) w s

-- how many whole lines of w digits a text has room for
abbrev pub whole_lines : ℕ → List ℕ → ℕ
whole_lines w s = length s / bytes_in w s

abbrev pub event_at : ℕ → List ℕ → ℕ → Event
event_at w s k = event_as (is_numbered s) w s k

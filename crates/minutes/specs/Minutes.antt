-- THE MINUTES OF A DAY: the texts are opened, the log is checked, and then each line is noted, from the empty sheet on.
use Rattle.std.specs.Prelude.{ℕ, List, Ok, Err}
use Rattle.answers.specs.declared.Refusal.{Refusal}
use Rattle.answers.specs.Results.{Outcome}
use Rattle.answers.specs.Paper.{refused_at}
use Rattle.answers.specs.Chain.{and_then}
use Rattle.text.specs.Number.{width_of}
use Rattle.text.specs.Lines.{line_start}
use Rattle.event_log.specs.Read.{bytes_in, log_read}
use Rattle.opened.specs.declared.Opened.{Opened}
use Rattle.opened.specs.Opened.{fair_in, label_in, next_in, opened_of}
use Rattle.stretches.specs.Sheet.{empty_sheet}
use Rattle.day_log.specs.declared.DayWent.{DayWent}
use Rattle.day_log.specs.Day.{day_of}
use Rattle.minutes.specs.declared.Minutes.{Minutes}

-- the log's lines noted, from what was opened on
abbrev pub day_from : Opened → List ℕ → DayWent
day_from o log = day_of o.table.plant (fair_in o.table) (label_in o.table) (next_in o.table) o.rule o.live o.monitor empty_sheet log

-- an event is refused at the offset of its line
abbrev pub at_line : ℕ → Outcome → Outcome
at_line offset (Ok _) = Ok tt
at_line offset (Err r) = Err (refused_at r.kind offset)

-- how the day went, with lines of so many bytes each
abbrev pub minutes_by : ℕ → DayWent → Minutes
minutes_by bytes w = record { outcome = at_line (line_start bytes w.done) w.outcome; sheet = w.sheet }

abbrev pub no_minutes : Refusal → Minutes
no_minutes r = record { outcome = Err r; sheet = empty_sheet }

-- behind the checks
abbrev pub minutes_in : Outcome → Opened → List ℕ → Minutes
minutes_in (Ok _) o log = minutes_by (bytes_in (width_of o.table.plant.props) log) (day_from o log)
minutes_in (Err r) o log = no_minutes r

abbrev pub minutes_from : Opened → List ℕ → Minutes
minutes_from o log = minutes_in (and_then o.outcome (log_read (width_of o.table.plant.props) log).outcome) o log

-- the texts of a table, a rule and a log
unfoldable pub minutes_of : List ℕ → List ℕ → List ℕ → Minutes
minutes_of table rule log = minutes_from (opened_of table rule) log

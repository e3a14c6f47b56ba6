-- WHAT A WHOLE LOG IS ANSWERED: the texts are opened, the log and the buffer checked, and then the public step is taken line after line, up to the first event
-- that is refused. And WHERE IT ENDS: what stands behind that, with no buffer.
use Rattle.std.specs.Prelude.{ℕ, ◌≡◌, List, [], leb, Ok, Err}
use Rattle.words.specs.Over.{over}
use Rattle.answers.specs.declared.Kind.TheVariants.{Room}
use Rattle.answers.specs.declared.Refusal.{Refusal}
use Rattle.answers.specs.Results.{Outcome}
use Rattle.answers.specs.Paper.{refused_at}
use Rattle.text.specs.Number.{width_of}
use Rattle.text.specs.Lines.{line_start}
use Rattle.event_log.specs.Read.{bytes_in, log_read}
use Rattle.answers.specs.Chain.{and_then, unless}
use Rattle.course.specs.Course.{Course, course_of, verdict_bytes}
use Rattle.opened.specs.declared.Opened.{Opened}
use Rattle.opened.specs.Opened.{fair_in, label_in, next_in, opened_of}
use Rattle.controller.specs.declared.LogEnd.{LogEnd}
use Rattle.controller.specs.declared.LogAnswer.{LogAnswer}
use Rattle.controller.specs.declared.LogAnswer.TheVariants.{Watched, Stopped, Refused}

-- the answer, and the verdict bytes that are written from the buffer's first byte on
pub record Heard : Type 0 where
  pub answer : LogAnswer
  pub bytes : List ℕ

-- the log's form (12), and then the room for a byte for each of its lines (11)
unfoldable pub log_checked : ℕ → List ℕ → ℕ → Outcome
log_checked props log room = let read = log_read (width_of props) log in and_then read.outcome (unless (leb read.lines room) Room)

-- the log's lines, from what was opened on
abbrev pub course_from : Opened → List ℕ → Course
course_from o log = course_of o.table.plant (fair_in o.table) (label_in o.table) (next_in o.table) o.rule o.live o.monitor log

-- how many events there were; or why the next one is refused, at the offset of its line, and how many were taken before it
abbrev pub end_at : ℕ → Outcome → ℕ → LogAnswer
end_at offset (Ok _) done = Watched (record { count = done })
end_at offset (Err r) done = Stopped (record { refusal = refused_at r.kind offset; event = done })

-- how a course ends whose lines have so many bytes each, and the bytes of its verdicts
abbrev pub heard_by : ℕ → Course → Heard
heard_by bytes c = record { answer = end_at (line_start bytes c.went.done) c.went.outcome c.went.done; bytes = verdict_bytes c.lamps }

-- behind the checks: a refusal writes nothing
abbrev pub heard_in : Outcome → Opened → List ℕ → Heard
heard_in (Ok _) o log = heard_by (bytes_in (width_of o.table.plant.props) log) (course_from o log)
heard_in (Err r) o log = record { answer = Refused r; bytes = [] }

-- the table's and the rule's checks come first
abbrev pub heard_from : Opened → List ℕ → ℕ → Heard
heard_from o log room = heard_in (and_then o.outcome (log_checked o.table.plant.props log room)) o log

-- the texts of a table, a rule and a log, and a buffer of so many bytes
unfoldable pub heard_of : List ℕ → List ℕ → List ℕ → ℕ → Heard
heard_of table rule log room = heard_from (opened_of table rule) log room

-- what a call says of it: its answer, and what the buffer then holds
pub record Says (h : Heard) (before now : List ℕ) (r : LogAnswer) : Type 0 where
  pub answer : r ≡ h.answer
  pub bytes : now ≡ over h.bytes before

-- ---- where it ends

-- before the first line: the monitor is as it was opened
abbrev pub end_refused : Opened → Refusal → LogEnd
end_refused o r = record { answer = Refused r; table = o.table; rule = o.rule; last = o.monitor }

-- by a course: the answer is the one that is heard, and the monitor is behind the last event taken
abbrev pub end_by : Opened → ℕ → Course → LogEnd
end_by o bytes c = record { answer = (heard_by bytes c).answer; table = o.table; rule = o.rule; last = c.went.monitor }

-- behind the checks
abbrev pub end_in : Outcome → Opened → List ℕ → LogEnd
end_in (Ok _) o log = end_by o (bytes_in (width_of o.table.plant.props) log) (course_from o log)
end_in (Err r) o log = end_refused o r

abbrev pub end_from : Opened → List ℕ → LogEnd
end_from o log = end_in (and_then o.outcome (log_read (width_of o.table.plant.props) log).outcome) o log

-- the texts of a table, a rule and a log
unfoldable pub end_of : List ℕ → List ℕ → List ℕ → LogEnd
end_of table rule log = end_from (opened_of table rule) log

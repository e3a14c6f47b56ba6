-- THE PROGRAM'S WHOLE OUTPUT, as a text of the three texts that it is given, in the order of 01, Log and program. It stops at the first refusal.
use Rattle.std.specs.Prelude.{ℕ, Bool, true, false, List, [], ◌++◌, get_or, take, Ok, Err}
use Rattle.answers.specs.declared.Kind.TheVariants.{File as FileKind}
use Rattle.answers.specs.Results.{Answer}
use Rattle.answers.specs.Results.{Outcome}
use Rattle.answers.specs.Paper.{refused_at}
use Rattle.plant.specs.declared.Plant.{Plant}
use Rattle.plant.specs.declared.Table.{Table}
use Rattle.plant.specs.declared.TableRead.{TableRead}
use Rattle.plant.specs.Read.{table_read, refused_read}
use Rattle.syntax.specs.declared.Rule.{Rule}
use Rattle.rule_text.specs.declared.RuleRead.{RuleRead}
use Rattle.rule_text.specs.Reading.{no_rule, rule_read}
use Rattle.text.specs.Number.{width_of}
use Rattle.text.specs.Lines.{line_start}
use Rattle.event_log.specs.Read.{bytes_in, log_read}
use Rattle.live.specs.Prepare.{prepared_of}
use Rattle.monitor.specs.Calls.{open_call}
use Rattle.course.specs.Course.{Course, course_of}
use Rattle.report.specs.Text.{refused_text, start_text}
use Rattle.transcript.specs.End.{end_of}
use Rattle.transcript.specs.Place.{placed_at}
use Rattle.lamp_lines.specs.Lines.{lines_text}

-- a file: its bytes; or it is missing, as one is that can't be read or is too long
pub data File : Type 0 where
  bytes : List ℕ → File
  missing : File

abbrev pub file_of : Bool → List ℕ → File
file_of true text = bytes text
file_of false text = missing

abbrev pub bytes_of : File → List ℕ
bytes_of (bytes text) = text
bytes_of missing = []

-- what is read of each
abbrev pub plant_read : File → TableRead
plant_read (bytes text) = table_read text
plant_read missing = refused_read (refused_at FileKind 0)

-- one final LF of the rule is dropped
abbrev pub rule_given : Plant → List ℕ → List ℕ → List ℕ → File → RuleRead
rule_given p fair label next (bytes text) = rule_read p fair label next (take (end_of text) text)
rule_given p fair label next missing = no_rule FileKind 0

-- a log's lines are as wide as the table's propositions ask for
abbrev pub log_outcome : ℕ → File → Outcome
log_outcome props (bytes text) = (log_read (width_of props) text).outcome
log_outcome props missing = Err (refused_at FileKind 0)

-- a refusal is the last line
abbrev pub or_refused : Outcome → List ℕ → List ℕ
or_refused (Ok _) text = text
or_refused (Err r) text = refused_text r

-- behind the last line: nothing, or the refusal of an event at its line's offset
abbrev pub stop_text : Outcome → ℕ → List ℕ
stop_text (Ok _) offset = []
stop_text (Err r) offset = refused_text (placed_at r offset)

-- the lamps of the log's lines, each of so many bytes, and then the event behind those taken
abbrev pub behind_text : ℕ → Course → List ℕ
behind_text wide c = lines_text (λ k. get_or c.numbers k 0) c.lamps ++ stop_text c.went.outcome (line_start wide c.went.done)

-- and before them the lamp at the start
abbrev pub opened_text : ℕ → Answer → Course → List ℕ
opened_text wide (Ok l) c = start_text l ++ behind_text wide c
opened_text wide (Err r) c = refused_text r

module _ (p : Plant) (fair label next : List ℕ) where
  -- from the start to the log's end: the calls, one after the other
  unfoldable pub played_text : Rule → List ℕ → List ℕ
  played_text rule log =
      let prepared = prepared_of p fair label next rule in
      let opened = open_call p fair label next rule prepared.live in
      or_refused prepared.outcome (opened_text (bytes_in (width_of p.props) log) opened.answer (course_of p fair label next rule prepared.live opened.monitor log))

  -- the form of a log is checked before any lamp is shown
  abbrev pub log_text : Rule → File → List ℕ
  log_text rule log = or_refused (log_outcome p.props log) (played_text rule (bytes_of log))

  unfoldable pub rule_text : File → File → List ℕ
  rule_text rule log = let read = rule_given p fair label next rule in or_refused read.outcome (log_text read.rule log)

-- a table lends as many of its parts as it counts
abbrev pub table_text : Table → File → File → List ℕ
table_text t rule log =
    rule_text t.plant (take t.plant.just t.fair) (take t.plant.states t.label) (take t.plant.states t.next) rule log

-- plant.txt, rule.txt, log.txt
unfoldable pub output_of : File → File → File → List ℕ
output_of plant rule log = let read = plant_read plant in or_refused read.outcome (table_text read.table rule log)

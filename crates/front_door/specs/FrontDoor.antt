-- THE FRONT DOOR: what the program writes, from the bytes of plant.txt, rule.txt and log.txt to the lamps. Two claims stand at the end. FromTexts proves them, as `front_door_lem` and
-- `every_output`; this page has no proof, so what it takes from other files is what must be believed.
-- Read beside it: meaning/specs (rules, runs, events, verdicts); the forms of the texts, `table_text` (plant/specs/Written), `SaidBy` (syntax/specs/Grammar) and `log_text` (event_log/specs/Promises);
-- `small_of` (text/specs/Written), which makes the digits of a text small; and the lines, `start_text`, `lamp_text` and `refused_text` (report/specs/Text).
-- `output_of` is by its contract what `write_output` (transcript/src) puts into the buffer that the program writes out.
use Rattle.std.specs.Prelude.{ℕ, suc, ◌≤◌, ◌<◌, ◌≡◌, ◌⊎◌, List, [], ◌++◌, length, get_or, take, Ok}
use Rattle.meaning.specs.Formula.{Formula, size, parts}
use Rattle.meaning.specs.Run.{Plant}
use Rattle.meaning.specs.Event.{since}
use Rattle.meaning.specs.Limits.{AcceptedTable, Legal, most_nodes, most_parts}
use Rattle.text.specs.Number.{width_of}
use Rattle.text.specs.Written.{small_of}
use Rattle.text.specs.Lines.{line_start}
use Rattle.text.specs.FirstLine.{first_of}
use Rattle.answers.specs.declared.Kind.{Kind}
use Rattle.answers.specs.declared.Kind.TheVariants.{Bits, TableText, LogText, IllegalEvent, File as FileKind, Number as NumberKind}
use Rattle.answers.specs.declared.Lamp.{Lamp}
use Rattle.answers.specs.Paper.{refused_at}
use Rattle.plant.specs.Table.{BitBeyond}
use Rattle.plant.specs.Read.{counts_in}
use Rattle.plant.specs.Written.{WellFormed, table_slots, table_text}
use Rattle.syntax.specs.Grammar.{longest_rule, SaidBy}
use Rattle.syntax.specs.Print.{Below}
use Rattle.rule_text.specs.Paper.{Because}
use Rattle.event_log.specs.declared.Event.{Event}
use Rattle.event_log.specs.Legal.{seen_of}
use Rattle.event_log.specs.Line.{line_bytes}
use Rattle.event_log.specs.Log.{nothing, gives}
use Rattle.event_log.specs.Promises.{AllWritable, log_slots, log_text}
use Rattle.watching.specs.Filled.{filled, number_at, InTurnAt}
use Rattle.report.specs.Text.{start_text, refused_text, lf}
use Rattle.transcript.specs.End.{end_of}
use Rattle.lamp_lines.specs.Lines.{dark, lines_text}
use Rattle.transcript.specs.Said.{File, bytes, missing, output_of}
use Rattle.promises.specs.Demand.{Lit}

-- ---- what the three files say

-- plant.txt says the table t: its text is, the digits made small, the one written for t
pub record SaysTable (plant : File) (t : Plant) : Type 0 where
  pub text : List ℕ
  pub is : plant ≡ bytes text
  pub said : small_of (table_slots t) text ≡ table_text t

-- rule.txt says the rule f, within the limits and of propositions below q; one LF may stand behind it
pub record SaysRule (rule : File) (q : ℕ) (f : Formula) : Type 0 where
  pub text : List ℕ
  pub is : (rule ≡ bytes text) ⊎ (rule ≡ bytes (text ++ lf))
  pub said : SaidBy f text
  pub short : length text ≤ longest_rule
  pub below : Below q f
  pub small : size f ≤ most_nodes
  pub few : parts f ≤ most_parts

-- log.txt says the events es, in lines for q propositions: its text is, the digits made small, the one written for them
pub record SaysLog (log : File) (q : ℕ) (es : List Event) : Type 0 where
  pub text : List ℕ
  pub is : log ≡ bytes text
  pub said : small_of (log_slots (width_of q) es) text ≡ log_text (width_of q) es
  pub writable : AllWritable (width_of q) es

-- ---- where a text that says nothing is refused

-- the texts of tables, of which each is, the digits made small, the one written for a table; and those of logs for q propositions
abbrev pub IsTable : List ℕ → Type 0
IsTable s = (t : Plant) × WellFormed t × (small_of (table_slots t) s ≡ table_text t)

abbrev pub IsLog : ℕ → List ℕ → Type 0
IsLog q s = (es : List Event) × AllWritable (width_of q) es × (small_of (log_slots (width_of q) es) s ≡ log_text (width_of q) es)

-- p begins a text of that kind
abbrev pub Begins : (List ℕ → Type 0) → List ℕ → Type 0
Begins Of p = (rest : List ℕ) × Of (p ++ rest)

-- s is none: what stands before place i begins one, and with the byte there it no longer does, or there is no byte
pub record StopsAt (Of : List ℕ → Type 0) (s : List ℕ) (i : ℕ) : Type 0 where
  pub outside : Of s → ⊥
  pub before : Begins Of (take i s)
  pub here : (i ≡ length s) ⊎ ((i < length s) × (Begins Of (take (suc i) s) → ⊥))

-- ---- what is shown of them

-- event n is legal, and its number in turn: 10 and 16 accept it
abbrev pub LegalAt : Plant → List Event → ℕ → Type 0
LegalAt t es n = Legal t (seen_of (get_or es n nothing))

abbrev pub TakenAt : Plant → List Event → ℕ → Type 0
TakenAt t es n = LegalAt t es n × InTurnAt es n

-- the lamp is right behind these events, with the unseen ones put in: its verdict is what the runs of t dictate for f, and `left` counts the states in which
-- an agreeing run can now be
abbrev pub RightAfter : Plant → Formula → List Event → Lamp → Type 0
RightAfter t f es lamp = Lit t f (since (filled es)) (Ok lamp)

-- `refused=N place=P`
abbrev pub refused : Kind → ℕ → List ℕ
refused kind place = refused_text (refused_at kind place)

-- where line k of a log begins: its lines have numbers if its first event does
abbrev pub line_of : Plant → List Event → ℕ → ℕ
line_of t es k = line_start (line_bytes (first_of gives es) (width_of t.props)) k

-- where the lamps end, and with what: all events are accepted, and there is nothing more; or event k is the first that is not, and is refused at the offset of its line,
-- by 10 where it is not legal, and else by 16
pub data Ends (t : Plant) (es : List Event) : ℕ → List ℕ → Type 0 where
  at_end_lem : ((n : ℕ) → n < length es → TakenAt t es n) → Ends t es (length es) []
  at_event : (k : ℕ) → k < length es → ((n : ℕ) → n < k → TakenAt t es n) → (LegalAt t es k → ⊥) → Ends t es k (refused IllegalEvent (line_of t es k))
  at_number : (k : ℕ) → k < length es → ((n : ℕ) → n < k → TakenAt t es n) → LegalAt t es k → (InTurnAt es k → ⊥) → Ends t es k (refused NumberKind (line_of t es k))

-- the output: the start, a line for each lamp, the end. The start is right for no events, and line n, which shows the number of event n, for the events 0 to n
pub record Shows (t : Plant) (f : Formula) (es : List Event) (output : List ℕ) : Type 0 where
  pub start : Lamp
  pub lamps : List Lamp
  pub end : List ℕ
  pub is : output ≡ start_text start ++ (lines_text (number_at es) lamps ++ end)
  pub start_right : RightAfter t f [] start
  pub line_right : (n : ℕ) → n < length lamps → RightAfter t f (take (suc n) es) (get_or lamps n dark)
  pub ends : Ends t es (length lamps) end

-- ---- what any files give: the checks, in their order; a refusal is the whole output

-- log.txt, behind a table and a rule: the lamps, or no file (14), or no log (12)
pub data OfLog (t : Plant) (f : Formula) (log : File) (output : List ℕ) : Type 0 where
  lamps : (es : List Event) → SaysLog log t.props es → Shows t f es output → OfLog t f log output
  no_log : log ≡ missing → output ≡ refused FileKind 0 → OfLog t f log output
  log_refused : (text : List ℕ) (i : ℕ) → log ≡ bytes text → StopsAt (IsLog t.props) text i → output ≡ refused LogText i → OfLog t f log output

-- rule.txt, behind a table: a rule, or no file (14), or one of the reasons for 4 to 8, of the text with one final LF dropped
pub data OfRule (t : Plant) (rule log : File) (output : List ℕ) : Type 0 where
  rule_said : (f : Formula) → SaysRule rule t.props f → OfLog t f log output → OfRule t rule log output
  no_rule_lem : rule ≡ missing → output ≡ refused FileKind 0 → OfRule t rule log output
  rule_refused : (text : List ℕ) (kind : Kind) (i : ℕ) → rule ≡ bytes text → Because (counts_in t) t.fair t.label t.next (take (end_of text) text) kind i
      → output ≡ refused kind i → OfRule t rule log output

-- plant.txt: a table that is accepted, or no file (14), or no table (3), or a bit beyond the counts (2)
pub data Output (plant rule log : File) (output : List ℕ) : Type 0 where
  table_said : (t : Plant) → SaysTable plant t → AcceptedTable t → OfRule t rule log output → Output plant rule log output
  no_plant : plant ≡ missing → output ≡ refused FileKind 0 → Output plant rule log output
  table_refused : (text : List ℕ) (i : ℕ) → plant ≡ bytes text → StopsAt IsTable text i → output ≡ refused TableText i → Output plant rule log output
  bit_beyond : (t : Plant) → SaysTable plant t → WellFormed t → BitBeyond (counts_in t) t.fair t.label t.next → output ≡ refused Bits 0 → Output plant rule log output

-- ---- the claims

-- files that say an accepted table, a rule and events: the lamps are right, line by line
abbrev pub FrontDoor : Type 0
FrontDoor = (plant rule log : File) (t : Plant) (f : Formula) (es : List Event) → SaysTable plant t → AcceptedTable t → SaysRule rule t.props f → SaysLog log t.props es → Shows t f es (output_of plant rule log)

-- any files at all: the output is one of these
abbrev pub EveryOutput : Type 0
EveryOutput = (plant rule log : File) → Output plant rule log (output_of plant rule log)

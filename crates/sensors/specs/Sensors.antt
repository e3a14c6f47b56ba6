-- A BETTER SENSOR NEVER HURTS (02, m), and neither does a table with fewer starts and moves. Six claims stand at the end: on the calls, on the bytes of a whole log, and on the lines of
-- the program. Better proves them; this page has no proof, so what it takes from other files is what must be believed. Needed (sensors_needed/specs) shows that no hypothesis can be left out.
-- Read beside it: `Narrower` (theory/specs/Narrow), which says what a lamp may change to; `number_at` (watching/specs/Filled), the number that an event takes; `after` (watching/specs/Watching),
-- what the calls give, event after event; WholeLog and FrontDoor (front_door/specs) for texts.
use Rattle.std.specs.Prelude.{ℕ, suc, ◌≤◌, ◌<◌, ◌≡◌, List, length, get_or, take, Ok}
use Rattle.std.proofs.Math.Bool.{So}
use Rattle.meaning.specs.Bit.{bit}
use Rattle.meaning.specs.Formula.{Formula}
use Rattle.meaning.specs.Run as run
use Rattle.meaning.specs.Run.{next_of}
use Rattle.meaning.specs.Limits.{AcceptedTable}
use Rattle.theory.specs.Narrow.{Narrower}
use Rattle.answers.specs.declared.Lamp.{Lamp}
use Rattle.answers.specs.Results.{Answer}
use Rattle.answers.specs.Paper.{number_of}
use Rattle.plant.specs.declared.Plant.{Plant}
use Rattle.plant.specs.Table.{plant_of}
use Rattle.syntax.specs.declared.Rule.{Rule}
use Rattle.event_log.specs.declared.Event.{Event}
use Rattle.event_log.specs.Log.{nothing}
use Rattle.checks.specs.Input.{Input}
use Rattle.watching.specs.Filled.{number_at}
use Rattle.watching.specs.Watching.{after}
use Rattle.lamp_lines.specs.Lines.{dark}
use Rattle.transcript.specs.Said.{File, bytes, output_of}
use Rattle.front_door.specs.FrontDoor.{SaysTable, SaysLog, TakenAt, Shows}
use Rattle.front_door.specs.WholeLog.{SaysBare, buffer_of}

-- ---- two logs

-- event n of a log
abbrev pub event_at : List Event → ℕ → Event
event_at es n = get_or es n nothing

-- the second event sees no less than the first, and nothing otherwise
abbrev pub SeesAll : Event → Event → Type 0
SeesAll e e' = (q : ℕ) → So (bit e.see q) → So (bit e'.see q) × (bit e.val q ≡ bit e'.val q)

-- the second log is of a better sensor: it is as long, and event by event it has the same number and the same restart flag, and sees all that the first sees
pub record Better (es es' : List Event) : Type 0 where
  pub long : length es ≡ length es'
  pub numbers : (n : ℕ) → n < length es → number_at es n ≡ number_at es' n
  pub restarts : (n : ℕ) → n < length es → (event_at es n).new ≡ (event_at es' n).new
  pub sees : (n : ℕ) → n < length es → SeesAll (event_at es n) (event_at es' n)

-- every event is accepted: it is legal, and its number in turn
abbrev pub AcceptedLog : run.Plant → List Event → Type 0
AcceptedLog t es = (n : ℕ) → n < length es → TakenAt t es n

-- ---- two tables

-- the second table has no starting state and no move that the first has not; the counts, the labels and the fairness sets are the same
pub record Smaller (t t' : run.Plant) : Type 0 where
  pub props : t.props ≡ t'.props
  pub states : t.states ≡ t'.states
  pub start : (s : ℕ) → So (bit t'.start s) → So (bit t.start s)
  pub next : (s s' : ℕ) → So (bit (next_of t' s) s') → So (bit (next_of t s) s')
  pub labels : t.label ≡ t'.label
  pub fairs : t.fair ≡ t'.fair

-- ---- two lamps

-- the second says at least as much: true stays true or is out-of-model, false likewise, and out-of-model stays; and no more states are left
pub record AsMuch (l l' : Lamp) : Type 0 where
  pub verdict : Narrower (number_of l.verdict) (number_of l'.verdict)
  pub left : l'.left ≤ l.left

-- two calls show a lamp each, and the second says at least as much
pub record NoWorse (a a' : Answer) : Type 0 where
  pub first : Lamp
  pub second : Lamp
  pub shown : a ≡ Ok first
  pub shown' : a' ≡ Ok second
  pub as_much : AsMuch first second

-- ---- THE CLAIMS on the calls, with a table lent in its parts

pub record Lent : Type 0 where
  pub counts : Plant
  pub fair : List ℕ
  pub label : List ℕ
  pub next : List ℕ

module _ (x : Lent) where
  abbrev pub table_of : run.Plant
  table_of = plant_of x.counts x.fair x.label x.next

  -- the table and the rule are accepted
  abbrev pub AcceptedWith : Rule → Type 0
  AcceptedWith rule = Input x.counts x.fair x.label x.next rule

  -- what `step` answers to event n, behind those before it
  abbrev pub answer_at : Rule → List Event → ℕ → Answer
  answer_at rule es n = (after x.counts x.fair x.label x.next rule (take (suc n) es)).answer

-- a better sensor: at each event the lamp says at least as much
abbrev pub BetterSensor : Type 0
BetterSensor = (x : Lent) (rule : Rule) → AcceptedWith x rule → (es es' : List Event) → AcceptedLog (table_of x) es → AcceptedLog (table_of x) es' → Better es es'
    → (n : ℕ) → n < length es → NoWorse (answer_at x rule es n) (answer_at x rule es' n)

-- and so with a smaller table and the same log, of which the second table accepts what the first does
abbrev pub SmallerTable : Type 0
SmallerTable = (x x' : Lent) (rule : Rule) → AcceptedWith x rule → AcceptedWith x' rule → Smaller (table_of x) (table_of x') → (es : List Event) → AcceptedLog (table_of x) es
    → (n : ℕ) → n < length es → NoWorse (answer_at x rule es n) (answer_at x' rule es n)

-- ---- THE CLAIMS on the bytes of a whole log: byte n, where each buffer has a byte for each event

abbrev pub byte_at : List ℕ → List ℕ → List ℕ → List ℕ → ℕ → ℕ
byte_at table rule log before n = get_or (buffer_of table rule log before) n 0

abbrev pub BetterBytes : Type 0
BetterBytes = (table rule log log' before before' : List ℕ) (t : run.Plant) (f : Formula) (es es' : List Event)
    → SaysTable (bytes table) t → AcceptedTable t → SaysBare rule t.props f → SaysLog (bytes log) t.props es → SaysLog (bytes log') t.props es'
    → length es ≤ length before → length es' ≤ length before' → AcceptedLog t es → AcceptedLog t es' → Better es es'
    → (n : ℕ) → n < length es → Narrower (byte_at table rule log before n) (byte_at table rule log' before' n)

abbrev pub SmallerBytes : Type 0
SmallerBytes = (table table' rule log before before' : List ℕ) (t t' : run.Plant) (f : Formula) (es : List Event)
    → SaysTable (bytes table) t → AcceptedTable t → SaysTable (bytes table') t' → AcceptedTable t' → Smaller t t' → SaysBare rule t.props f → SaysLog (bytes log) t.props es
    → length es ≤ length before → length es ≤ length before' → AcceptedLog t es
    → (n : ℕ) → n < length es → Narrower (byte_at table rule log before n) (byte_at table' rule log before' n)

-- ---- THE CLAIMS on the lines of the program: `Shows` says which lamps an output has

abbrev pub lamp_at : {t : run.Plant} {f : Formula} {es : List Event} {output : List ℕ} → Shows t f es output → ℕ → Lamp
lamp_at s n = get_or s.lamps n dark

abbrev pub BetterLines : Type 0
BetterLines = (plant rule log log' : File) (t : run.Plant) (f : Formula) (es es' : List Event) (s : Shows t f es (output_of plant rule log)) (s' : Shows t f es' (output_of plant rule log'))
    → AcceptedLog t es → AcceptedLog t es' → Better es es' → (n : ℕ) → n < length es → AsMuch (lamp_at s n) (lamp_at s' n)

abbrev pub SmallerLines : Type 0
SmallerLines = (plant plant' rule log : File) (t t' : run.Plant) (f : Formula) (es : List Event) (s : Shows t f es (output_of plant rule log)) (s' : Shows t' f es (output_of plant' rule log))
    → AcceptedLog t es → Smaller t t' → (n : ℕ) → n < length es → AsMuch (lamp_at s n) (lamp_at s' n)

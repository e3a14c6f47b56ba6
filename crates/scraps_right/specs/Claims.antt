-- A LOG IN SCRAPS, BESIDE THE WHOLE LOG: what `take` and `finish` (scraps/src) answer and write over all scraps of a log, however it is cut. Promises and
-- Written prove what is claimed; this page has no proof, so what it takes from other files is what must be believed.
-- `take_call`, `finish_call` (scraps/specs/Calls) and `heard_of` (controller/specs/Whole) are by the contracts of `take`, `finish` and `watch_log` what these give; `radio_after`, `said` and `text`
-- (cuttings/specs/Scraps) are the calls of `take` one after the other, the verdicts that they write, and the bytes joined.
use Rattle.std.specs.Prelude.{ℕ, ◌/◌, ◌≤◌, ◌≡◌, cond, List, [], ◌∷◌, ◌++◌, ltb, leb, length, take, replicate, Ok, Err}
use Rattle.words.specs.Over.{over}
use Rattle.pairs.specs.declared.Pairs.{Pairs}
use Rattle.answers.specs.declared.Kind.TheVariants.{Room, LogLength}
use Rattle.answers.specs.declared.Refusal.{Refusal}
use Rattle.answers.specs.Results.{Outcome}
use Rattle.answers.specs.Paper.{refused_at}
use Rattle.answers.specs.Chain.{and_then, unless}
use Rattle.plant.specs.declared.Plant.{Plant}
use Rattle.syntax.specs.declared.Rule.{Rule}
use Rattle.text.specs.Number.{width_of}
use Rattle.text.specs.Lines.{line_start}
use Rattle.event_log.specs.Read.{bytes_in, log_read, whole_lines}
use Rattle.sides.specs.declared.Monitor.{Monitor}
use Rattle.course.specs.Laid.{laid}
use Rattle.course.specs.Course.{Course, course_of, verdict_bytes, Fitting}
use Rattle.opened.specs.declared.Opened.{Opened}
use Rattle.opened.specs.Opened.{fair_in, label_in, next_in, opened_of}
use Rattle.controller.specs.declared.LogAnswer.{LogAnswer}
use Rattle.controller.specs.declared.LogAnswer.TheVariants.{Watched, Stopped, Refused}
use Rattle.controller.specs.Whole.{heard_of}
use Rattle.radio.specs.declared.Form.TheVariants.{Unknown}
use Rattle.radio.specs.declared.Radio.{Radio}
use Rattle.scraps.specs.Calls.{longest, lines_in, heard_answer, Took, take_call, finish_call}
use Rattle.cuttings.specs.Scraps.{Scrap, radio_after, said, text}

-- ---- scraps

-- before the first byte of a log
abbrev pub fresh : Monitor → Radio
fresh m = record { part = replicate 40 0; len = 0; start = 0; form = Unknown; standing = Ok tt; monitor = m }

-- each scrap has a byte in its buffer for each of its line ends
abbrev pub Roomy : List Scrap → Type 0
Roomy [] = Unit {0}
Roomy (s ∷ ss) = (lines_in s.bytes ≤ s.room) × Roomy ss

-- a refusal with which nothing is taken, and nothing written
abbrev pub nothing_taken : Refusal → Radio → Took
nothing_taken x r = record { taken = record { answer = Refused x; radio = r }; verdicts = [] }

-- ---- the lines of a log

-- what stands before the place of 12, without the line that is not whole; all where there is no 12
abbrev pub lines_to : ℕ → List ℕ → Outcome → List ℕ
lines_to n log (Ok _) = log
lines_to n log (Err r) = take (line_start n (r.place / n)) log

-- THE WHOLE LINES OF A LOG, up to the first that is refused for its form
abbrev pub lines_of : ℕ → List ℕ → List ℕ
lines_of w log = lines_to (bytes_in w log) log (log_read w log).outcome

-- the refusal of an event, at the offset of its line
abbrev pub placed_at : ℕ → Outcome → Outcome
placed_at offset (Ok _) = Ok tt
placed_at offset (Err r) = Err (refused_at r.kind offset)

-- 12 before the end of the log: only a byte is refused, and not that there are too few
abbrev pub so_far : ℕ → Outcome → Outcome
so_far long (Ok _) = Ok tt
so_far long (Err r) = cond (ltb r.place long) (Err r) (Ok tt)

module _ (p : Plant) (fair label next : List ℕ) (rule : Rule) (live : Pairs) (m : Monitor) where
  abbrev w : ℕ
  w = width_of p.props

  -- ---- the calls, from the first byte of a log on

  -- the radio behind some scraps, and all verdicts that they wrote
  abbrev pub behind : List Scrap → Radio
  behind ss = radio_after p fair label next rule live (fresh m) ss

  abbrev pub written : List Scrap → List ℕ
  written ss = said p fair label next rule live (fresh m) ss

  -- one scrap more, and what the end says
  abbrev pub one_more : List Scrap → Scrap → Took
  one_more ss s = take_call p fair label next rule live (behind ss) s.bytes s.room

  abbrev pub end_behind : List Scrap → Outcome
  end_behind ss = finish_call p fair label next rule live (behind ss)

  -- a table, a rule, a live set and a monitor that fit, and scraps that have room for their verdicts, of a log that is not too long
  pub record Given (ss : List Scrap) : Type 0 where
    pub full : length rule.nodes ≡ 32
    pub fits : Fitting p fair label next rule live m
    pub roomy : Roomy ss
    pub short : length (text ss) ≤ longest

  -- ---- the log line by line

  -- the public step, line after line
  abbrev pub course_by : List ℕ → Course
  course_by log = course_of p fair label next rule live m (lines_of w log)

  -- the first event that is refused, at the offset of its line in the whole log
  abbrev pub event_stop : List ℕ → Outcome
  event_stop log = placed_at (line_start (bytes_in w log) (course_by log).went.done) (course_by log).went.outcome

  -- what stands behind the bytes of a log: this, and else the first byte that is refused
  abbrev pub standing : List ℕ → Outcome
  standing log = and_then (event_stop log) (so_far (length log) (log_read w log).outcome)

  -- what the scraps of a log have given: a verdict for each event that was taken; the monitor behind these; the refusal that stands, placed by all bytes that came; and what the end
  -- says, where the last line may be one that is not whole
  pub record LineByLine (ss : List Scrap) : Type 0 where
    pub verdicts_are : written ss ≡ verdict_bytes (course_by (text ss)).lamps
    pub monitor_is : (behind ss).monitor ≡ (course_by (text ss)).went.monitor
    pub stands : (behind ss).standing ≡ standing (text ss)
    pub ends : end_behind ss ≡ and_then (event_stop (text ss)) (log_read w (text ss)).outcome

  -- ---- THE CLAIMS of the two calls

  abbrev pub EveryCutting : Type 0
  EveryCutting = (ss : List Scrap) → Given ss → LineByLine ss

  -- two cuttings of one log write the same verdicts, and leave the same radio
  abbrev pub TwoCuttings : Type 0
  TwoCuttings = (ss ts : List Scrap) → Given ss → Given ts → text ss ≡ text ts → (written ss ≡ written ts) × (behind ss ≡ behind ts)

  -- each scrap, where nothing was refused before it: its answer is the refusal that stands from now on, with how many verdicts it wrote before; and it wrote the verdicts of the events
  -- whose lines it ends
  abbrev pub EachScrap : Type 0
  EachScrap = (ss : List Scrap) (s : Scrap) → Given (ss ++ s ∷ []) → (behind ss).standing ≡ Ok tt
      → ((one_more ss s).taken.answer ≡ heard_answer (standing (text (ss ++ s ∷ []))) (length (one_more ss s).verdicts))
      × (verdict_bytes (course_by (text (ss ++ s ∷ []))).lamps ≡ verdict_bytes (course_by (text ss)).lamps ++ (one_more ss s).verdicts)

  -- a scrap that is refused for itself, where nothing was refused before it: 11 exactly if it has more line ends than its buffer bytes, and else 24 exactly if the log would be too long
  abbrev pub TakesNothing : Type 0
  TakesNothing = (ss : List Scrap) → Given ss → (behind ss).standing ≡ Ok tt → (s : Scrap) (x : Refusal)
      → and_then (unless (leb (lines_in s.bytes) s.room) Room) (unless (leb (length (text (ss ++ s ∷ []))) longest) LogLength) ≡ Err x → one_more ss s ≡ nothing_taken x (behind ss)

  -- what was refused once is what any scrap behind it is told, and the end too
  abbrev pub Sticks : Type 0
  Sticks = (ss : List Scrap) → Given ss → (x : Refusal) → (behind ss).standing ≡ Err x
      → ((s : Scrap) → one_more ss s ≡ nothing_taken x (behind ss)) × (end_behind ss ≡ Err x)

-- any radio, scrap and buffer: all verdicts that there are stand at the buffer's start, and its rest stays
abbrev pub AllWritten : Type 0
AllWritten = (p : Plant) (fair label next : List ℕ) (rule : Rule) (live : Pairs) (r : Radio) (scrap before : List ℕ)
    → let verdicts = (take_call p fair label next rule live r scrap (length before)).verdicts in laid verdicts before ≡ over verdicts before

-- ---- beside the whole-log call

-- the refusal of an event, and else of the form
abbrev pub stop_or : LogAnswer → Outcome → Outcome
stop_or (Watched n) form = form
stop_or (Stopped s) form = Err s.refusal
stop_or (Refused r) form = Err r

-- how many verdicts an answer counts
abbrev pub count_of : LogAnswer → ℕ
count_of (Watched n) = n.count
count_of (Stopped s) = s.event
count_of (Refused r) = 0

module _ (table rule : List ℕ) where
  abbrev o : Opened
  o = opened_of table rule

  abbrev W : ℕ
  W = width_of o.table.plant.props

  -- the verdicts of all scraps, from what is opened by the texts of a table and a rule, and what the end then says
  abbrev pub said_by_all : List Scrap → List ℕ
  said_by_all ss = written o.table.plant (fair_in o.table) (label_in o.table) (next_in o.table) o.rule o.live o.monitor ss

  abbrev pub end_of_all : List Scrap → Outcome
  end_of_all ss = end_behind o.table.plant (fair_in o.table) (label_in o.table) (next_in o.table) o.rule o.live o.monitor ss

  -- texts that are accepted, and scraps that have room for their verdicts, of a log that is not too long
  pub record GivenTexts (ss : List Scrap) : Type 0 where
    pub opened : (opened_of table rule).outcome ≡ Ok tt
    pub roomy : Roomy ss
    pub short : length (text ss) ≤ longest

  -- ---- THE CLAIMS beside `watch_log`

  -- a log of the form, and a buffer for the whole-log call: both write the same bytes, and the end says what the whole-log call answers, with the same count
  abbrev pub AsWholeLog : Type 0
  AsWholeLog = (ss : List Scrap) → GivenTexts ss → (room : ℕ) → (log_read W (text ss)).outcome ≡ Ok tt → (log_read W (text ss)).lines ≤ room
      → heard_of table rule (text ss) room ≡ record { answer = heard_answer (end_of_all ss) (length (said_by_all ss)); bytes = said_by_all ss }

  -- a log whose form is refused: the whole-log call answers that 12 and writes nothing; the scraps wrote what it writes for the lines before, and the end says that 12, unless one of
  -- their events is refused
  abbrev pub AsLinesBefore : Type 0
  AsLinesBefore = (ss : List Scrap) → GivenTexts ss → (room : ℕ) (twelve : Refusal) → (log_read W (text ss)).outcome ≡ Err twelve → whole_lines W (lines_of W (text ss)) ≤ room
      → let before = heard_of table rule (lines_of W (text ss)) room in
      (heard_of table rule (text ss) room ≡ record { answer = Refused twelve; bytes = [] })
      × (said_by_all ss ≡ before.bytes) × (length (said_by_all ss) ≡ count_of before.answer) × (end_of_all ss ≡ stop_or before.answer (Err twelve))

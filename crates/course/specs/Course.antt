-- A log, line by line from a monitor on: what the calls give, one step after the other, up to the first event that is refused.
use Rattle.std.specs.Prelude.{ℕ, zero, suc, ◌%◌, ◌≡◌, List, [], ◌∷◌, ◌++◌, map, Ok, Err}
use Rattle.pairs.specs.declared.Pairs.{Pairs}
use Rattle.model.specs.Sets.{PairSet}
use Rattle.answers.specs.declared.Lamp.{Lamp}
use Rattle.answers.specs.Results.{Answer}
use Rattle.answers.specs.Results.{Outcome}
use Rattle.answers.specs.Paper.{number_of}
use Rattle.plant.specs.declared.Plant.{Plant}
use Rattle.syntax.specs.declared.Rule.{Rule}
use Rattle.event_log.specs.declared.Event.{Event}
use Rattle.text.specs.Number.{width_of}
use Rattle.event_log.specs.Read.{event_at, whole_lines}
use Rattle.checks.specs.Checks.{input_outcome}
use Rattle.ways.specs.declared.Ways.{Ways}
use Rattle.sides.specs.declared.Monitor.{Monitor}
use Rattle.sides.specs.Held.{model_of, lamp_in}
use Rattle.event_numbers.specs.Numbers as numbers
use Rattle.event_numbers.specs.Numbers.{event_outcome}
use Rattle.sides.specs.Sides.{taken_in}
use Rattle.monitor.specs.declared.Watched.{Watched}
use Rattle.monitor.specs.Calls.{step_call}
use Rattle.watching.specs.Watching.{T, f, Held}
use Rattle.course.specs.declared.Went.{Went}
use Rattle.course.specs.Laid.{laid}

-- where the log went, and the lamp and the number of each event taken
pub record Course : Type 0 where
  pub went : Went
  pub lamps : List Lamp
  pub numbers : List ℕ

-- one event taken, or refused; behind a refusal nothing more happens
abbrev pub takes : Course → ℕ → Watched → Answer → Course
takes c n w (Ok l) = record { went = record { outcome = Ok tt; done = suc c.went.done; monitor = w.monitor }; lamps = c.lamps ++ l ∷ []; numbers = c.numbers ++ n ∷ [] }
takes c n w (Err r) = record { went = record { outcome = Err r; done = c.went.done; monitor = w.monitor }; lamps = c.lamps; numbers = c.numbers }

-- the number that an event takes
abbrev pub number_in : Monitor → Event → ℕ
number_in m e = numbers.number_of e.num m.expected

abbrev pub go_on : (Monitor → Event → Watched) → Course → Event → Outcome → Course
go_on step c e (Ok _) = takes c (number_in c.went.monitor e) (step c.went.monitor e) (step c.went.monitor e).answer
go_on step c e (Err r) = c

-- n events from a monitor on, by what a step gives
unfoldable pub course_to : (Monitor → Event → Watched) → Monitor → (ℕ → Event) → ℕ → Course
course_to step m event zero = record { went = record { outcome = Ok tt; done = 0; monitor = m }; lamps = []; numbers = [] }
course_to step m event (suc n) = go_on step (course_to step m event n) (event n) (course_to step m event n).went.outcome

-- THE COURSE OF A LOG: the public step, line after line, each as wide as the table's propositions ask for
abbrev pub course_of : Plant → List ℕ → List ℕ → List ℕ → Rule → Pairs → Monitor → List ℕ → Course
course_of p fair label next rule live m text = course_to (step_call p fair label next rule live) m (event_at (width_of p.props) text) (whole_lines (width_of p.props) text)

-- the bytes of the verdicts' numbers, and of `left`
abbrev pub verdict_bytes : List Lamp → List ℕ
verdict_bytes ls = map (λ (l : Lamp). number_of l.verdict) ls

abbrev pub left_bytes : List Lamp → List ℕ
left_bytes ls = map (λ (l : Lamp). l.left % 256) ls

-- what a call says of a course: where it went, and what the three buffers then hold
pub record Followed (c : Course) (verdicts₀ lefts₀ numbers₀ verdicts lefts numbers : List ℕ) (r : Went) : Type 0 where
  pub went : r ≡ c.went
  pub verdicts_are : verdicts ≡ laid (verdict_bytes c.lamps) verdicts₀
  pub lefts_are : lefts ≡ laid (left_bytes c.lamps) lefts₀
  pub numbers_are : numbers ≡ laid c.numbers numbers₀

-- a table and a rule that are accepted, and a live set and a monitor of theirs
pub record Fitting (p : Plant) (fair label next : List ℕ) (rule : Rule) (live : Pairs) (m : Monitor) : Type 0 where
  pub input : input_outcome p fair label next rule ≡ Ok tt
  pub lives : PairSet (T p fair label next rule) (f p fair label next rule) live.words
  pub held : Held p fair label next rule m

-- ---- as the code goes

-- a step with all that a rule says lent, and no check but those of the event
abbrev pub turn_of : Outcome → Monitor → Monitor → Watched
turn_of (Ok _) old new = record { answer = Ok (lamp_in (model_of new)); monitor = new }
turn_of (Err r) old new = record { answer = Err r; monitor = old }

abbrev pub turn : Plant → List ℕ → List ℕ → Ways → Pairs → Monitor → Event → Watched
turn p label next w live m e = turn_of (event_outcome e p.props m.seen m.expected) m (taken_in label next w live.words m e)

abbrev pub course_in : Plant → List ℕ → List ℕ → Ways → Pairs → Monitor → List ℕ → Course
course_in p label next w live m text = course_to (turn p label next w live) m (event_at (width_of p.props) text) (whole_lines (width_of p.props) text)

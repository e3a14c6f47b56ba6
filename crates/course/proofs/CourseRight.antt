-- The course by what a rule says is the course by the calls; and what callers ask of a course.
use Prim.Native.Nat.{ℕ, zero, suc, ◌+◌}
use Rattle.std.proofs.Math.Nat.{zero-add, suc-add}
use Rattle.std.specs.Prelude.{◌≡◌, List, length, Ok, Err}
use Rattle.std.proofs.Math.Path.{refl, ap}
use Rattle.std.proofs.Common.{sym, subst, ◌∙◌}
use Rattle.pairs.specs.declared.Pairs.{Pairs}
use Rattle.model.specs.Sets.{PairSet}
use Rattle.model.specs.Monitor as model
use Rattle.answers.specs.declared.Refusal.{Refusal}
use Rattle.answers.specs.Results.{Answer}
use Rattle.answers.specs.Results.{Outcome}
use Rattle.plant.specs.declared.Plant.{Plant}
use Rattle.syntax.specs.declared.Rule.{Rule}
use Rattle.event_log.specs.declared.Event.{Event}
use Rattle.text.specs.Number.{width_of}
use Rattle.event_log.specs.Read.{event_at, whole_lines}
use Rattle.checks.specs.Input.{Input, input_accepted}
use Rattle.checks.proofs.Given.{right, ready}
use Rattle.truth.specs.Ready.{Ready}
use Rattle.ways.specs.declared.Ways.{Ways}
use Rattle.ways.specs.Ways.{ways_of}
use Rattle.sides.specs.declared.Monitor.{Monitor}
use Rattle.sides.specs.Held.{model_of, monitor_of}
use Rattle.event_numbers.specs.Numbers.{event_outcome}
use Rattle.sides.specs.Sides.{taken_in}
use Rattle.sides.proofs.SidesRight.{taken_right}
use Rattle.monitor.specs.declared.Watched.{Watched}
use Rattle.monitor.specs.Calls.{watched, open_call, step_call}
use Rattle.watching.specs.Watching.{T, f, Held, brought, live, live_fits, checks_pass, stays_held, open_held, full}
use Rattle.course.specs.declared.Went.{Went}
use Rattle.course.specs.Course.{Course, takes, number_in, go_on, course_to, course_of, turn_of, turn, course_in, Followed, Fitting}

-- ---- whatever a step is

-- an answer tells nothing of the monitor
takes_monitor : (c : Course) (n : ℕ) (w : Watched) (a : Answer) → (takes c n w a).went.monitor ≡ w.monitor
takes_monitor c n w (Ok l) = refl
takes_monitor c n w (Err r) = refl

module _ (step : Monitor → Event → Watched) (m : Monitor) (event : ℕ → Event) where
  -- behind a refusal nothing more happens
  pub stays : (n k : ℕ) {r : Refusal} → (course_to step m event n).went.outcome ≡ Err r → course_to step m event (k + n) ≡ course_to step m event n
  unfolding course_to
  stays n zero e = rw zero-add refl
  stays n (suc k) e =
      rw suc-add (ap (λ (c : Course). go_on step c (event (k + n)) c.went.outcome) (stays n k e) ∙ ap (go_on step (course_to step m event n) (event (k + n))) e)

-- ---- the calls

module _ (p : Plant) (fair label next : List ℕ) (rule : Rule) (given : Input p fair label next rule) (live : Pairs)
    (fits : PairSet (T p fair label next rule) (f p fair label next rule) live.words) where
  abbrev calls : Monitor → Event → Watched
  calls = step_call p fair label next rule live

  -- a turn of the loop is the public step
  pub turn_is : (m : Monitor) → Held p fair label next rule m → (e : Event) → turn p label next (ways_of label rule) live m e ≡ calls m e
  turn_is m held e =
      ap (turn_of (event_outcome e p.props m.seen m.expected) m) new ∙ shown (event_outcome e p.props m.seen m.expected) ∙ sym (checks_pass p fair label next rule given live fits m held e)
    where
      after : model.Monitor
      after = brought p fair label next rule live.words (model_of m) m.expected e

      new : taken_in label next (ways_of label rule) live.words m e ≡ monitor_of (number_in m e + 1) after
      new = taken_right (T p fair label next rule) (f p fair label next rule) given.table given.few rule (right given) live.words fits m held.sets e

      shown : (o : Outcome) → turn_of o m (monitor_of (number_in m e + 1) after) ≡ watched o m (number_in m e + 1) after
      shown (Ok _) = refl
      shown (Err r) = refl

  module _ (m : Monitor) (held : Held p fair label next rule m) (event : ℕ → Event) where
    -- the monitor stays one of the table and the rule
    pub held_at : (n : ℕ) → Held p fair label next rule (course_to calls m event n).went.monitor
    unfolding course_to
    held_at zero = held
    held_at (suc n) = by (course_to calls m event n) (held_at n) (course_to calls m event n).went.outcome
      where
        by : (c : Course) → Held p fair label next rule c.went.monitor → (o : Outcome) → Held p fair label next rule (go_on calls c (event n) o).went.monitor
        by c h (Ok _) = rw takes_monitor (stays_held p fair label next rule given live fits c.went.monitor h (event n))
        by c h (Err r) = h

    -- so the two courses are one
    pub as_called : (n : ℕ) → course_to (turn p label next (ways_of label rule) live) m event n ≡ course_to calls m event n
    unfolding course_to
    as_called zero = refl
    as_called (suc n) =
        ap (λ (c : Course). go_on (turn p label next (ways_of label rule) live) c (event n) c.went.outcome) (as_called n)
        ∙ by (course_to calls m event n) (held_at n) (course_to calls m event n).went.outcome
      where
        by : (c : Course) → Held p fair label next rule c.went.monitor → (o : Outcome)
            → go_on (turn p label next (ways_of label rule) live) c (event n) o ≡ go_on calls c (event n) o
        by c h (Ok _) = ap (λ (w : Watched). takes c (number_in c.went.monitor (event n)) w w.answer) (turn_is c.went.monitor h (event n))
        by c h (Err r) = refl

-- ---- for code: by what the rule says, which was worked out

module _ (p : Plant) (fair label next : List ℕ) (rule : Rule) (full : length rule.nodes ≡ 32) {live : Pairs} {m : Monitor} (g : Fitting p fair label next rule live m) where
  given_by : Input p fair label next rule
  given_by = (input_accepted p fair label next rule full).0 g.input

  pub fitting_ready : Ready label rule
  fitting_ready = ready given_by

  pub followed : {w : Ways} → w ≡ ways_of label rule → (text : List ℕ) {verdicts₀ lefts₀ numbers₀ verdicts lefts numbers : List ℕ} {r : Went}
      → Followed (course_in p label next w live m text) verdicts₀ lefts₀ numbers₀ verdicts lefts numbers r → Followed (course_of p fair label next rule live m text) verdicts₀ lefts₀ numbers₀ verdicts lefts numbers r
  followed e text {verdicts₀} {lefts₀} {numbers₀} {verdicts} {lefts} {numbers} {r} h =
      subst (λ (c : Course). Followed c verdicts₀ lefts₀ numbers₀ verdicts lefts numbers r) (as_called p fair label next rule given_by live g.lives m g.held (event_at (width_of p.props) text) (whole_lines (width_of p.props) text)) (rw e at h)

-- ---- for callers

-- what `prepare` and `open` give is fitting
pub opened_fitting : (p : Plant) (fair label next : List ℕ) (rule : Rule) → Input p fair label next rule
    → Fitting p fair label next rule (live p fair label next rule) (open_call p fair label next rule (live p fair label next rule)).monitor
opened_fitting p fair label next rule given = record {
  input = (input_accepted p fair label next rule (full p fair label next rule given)).1 given;
  lives = live_fits p fair label next rule given;
  held = open_held p fair label next rule given (live p fair label next rule) (live_fits p fair label next rule given);
}

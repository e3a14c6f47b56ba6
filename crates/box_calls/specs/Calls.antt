-- WHAT THE CALLS ON A BOX ANSWER: what the calls answer for what the box holds, and the box behind them.
use Rattle.std.specs.Prelude.{ℕ, Bool, List, Result, Ok, Err}
use Rattle.answers.specs.Results.{Answer}
use Rattle.answers.specs.Results.{Outcome}
use Rattle.answers.specs.declared.Lamp.{Lamp}
use Rattle.event_log.specs.declared.Event.{Event}
use Rattle.sides.specs.Held.{model_of, lamp_in}
use Rattle.monitor.specs.declared.Watched.{Watched}
use Rattle.monitor.specs.Calls.{look_call, step_call}
use Rattle.walk.specs.declared.Lengths.{Lengths}
use Rattle.answers.specs.declared.Refusal.{Refusal}
use Rattle.witness.specs.Calls.{Answered}
use Rattle.opened.specs.declared.Opened.{Opened}
use Rattle.opened.specs.Opened.{fair_in, label_in, next_in}
use Rattle.slate.specs.declared.Held.{Held}
use Rattle.slate.specs.Box.{stored_of, with_monitor}

-- what the lamp shows where texts were opened
abbrev pub shown_or : Outcome → Lamp → Answer
shown_or (Ok _) l = Ok l
shown_or (Err r) l = Err r

abbrev pub opened_shown : Opened → Answer
opened_shown o = shown_or o.outcome (lamp_in (model_of o.monitor))

-- what was opened is held; where a text is refused the box stays as it was
abbrev pub held_of : Opened → Held
held_of o = record { table = o.table; rule = o.rule; live = o.live; monitor = o.monitor }

abbrev pub or_old : Outcome → List ℕ → List ℕ → List ℕ
or_old (Ok _) new old = new
or_old (Err r) new old = old

abbrev pub box_opened : List ℕ → Opened → List ℕ
box_opened w o = or_old o.outcome (stored_of (held_of o)) w

unfoldable pub looked_in : Held → Answer
looked_in h = look_call h.table.plant (fair_in h.table) (label_in h.table) (next_in h.table) h.rule h.monitor

unfoldable pub stepped_in : Held → Event → Watched
stepped_in h e = step_call h.table.plant (fair_in h.table) (label_in h.table) (next_in h.table) h.rule h.live h.monitor e

-- a step that is refused leaves the box as it was, any other changes its monitor
abbrev pub box_by : Answer → List ℕ → List ℕ → List ℕ
box_by (Ok l) new old = new
box_by (Err r) new old = old

abbrev pub box_after : List ℕ → Watched → List ℕ
box_after w s = box_by s.answer (with_monitor w s.monitor) w

-- a witness, or why there is none: the call's answer and buffer, as the call says them
abbrev pub WentOn : Held → Bool → List ℕ → List ℕ → Result Lengths Refusal → Type 0
WentOn h keeps before now r = Answered h.table.plant (fair_in h.table) (label_in h.table) (next_in h.table) h.rule h.monitor keeps before now r

-- The day of a log: what noting gives, one line after the other, up to the first event that is refused.
use Rattle.std.specs.Prelude.{ℕ, zero, suc, List, Ok, Err}
use Rattle.pairs.specs.declared.Pairs.{Pairs}
use Rattle.answers.specs.Results.{Answer}
use Rattle.answers.specs.Results.{Outcome}
use Rattle.plant.specs.declared.Plant.{Plant}
use Rattle.syntax.specs.declared.Rule.{Rule}
use Rattle.event_log.specs.declared.Event.{Event}
use Rattle.text.specs.Number.{width_of}
use Rattle.event_log.specs.Read.{event_at, whole_lines}
use Rattle.sides.specs.declared.Monitor.{Monitor}
use Rattle.stretches.specs.declared.DaySheet.{DaySheet}
use Rattle.day_sheet.specs.declared.Noted.{Noted}
use Rattle.day_sheet.specs.Calls.{noted_of}
use Rattle.day_log.specs.declared.DayWent.{DayWent}

-- one event taken, or refused; behind a refusal nothing more happens
abbrev pub takes : DayWent → Noted → Answer → DayWent
takes w n (Ok l) = record { outcome = Ok tt; done = suc w.done; monitor = n.monitor; sheet = n.sheet }
takes w n (Err r) = record { outcome = Err r; done = w.done; monitor = w.monitor; sheet = w.sheet }

abbrev pub go_on : (Monitor → DaySheet → Event → Noted) → DayWent → Event → Outcome → DayWent
go_on note w e (Ok _) = takes w (note w.monitor w.sheet e) (note w.monitor w.sheet e).answer
go_on note w e (Err r) = w

-- n events from a monitor and a sheet on
unfoldable pub day_to : (Monitor → DaySheet → Event → Noted) → Monitor → DaySheet → (ℕ → Event) → ℕ → DayWent
day_to note m s event zero = record { outcome = Ok tt; done = 0; monitor = m; sheet = s }
day_to note m s event (suc n) = go_on note (day_to note m s event n) (event n) (day_to note m s event n).outcome

-- THE DAY OF A LOG: the public call, line after line, each as wide as the table's propositions ask for
abbrev pub day_of : Plant → List ℕ → List ℕ → List ℕ → Rule → Pairs → Monitor → DaySheet → List ℕ → DayWent
day_of p fair label next rule live m s text = day_to (noted_of p fair label next rule live) m s (event_at (width_of p.props) text) (whole_lines (width_of p.props) text)

-- WHAT NOTING AN EVENT ANSWERS: 9 for a sheet that counts too many stretches, then what the public step refuses, then 23; and else the monitor and the lamp of that step,
-- with the sheet behind all that the event brings.
use Rattle.std.specs.Prelude.{ℕ, ◌≡◌, Bool, not, cond, ◌&&◌, ◌||◌, eqb, ltb, Ok, Err}
use mathlib.Core.List.{List, foldl}
use Rattle.meaning.specs.Formula.{Formula}
use Rattle.meaning.specs.Run as run
use Rattle.pairs.specs.declared.Pairs.{Pairs}
use Rattle.model.specs.Monitor as model
use Rattle.answers.specs.declared.Kind.TheVariants.{Value, Stretches}
use Rattle.answers.specs.declared.Refusal.{Refusal}
use Rattle.answers.specs.declared.Verdict.{Verdict}
use Rattle.answers.specs.declared.Lamp.{Lamp}
use Rattle.answers.specs.Results.{Answer}
use Rattle.answers.specs.Results.{Outcome}
use Rattle.answers.specs.Paper.{refused_at}
use Rattle.plant.specs.declared.Plant.{Plant}
use Rattle.plant.specs.Table.{plant_of}
use Rattle.syntax.specs.declared.Rule.{Rule}
use Rattle.syntax.specs.Value.{formula_of}
use Rattle.event_log.specs.declared.Event.{Event}
use Rattle.checks.specs.Checks.{input_outcome}
use Rattle.sides.specs.declared.Monitor.{Monitor}
use Rattle.sides.specs.Held.{model_of}
use Rattle.monitor.specs.declared.Watched.{Watched}
use Rattle.monitor.specs.Calls.{step_call}
use Rattle.stretches.specs.declared.DaySheet.{DaySheet}
use Rattle.stretches.specs.Sheet.{noted_by}
use Rattle.day_sheet.specs.declared.Noted.{Noted}
use Rattle.day_sheet.specs.Afresh.{Numbered, numbered_by, verdict_in}

-- ---- the sheet

-- a monitor, and the sheet beside it
pub record Day : Type 0 where
  pub monitor : model.Monitor
  pub sheet : DaySheet

-- whether an event begins a stretch: a restart, or the first event of a monitor
abbrev pub opens_of : Bool → Bool → Bool
opens_of seen new = new || not seen

-- one event noted
abbrev pub note_step : run.Plant → Formula → List ℕ → Day → Numbered → Day
note_step T f live d x =
    let m = model.step_of T f live d.monitor x.event in
    record { monitor = m; sheet = noted_by d.sheet (opens_of d.monitor.seen x.event.new) x.number (verdict_in m) }

-- all that an event brings, one after the other
abbrev pub sheet_after : run.Plant → Formula → List ℕ → Monitor → DaySheet → Event → DaySheet
sheet_after T f live m s e = (foldl (note_step T f live) (record { monitor = model_of m; sheet = s }) (numbered_by m.seen m.expected e)).sheet

-- ---- the answer

-- an answer that is no refusal
abbrev pub Shows : Answer → Type 0
Shows (Ok l) = Unit {0}
Shows (Err r) = ⊥

pub shows_shown : {a : Answer} {l : Lamp} → a ≡ Ok l → Shows a
shows_shown e = rw e tt

-- the sheet has no room for the stretch that an event begins
unfoldable pub is_full : DaySheet → Bool → Bool → Bool
is_full s seen new = eqb s.count 64 && opens_of seen new

abbrev pub refused_with : Refusal → Monitor → DaySheet → Noted
refused_with r m s = record { answer = Err r; monitor = m; sheet = s }

-- by what the step answers; the new sheet may ask for the verdict that is shown
abbrev pub note_by : Watched → Answer → Bool → Monitor → DaySheet → (Verdict → DaySheet) → Noted
note_by w (Err r) full m s new = refused_with r m s
note_by w (Ok l) full m s new = cond full (refused_with (refused_at Stretches 0) m s) (record { answer = Ok l; monitor = w.monitor; sheet = new l.verdict })

-- a sheet that counts more than 64 stretches: 1 and 2, and else 9
abbrev pub overfull_by : Outcome → Refusal
overfull_by (Ok _) = refused_at Value 0
overfull_by (Err r) = r

module _ (p : Plant) (fair label next : List ℕ) (rule : Rule) where
  unfoldable pub noted_of : Pairs → Monitor → DaySheet → Event → Noted
  noted_of live m s e =
      let w = step_call p fair label next rule live m e in
      cond (ltb 64 s.count) (refused_with (overfull_by (input_outcome p fair label next rule)) m s)
      (note_by w w.answer (is_full s m.seen e.new) m s (λ v. sheet_after (plant_of p fair label next) (formula_of rule) live.words m s e))

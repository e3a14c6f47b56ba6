-- WHAT THE FUNCTIONS OF THE HEADER ARE HANDED, as the values of the calls; and what they answer where a call says more than one value.
use Rattle.std.specs.Prelude.{ℕ, ◌≡◌, Bool, not, cond, List, eqb, Result}
use Rattle.answers.specs.declared.Kind.TheVariants.{Value}
use Rattle.plant.specs.declared.Plant.{Plant}
use Rattle.event_log.specs.declared.Num.{Num}
use Rattle.event_log.specs.declared.Num.TheVariants.{Expected, Given}
use Rattle.event_log.specs.declared.Event.{Event}
use Rattle.opened.specs.declared.Opened.{Opened}
use Rattle.walk.specs.declared.Lengths.{Lengths}
use Rattle.sheet.specs.declared.Key.TheVariants.{Edition, Rule, Closing}
use Rattle.settings.specs.Asked.{asked, refusal_of}
use Rattle.fixed_machine.specs.declared.Size.{Size}
use Rattle.answers.specs.declared.Refusal.{Refusal}
use Rattle.machine_texts.specs.Texts.{MadeFrom}
use Rattle.slate.specs.declared.Held.{Held}
use Rattle.told.specs.declared.Answer.{Answer}
use Rattle.told.specs.Told.{run_as, made_as, asked_as, refused_sheet}
use Rattle.box_calls.specs.Calls.{WentOn}

-- ---- what is handed in

-- a restart unless the byte is 0
abbrev pub event_of : Num → ℕ → ℕ → ℕ → Event
event_of num see val new = record { num = num; see = see; val = val; new = not (eqb new 0) }

-- an event with its number, unless the byte is 0
abbrev pub event_from : ℕ → ℕ → ℕ → ℕ → ℕ → Event
event_from numbered num see val new = event_of (cond (eqb numbered 0) Expected (Given num)) see val new

-- the counts of a table, as they were handed in
abbrev pub plant_from : ℕ → ℕ → ℕ → ℕ → Plant
plant_from props states start just = record { props = props; states = states; start = start; just = just }

-- ---- what is answered

-- a witness, or why there is none, in four numbers: the call's answer and buffer, as the call says them
abbrev pub GoesOn : Held → Bool → List ℕ → List ℕ → Answer → Type 0
GoesOn h keeps before now r = (x : Result Lengths Refusal) × WentOn h keeps before now x × (r ≡ run_as x)

-- a machine, or why there is none, in four numbers, and what was lent behind it
abbrev pub MachineFor : Opened → List ℕ → List ℕ → List ℕ → List ℕ → Answer → Type 0
MachineFor o work left old new r = (x : Result Size Refusal) × MadeFrom o work left old new x × (r ≡ made_as x)

-- the keys by their numbers; any other is refused by 9, whatever the sheets are
unfoldable pub setting_for : ℕ → List ℕ → List ℕ → Answer
setting_for key local shared =
    cond (eqb key 1) (asked_as (asked local shared Edition))
    (cond (eqb key 2) (asked_as (asked local shared Rule)) (cond (eqb key 3) (asked_as (asked local shared Closing)) (refused_sheet (refusal_of Value 0 0))))

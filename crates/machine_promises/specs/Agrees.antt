-- Words of columns and logs of events: a log of accepted events without gaps leads the monitor where its columns lead the machine.
use Rattle.std.specs.Prelude.{ℕ, ◌≤◌, ◌≡◌, Bool, length, get_or, Ok}
use Rattle.std.proofs.Math.Path.{refl, ap}
use Rattle.std.proofs.Common.{sym, ◌∙◌}
use Rattle.std.proofs.Math.Bool.{So}
use mathlib.Core.List.{List, [], ◌∷◌, map, foldl}
use Rattle.meaning.specs.Formula.{Formula}
use Rattle.meaning.specs.Run as run
use Rattle.meaning.specs.Event as meaning
use Rattle.model.specs.LiveSet.{live_set}
use Rattle.model.specs.Checks.{legal_says}
use Rattle.model.specs.Monitor as model
use Rattle.answers.specs.declared.Lamp.{Lamp}
use Rattle.answers.specs.Results.{Answer}
use Rattle.plant.specs.declared.Plant.{Plant}
use Rattle.plant.specs.Table.{plant_of}
use Rattle.syntax.specs.declared.Rule.{Rule}
use Rattle.syntax.specs.Value.{formula_of}
use Rattle.event_log.specs.declared.Event.{Event}
use Rattle.event_log.specs.Legal.{seen_of, legal_of, event_of}
use Rattle.event_log.specs.Log.{nothing}
use Rattle.checks.specs.Input.{Input}
use Rattle.sides.specs.Held.{lamp_in}
use Rattle.monitor.specs.declared.Watched.{Watched}
use Rattle.monitor.proofs.Given.{legal_is}
use Rattle.watching.specs.Filled.{filled}
use Rattle.watching.specs.Watching.{after, TakenFrom, AllTaken}
use Rattle.watching.proofs.Watching.{after_model}
use Rattle.columns.specs.Columns.{columns_of}
use Rattle.columns.proofs.Columns.{columns_count, columns_at}
use Rattle.machines.specs.Machine.{Machine, run, Columns, none, more}
use Rattle.machines.specs.Follow.{stepped}
use Rattle.machines.specs.Made as machines
use Rattle.explored.specs.States.{lamp_number}
use Rattle.fixed_machine.specs.Machined.{step_at, shown_in}
use Rattle.machine_lookup.specs.Lookup.{column_of}
use Rattle.machine_lookup.specs.Columns.{column_low, column_event}

-- the column of an event, whatever its number
abbrev pub column_for : Event → ℕ
column_for e = column_of e.see e.val e.new

-- no number is missing before any event: nothing is put in
abbrev pub WithoutGaps : List Event → Type 0
WithoutGaps es = filled es ≡ map event_of es

-- each event is one that so many propositions allow
abbrev pub AllLegal : ℕ → List Event → Type 0
AllLegal props [] = Unit {0}
AllLegal props (e ∷ es) = So (legal_of e props) × AllLegal props es

-- a machine that is made of the monitor of a table and a rule
abbrev pub MadeFor : run.Plant → Formula → Machine → Type 0
MadeFor T f m = machines.Made (length (columns_of T.props)) (step_at T f (live_set T f)) shown_in (model.opening T f (live_set T f)) m

-- after the columns of a log its output is what the last call shows
pub record AgreesOn (shown : Answer) (m : Machine) (es : List Event) : Type 0 where
  pub lamp : Lamp
  pub shows : shown ≡ Ok lamp
  pub output : m.output (run m 0 (map column_for es)) ≡ lamp_number lamp

module _ (p : Plant) (fair label next : List ℕ) (rule : Rule) (given : Input p fair label next rule) (few : p.props ≤ 3) where
  abbrev T : run.Plant
  T = plant_of p fair label next

  abbrev f : Formula
  f = formula_of rule

  -- what check 10 accepts is legal
  legal : (e : Event) (seen : Bool) (expected : ℕ) (es : List Event) → TakenFrom p fair label next rule seen expected (e ∷ es) → So (legal_of e p.props)
  legal e seen expected es taken = legal_is p fair label next rule given e ∙ (legal_says T (seen_of e)).1 taken.0.0

  pub taken_legal : (es : List Event) (seen : Bool) (expected : ℕ) → TakenFrom p fair label next rule seen expected es → AllLegal p.props es
  taken_legal [] seen expected taken = tt
  taken_legal (e ∷ es) seen expected taken = (legal e seen expected es taken, taken_legal es _ _ taken.1)

  -- the columns of legal events are columns
  pub columns_in : (es : List Event) → AllLegal p.props es → Columns (length (columns_of p.props)) (map column_for es)
  columns_in [] ok = none
  columns_in (e ∷ es) (ok, rest) =
      more {k = column_for e} (rw (columns_count p.props given.table.some_props few) (column_low p.props given.table.some_props few e ok)) (columns_in es rest)

  -- a column stands for its event
  column_is : (e : Event) → So (legal_of e p.props) → event_of (get_or (columns_of p.props) (column_for e) nothing) ≡ event_of e
  column_is e ok =
      ap event_of (columns_at p.props given.table.some_props few (column_for e) (column_low p.props given.table.some_props few e ok) ∙ column_event p.props given.table.some_props few e ok)

  -- and leads the monitor where the event does
  pub leads_there : (es : List Event) → AllLegal p.props es → (m : model.Monitor)
      → stepped (step_at T f (live_set T f)) m (map column_for es) ≡ foldl (model.step_of T f (live_set T f)) m (map event_of es)
  unfolding stepped step_at
  leads_there [] ok m = refl
  leads_there (e ∷ es) (ok, rest) m =
      leads_there es rest (model.step_of T f (live_set T f) m (event_of (get_or (columns_of p.props) (column_for e) nothing)))
      ∙ ap (λ (x : meaning.Event). foldl (model.step_of T f (live_set T f)) (model.step_of T f (live_set T f) m x) (map event_of es)) (column_is e ok)

  -- THE MACHINE ANSWERS AS STEPPING DOES (02, g): on each log that is accepted and has no gap, and so after each event of it
  pub machine_agrees : {m : Machine} → MadeFor T f m → (es : List Event) → AllTaken p fair label next rule es → WithoutGaps es
      → AgreesOn (after p fair label next rule es).answer m es
  unfolding model.run_of
  machine_agrees {m} made es taken gapless =
      let there = model.run_of T f (live_set T f) (filled es) in
      record {
        lamp = lamp_in there;
        shows = ap (λ (w : Watched). w.answer) (after_model p fair label next rule given es taken);
        output = made.agrees (map column_for es) (columns_in es (taken_legal es _ _ taken))
            ∙ ap shown_in (leads_there es (taken_legal es _ _ taken) (model.opening T f (live_set T f)) ∙ ap (foldl (model.step_of T f (live_set T f)) (model.opening T f (live_set T f))) (sym gapless));
      }

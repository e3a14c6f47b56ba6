-- The calls, from an accepted table and rule and from the opening on: checks 1, 2 and 9 pass for ever, so a step is the model's, of all that its event brings,
-- if the event is legal and its number in turn, and else a refusal by 10 or 16 that leaves the monitor. Any events may come; what is then behind them: proofs/Watching.
use Prim.Native.Nat.{ℕ, ◌+◌, ◌^◌, ◌≤◌}
use Rattle.std.proofs.Common.{arith, subst, ◌∙◌}
use Rattle.std.specs.Prelude.{◌≡◌, ◌↔◌, Bool, ◌&&◌, length, replicate, Ok, Err}
use Rattle.std.proofs.Math.Path.{refl, sym, ap}
use Rattle.std.proofs.Math.Bool.{true, false}
use mathlib.Core.List.{List, [], ◌∷◌, foldl, foldl-append}
use Rattle.meaning.specs.Formula.{Formula}
use Rattle.meaning.specs.Run as run
use Rattle.meaning.specs.Event as meaning
use Rattle.meaning.specs.Limits.{Legal}
use Rattle.words.specs.Truth.{and_says}
use Rattle.words.specs.Tests.{le_says}
use Rattle.pairs.specs.declared.Pairs.{Pairs}
use Rattle.model.specs.LiveSet.{live_set}
use Rattle.model.proofs.Lives.{live_set_lem}
use Rattle.model.specs.Sets.{PairSet}
use Rattle.model.specs.Checks.{pairs_ok, pairs_says, legal_says}
use Rattle.model.proofs.Rule.{opening_sets, step_sets}
use Rattle.model.specs.Monitor as model
use Rattle.answers.specs.declared.Kind.TheVariants.{IllegalEvent, Number as NumberKind}
use Rattle.answers.specs.Results.{Outcome}
use Rattle.answers.specs.Chain.{and_then, unless, chain_accepts, unless_accepts}
use Rattle.plant.specs.declared.Plant.{Plant}
use Rattle.plant.specs.Table.{plant_of}
use Rattle.syntax.specs.declared.Rule.{Rule}
use Rattle.syntax.proofs.Values.{full_value}
use Rattle.syntax.specs.Value.{formula_of}
use Rattle.event_log.specs.declared.Event.{Event}
use Rattle.event_log.specs.Legal.{seen_of, legal_of, event_of}
use Rattle.checks.specs.Input.{Input, input_accepted}
use Rattle.sides.specs.declared.Monitor.{Monitor}
use Rattle.sides.specs.Held.{model_of, monitor_of}
use Rattle.event_numbers.specs.Numbers.{number_of, missing_of, unseen, brings, InTurn, in_turn, in_turn_says, event_outcome}
use Rattle.monitor.specs.declared.Watched.{Watched}
use Rattle.monitor.specs.Calls.{lamp_of, no_monitor, watched, open_call, monitor_fits, step_checked, step_call}
use Rattle.monitor.proofs.Given.{event_checks, legal_is}
use Rattle.monitor.specs.Promises.{open_accepted}
use Rattle.live.specs.Prepare.{prepared_as, prepared_of}
use Rattle.watching.specs.Filled.{seen_from, filled_from, filled}

-- a call that is accepted, and what it shows
abbrev pub shows : ℕ → model.Monitor → Watched
shows expected m = record { answer = lamp_of m; monitor = monitor_of expected m }

module _ (p : Plant) (fair label next : List ℕ) (rule : Rule) where
  -- the table and the rule that are handed in
  abbrev pub T : run.Plant
  T = plant_of p fair label next

  abbrev pub f : Formula
  f = formula_of rule

  -- both sets of a monitor are of them, and a number is expected, or none is left
  pub record Held (m : Monitor) : Type 0 where
    pub sets : (b : Bool) → PairSet T f (model.side (model_of m) b)
    pub low : m.expected ≤ 2 ^ 32

  -- all that an event brings, with a live set
  abbrev pub brought : List ℕ → model.Monitor → ℕ → Event → model.Monitor
  brought live m expected e = foldl (model.step_of T f live) m (brings m.seen expected e)

  -- a step behind checks 1, 2 and 9
  abbrev pub taken_of : Pairs → Monitor → Event → Watched
  taken_of live m e = watched (event_outcome e p.props m.seen m.expected) m (number_of e.num m.expected + 1) (brought live.words (model_of m) m.expected e)

  -- the live set that `prepare` gives
  abbrev pub live : Pairs
  live = (prepared_of p fair label next rule).live

  -- what `step` gives, event after event, from what `open` gives
  unfoldable pub after : List Event → Watched
  after es = foldl (λ w e. step_call p fair label next rule live w.monitor e) (open_call p fair label next rule live) es

  -- each event is accepted: it is legal, and its number in turn
  abbrev pub Taken : Bool → ℕ → Event → Type 0
  Taken seen expected e = Legal T (seen_of e) × InTurn seen expected (number_of e.num expected)

  abbrev pub TakenFrom : Bool → ℕ → List Event → Type 0
  TakenFrom seen expected [] = Unit {0}
  TakenFrom seen expected (e ∷ es) = Taken seen expected e × TakenFrom true (number_of e.num expected + 1) es

  abbrev pub AllTaken : List Event → Type 0
  AllTaken es = TakenFrom false 0 es

  -- the events that are
  abbrev pub taken_by : Outcome → Event → List Event → List Event → List Event
  taken_by (Ok _) e taken other = e ∷ taken
  taken_by (Err r) e taken other = other

  unfoldable pub taken_ones : Bool → ℕ → List Event → List Event
  taken_ones seen expected [] = []
  taken_ones seen expected (e ∷ es) = taken_by (event_outcome e p.props seen expected) e (taken_ones true (number_of e.num expected + 1) es) (taken_ones seen expected es)

  -- behind what an event brings, an event came
  pub brought_seen : (known : List ℕ) (m : model.Monitor) (expected : ℕ) (e : Event) → (brought known m expected e).seen ≡ true
  unfolding model.step_of
  brought_seen known m expected e = ap (λ (x : model.Monitor). x.seen)
      (foldl-append (model.step_of T f known) m (replicate (missing_of m.seen expected (number_of e.num expected)) unseen) (event_of e ∷ []))

  -- and behind some events, exactly if there are any
  pub run_seen : (known : List ℕ) (es : List Event) → (model.run_of T f known (filled es)).seen ≡ seen_from false es
  unfolding model.run_of model.opening model.step_of
  run_seen known [] = refl
  run_seen known (e ∷ es) =
      let first = model.opening T f known in
      ap (λ (x : model.Monitor). x.seen) (foldl-append (model.step_of T f known) first (brings false 0 e) (filled_from true (number_of e.num 0 + 1) es))
      ∙ stays (brought known first 0 e) (filled_from true (number_of e.num 0 + 1) es) (brought_seen known first 0 e)
    where
      stays : (m : model.Monitor) (es : List meaning.Event) → m.seen ≡ true → (foldl (model.step_of T f known) m es).seen ≡ true
      stays m [] is = is
      stays m (e ∷ es) is = stays (model.step_of T f known m e) es refl

  module _ (given : Input p fair label next rule) where
    pub full : length rule.nodes ≡ 32
    full = rw given.is (full_value f given.small)

    -- what the check of an event says
    pub event_says : (e : Event) (seen : Bool) (expected : ℕ) → (event_outcome e p.props seen expected ≡ Ok tt) ↔ Taken seen expected e
    event_says e seen expected =
        let turn = in_turn_says seen expected (number_of e.num expected) in
        let legal = legal_says T (seen_of e) in (
          λ g.
              let (ok, in-time) = (chain_accepts (unless (legal_of e p.props) IllegalEvent) (unless (in_turn seen expected (number_of e.num expected)) NumberKind)).0 (sym (event_checks e p.props seen expected) ∙ g) in
              (legal.0 (sym (legal_is p fair label next rule given e) ∙ (unless_accepts (legal_of e p.props) IllegalEvent).0 ok), turn.0 ((unless_accepts _ NumberKind).0 in-time)),
          λ h. event_checks e p.props seen expected
              ∙ (chain_accepts (unless (legal_of e p.props) IllegalEvent) (unless (in_turn seen expected (number_of e.num expected)) NumberKind)).1
              ((unless_accepts (legal_of e p.props) IllegalEvent).1 (legal_is p fair label next rule given e ∙ legal.1 h.0), (unless_accepts _ NumberKind).1 (turn.1 h.1)),
        )

    -- ---- for any live set of the table and the rule

    module _ (known : Pairs) (fits : PairSet T f known.words) where
      abbrev pub sets : Monitor → Bool
      sets m = pairs_ok T f known.words && monitor_fits p fair label next rule m

      in_order : (m : Monitor) → Held m → sets m ≡ true
      in_order m held =
          (and_says (pairs_ok T f known.words) _).1 (
            (pairs_says T f known.words).1 fits,
            (and_says (pairs_ok T f m.keeps.words) _).1 (
              (pairs_says T f m.keeps.words).1 (held.sets true),
              (and_says (pairs_ok T f m.breaks.words) _).1 ((pairs_says T f m.breaks.words).1 (held.sets false), (le_says m.expected (2 ^ 32)).1 held.low),
            ),
          )

      -- THE LAW OF EVERY LOOP: from a monitor of the table and the rule, 1, 2 and 9 pass, whatever the event
      pub checks_pass : (m : Monitor) → Held m → (e : Event) → step_call p fair label next rule known m e ≡ taken_of known m e
      unfolding step_call
      checks_pass m held e =
          ap (λ (o : Outcome). watched o m (number_of e.num m.expected + 1) (brought known.words (model_of m) m.expected e)) (checked ∙ sym (event_checks e p.props m.seen m.expected))
        where
          checked : step_checked p fair label next rule known m e ≡ and_then (unless (legal_of e p.props) IllegalEvent) (unless (in_turn m.seen m.expected (number_of e.num m.expected)) NumberKind)
          checked = rw ((input_accepted p fair label next rule full).1 given, in_order m held, legal_is p fair label next rule given e) refl

      -- the sets stay of them, whatever an event brings
      pub brought_sets : (m : model.Monitor) → ((b : Bool) → PairSet T f (model.side m b)) → (es : List meaning.Event) → (b : Bool) → PairSet T f (model.side (foldl (model.step_of T f known.words) m es) b)
      brought_sets m held [] = held
      brought_sets m held (e ∷ es) = brought_sets (model.step_of T f known.words m e) (step_sets T f given.table given.few known.words fits m held e) es

      -- so the next monitor is of them again
      pub stays_held : (m : Monitor) → Held m → (e : Event) → Held (step_call p fair label next rule known m e).monitor
      stays_held m held e = rw (checks_pass m held e) (go (event_outcome e p.props m.seen m.expected) refl)
        where
          go : (o : Outcome) → event_outcome e p.props m.seen m.expected ≡ o
              → Held (watched o m (number_of e.num m.expected + 1) (brought known.words (model_of m) m.expected e)).monitor
          go (Ok _) g = record {
            sets = brought_sets (model_of m) held.sets (brings m.seen m.expected e);
            low = omega (arith, ((event_says e m.seen m.expected).0 g).1.number);
          }
          go (Err r) g = held

      -- as is the one opened
      pub opens : open_call p fair label next rule known ≡ shows 0 (model.opening T f known.words)
      unfolding open_call
      opens = ap (λ (o : Outcome). watched o no_monitor 0 (model.opening T f known.words)) ((open_accepted p fair label next rule full known).1 (given, fits))

      pub open_held : Held (open_call p fair label next rule known).monitor
      open_held = rw opens (record { sets = opening_sets T f given.table given.few known.words fits; low = omega arith })

    -- ---- for the prepared one

    -- it is the model's
    pub live_words : live.words ≡ live_set T f
    unfolding prepared_of
    live_words = ap (λ (o : Outcome). (prepared_as o (live_set T f)).live.words) ((input_accepted p fair label next rule full).1 given)

    pub live_fits : PairSet T f live.words
    live_fits = subst (PairSet T f) (sym live_words) (live_set_lem T f given.table given.few)

    -- the model's step and monitor, with it
    abbrev pub move : model.Monitor → meaning.Event → model.Monitor
    move = model.step_of T f (live_set T f)

    abbrev pub next_of : model.Monitor → ℕ → Event → model.Monitor
    next_of m expected e = brought (live_set T f) m expected e

    abbrev pub first : model.Monitor
    first = model.opening T f (live_set T f)

    pub first_held : Held (monitor_of 0 first)
    first_held = record { sets = opening_sets T f given.table given.few (live_set T f) (live_set_lem T f given.table given.few); low = omega arith }

-- More of specs/Watching: behind any events, accepted or refused, the calls give the monitor and the lamp of the model behind those accepted (`after_any`, `after_model`).
use Prim.Native.Nat.{ℕ, ◌+◌}
use Rattle.std.proofs.Common.{arith, subst, ◌∙◌}
use Rattle.std.specs.Prelude.{◌≡◌, ◌↔◌, Bool, Ok, Err}
use Rattle.std.proofs.Math.Path.{refl, sym, ap}
use Rattle.std.proofs.Math.Bool.{true, false}
use mathlib.Core.List.{List, [], ◌∷◌, foldl, foldl-append}
use Rattle.meaning.specs.Formula.{Formula}
use Rattle.meaning.specs.Run as run
use Rattle.meaning.specs.Event as meaning
use Rattle.pairs.specs.declared.Pairs.{Pairs}
use Rattle.model.specs.LiveSet.{live_set}
use Rattle.model.specs.Sets.{PairSet}
use Rattle.model.specs.Monitor as model
use Rattle.answers.specs.Results.{Outcome}
use Rattle.plant.specs.declared.Plant.{Plant}
use Rattle.syntax.specs.declared.Rule.{Rule}
use Rattle.event_log.specs.declared.Event.{Event}
use Rattle.checks.specs.Input.{Input}
use Rattle.sides.specs.declared.Monitor.{Monitor}
use Rattle.sides.specs.Held.{monitor_of}
use Rattle.event_numbers.specs.Numbers.{number_of, brings, event_outcome}
use Rattle.monitor.specs.declared.Watched.{Watched}
use Rattle.monitor.specs.Calls.{watched, open_call, step_call}
use Rattle.watching.specs.Filled.{expected_from, filled_from, filled}
use Rattle.watching.specs.Watching.{shows}
use Rattle.watching.specs.Watching as of_watching

module _ (p : Plant) (fair label next : List ℕ) (rule : Rule) where
  abbrev T : run.Plant
  T = of_watching.T p fair label next rule

  abbrev f : Formula
  f = of_watching.f p fair label next rule

  abbrev Held : (m : Monitor) → Type 0
  Held = of_watching.Held p fair label next rule

  abbrev brought : List ℕ → model.Monitor → ℕ → Event → model.Monitor
  brought = of_watching.brought p fair label next rule

  abbrev taken_of : Pairs → Monitor → Event → Watched
  taken_of = of_watching.taken_of p fair label next rule

  abbrev live : Pairs
  live = of_watching.live p fair label next rule

  abbrev after : List Event → Watched
  after = of_watching.after p fair label next rule

  abbrev Taken : Bool → ℕ → Event → Type 0
  Taken = of_watching.Taken p fair label next rule

  abbrev TakenFrom : Bool → ℕ → List Event → Type 0
  TakenFrom = of_watching.TakenFrom p fair label next rule

  abbrev AllTaken : List Event → Type 0
  AllTaken = of_watching.AllTaken p fair label next rule

  abbrev taken_by : Outcome → Event → List Event → List Event → List Event
  taken_by = of_watching.taken_by p fair label next rule

  abbrev taken_ones : Bool → ℕ → List Event → List Event
  taken_ones = of_watching.taken_ones p fair label next rule

  abbrev brought_seen : (known : List ℕ) (m : model.Monitor) (expected : ℕ) (e : Event) → (brought known m expected e).seen ≡ true
  brought_seen = of_watching.brought_seen p fair label next rule

  module _ (given : Input p fair label next rule) where
    abbrev event_says : (e : Event) (seen : Bool) (expected : ℕ) → (event_outcome e p.props seen expected ≡ Ok tt) ↔ Taken seen expected e
    event_says = of_watching.event_says p fair label next rule given

    -- ---- for any live set of the table and the rule

    module _ (known : Pairs) (fits : PairSet T f known.words) where
      abbrev sets : Monitor → Bool
      sets = of_watching.sets p fair label next rule given known fits

      abbrev checks_pass : (m : Monitor) → Held m → (e : Event) → step_call p fair label next rule known m e ≡ taken_of known m e
      checks_pass = of_watching.checks_pass p fair label next rule given known fits

      abbrev brought_sets : (m : model.Monitor) → ((b : Bool) → PairSet T f (model.side m b)) → (es : List meaning.Event) → (b : Bool) → PairSet T f (model.side (foldl (model.step_of T f known.words) m es) b)
      brought_sets = of_watching.brought_sets p fair label next rule given known fits

      abbrev opens : open_call p fair label next rule known ≡ shows 0 (model.opening T f known.words)
      opens = of_watching.opens p fair label next rule given known fits

    abbrev live_words : live.words ≡ live_set T f
    live_words = of_watching.live_words p fair label next rule given

    abbrev live_fits : PairSet T f live.words
    live_fits = of_watching.live_fits p fair label next rule given

    abbrev move : model.Monitor → meaning.Event → model.Monitor
    move = of_watching.move p fair label next rule given

    abbrev next_of : model.Monitor → ℕ → Event → model.Monitor
    next_of = of_watching.next_of p fair label next rule given

    abbrev first : model.Monitor
    first = of_watching.first p fair label next rule given

    abbrev first_held : Held (monitor_of 0 first)
    first_held = of_watching.first_held p fair label next rule given

    opened : open_call p fair label next rule live ≡ shows 0 first
    opened = opens live live_fits ∙ ap (λ (l : List ℕ). shows 0 (model.opening T f l)) live_words

    -- a call behind one whose monitor is the model's
    steps : (w : Watched) (n : ℕ) (m : model.Monitor) → Held (monitor_of n m) → w.monitor ≡ monitor_of n m → (e : Event)
        → step_call p fair label next rule live w.monitor e ≡ watched (event_outcome e p.props m.seen n) (monitor_of n m) (number_of e.num n + 1) (next_of m n e)
    steps w n m held is e =
        ap (λ (x : Monitor). step_call p fair label next rule live x e) is ∙ checks_pass live live_fits (monitor_of n m) held e
        ∙ ap (λ (l : List ℕ). watched (event_outcome e p.props m.seen n) (monitor_of n m) (number_of e.num n + 1) (brought l m n e)) live_words

    -- that is taken: its monitor is of the table and the rule again
    next_held : (n : ℕ) (m : model.Monitor) → Held (monitor_of n m) → (e : Event) → Taken m.seen n e → Held (monitor_of (number_of e.num n + 1) (next_of m n e))
    next_held n m held e taken = record {
      sets = rw (← live_words) (brought_sets live live_fits m held.sets (brings m.seen n e));
      low = omega (arith, taken.1.number);
    }

    -- and the list goes on behind what it brought
    goes_on : (n : ℕ) (m : model.Monitor) (e : Event) (es : List Event)
        → foldl move (next_of m n e) (filled_from (next_of m n e).seen (number_of e.num n + 1) es) ≡ foldl move m (filled_from m.seen n (e ∷ es))
    goes_on n m e es =
        ap (λ (s : Bool). foldl move (next_of m n e) (filled_from s (number_of e.num n + 1) es)) (brought_seen (live_set T f) m n e)
        ∙ sym (foldl-append move m (brings m.seen n e) (filled_from true (number_of e.num n + 1) es))

    -- WHATEVER EVENTS COME, the monitor is that of the model after those that were accepted, with the unseen ones put in
    pub after_any : (es : List Event)
        → (after es).monitor ≡ monitor_of (expected_from 0 (taken_ones false 0 es)) (model.run_of T f (live_set T f) (filled (taken_ones false 0 es)))
    unfolding of_watching.after model.run_of model.opening of_watching.taken_ones
    after_any es = go es (open_call p fair label next rule live) 0 first first_held (ap (λ (w : Watched). w.monitor) opened)
      where
        End : Watched → ℕ → model.Monitor → List Event → List Event → Type 0
        End w n m es taken = (foldl (λ w e. step_call p fair label next rule live w.monitor e) w es).monitor ≡ monitor_of (expected_from n taken) (foldl move m (filled_from m.seen n taken))

        go : (es : List Event) (w : Watched) (n : ℕ) (m : model.Monitor) → Held (monitor_of n m) → w.monitor ≡ monitor_of n m → End w n m es (taken_ones m.seen n es)
        go [] w n m held is = is
        go (e ∷ es) w n m held is = by (go es now) (event_outcome e p.props m.seen n) refl (steps w n m held is e)
          where
            now : Watched
            now = step_call p fair label next rule live w.monitor e

            by : ((k : ℕ) (x : model.Monitor) → Held (monitor_of k x) → now.monitor ≡ monitor_of k x → End now k x es (taken_ones x.seen k es)) → (o : Outcome) → event_outcome e p.props m.seen n ≡ o
                → now ≡ watched o (monitor_of n m) (number_of e.num n + 1) (next_of m n e)
                → End now n m es (taken_by o e (taken_ones true (number_of e.num n + 1) es) (taken_ones m.seen n es))
            by rest (Ok _) g step =
                let k = number_of e.num n + 1 in
                let taken = taken_ones true k es in
                subst (λ (s : Bool). (foldl (λ w e. step_call p fair label next rule live w.monitor e) now es).monitor ≡ monitor_of (expected_from k (taken_ones s k es)) (foldl move (next_of m n e) (filled_from (next_of m n e).seen k (taken_ones s k es))))
                (brought_seen (live_set T f) m n e)
                (rest k (next_of m n e) (next_held n m held e ((event_says e m.seen n).0 g)) (ap (λ (w : Watched). w.monitor) step))
                ∙ ap (monitor_of (expected_from k taken)) (goes_on n m e taken)
            by rest (Err r) g step = rest n m held (ap (λ (w : Watched). w.monitor) step)

    -- and after accepted ones the calls show its lamp
    pub after_model : (es : List Event) → AllTaken es → after es ≡ shows (expected_from 0 es) (model.run_of T f (live_set T f) (filled es))
    unfolding of_watching.after model.run_of model.opening
    after_model es taken = go es (open_call p fair label next rule live) 0 first taken first_held opened
      where
        go : (es : List Event) (w : Watched) (n : ℕ) (m : model.Monitor) → TakenFrom m.seen n es → Held (monitor_of n m) → w ≡ shows n m
            → foldl (λ w e. step_call p fair label next rule live w.monitor e) w es ≡ shows (expected_from n es) (foldl move m (filled_from m.seen n es))
        go [] w n m taken held is = is
        go (e ∷ es) w n m (t, ts) held is =
            let k = number_of e.num n + 1 in
            go es (step_call p fair label next rule live w.monitor e) k (next_of m n e) (subst (λ (s : Bool). TakenFrom s k es) (sym (brought_seen (live_set T f) m n e)) ts) (next_held n m held e t)
            (steps w n m held (ap (λ (w : Watched). w.monitor) is) e ∙ ap (λ (o : Outcome). watched o (monitor_of n m) k (next_of m n e)) ((event_says e m.seen n).1 t))
            ∙ ap (shows (expected_from k es)) (goes_on n m e es)

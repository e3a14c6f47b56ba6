-- More of specs/Asked, which has its definitions: what the other calls answer behind a log (promise 3 of docs/PROMISES.md). `witness`, lent a buffer of the room it asks for, writes a run of
-- the asked kind where there is one, and is refused by 13 where there is none; and with refused events among them the monitor is that behind the accepted ones.
use mathlib.Core.Logic.Iff
use Prim.Native.Nat.{ℕ, ◌+◌, ◌^◌, ◌≤◌, ◌<◌}
use Rattle.std.proofs.Common.{arith, subst, ◌∙◌, inr}
use Rattle.std.specs.Prelude.{◌≡◌, ◌↔◌, false, length, Result, Ok, Err}
use Rattle.std.proofs.Math.Path.{refl, sym, ap}
use Rattle.std.proofs.Math.Bool.{Bool, true, not}
use mathlib.Core.List.{List, [], ◌∷◌}
use Rattle.meaning.specs.Says.{Says}
use Rattle.meaning.specs.Limits.{witness_room}
use Rattle.meaning.specs.Formula.{Formula}
use Rattle.meaning.specs.Run.{state_at}
use Rattle.meaning.specs.Run as run
use Rattle.meaning.specs.Event.{History, now}
use Rattle.meaning.specs.Verdict.{At, Possible}
use Rattle.words.specs.Truth.{not_so}
use Rattle.theory.specs.Join.{walk_then}
use Rattle.theory.specs.Step.{pair_live}
use Rattle.theory.specs.Values.{values_at, pair_of}
use Rattle.theory.proofs.Alive.{valuations_few}
use Rattle.pairs.specs.Sets.{occupied}
use Rattle.model.specs.LiveSet.{meet_of, live_set}
use Rattle.model.proofs.Lives.{live_says}
use Rattle.model.specs.Reaching.{meet_says}
use Rattle.model.specs.Monitor as model
use Rattle.model.specs.Log as log
use Rattle.model.proofs.Log as log_laws
use Rattle.model.specs.Witness.{has_live}
use Rattle.model.proofs.Witness.{witness_says}
use Rattle.answers.specs.declared.Kind.TheVariants.{NoPair}
use Rattle.answers.specs.Results.{Outcome}
use Rattle.answers.specs.Paper.{refused_at}
use Rattle.answers.specs.Chain.{refused_as, differ, unless, chain_accepts, chain_refuses, unless_accepts, unless_refuses}
use Rattle.plant.specs.declared.Plant.{Plant}
use Rattle.syntax.specs.declared.Rule.{Rule}
use Rattle.event_log.specs.declared.Event.{Event}
use Rattle.checks.specs.Input.{Input}
use Rattle.sides.specs.declared.Monitor.{Monitor}
use Rattle.sides.specs.Held.{model_of}
use Rattle.event_numbers.specs.Numbers.{number_of, event_outcome}
use Rattle.monitor.specs.declared.Watched.{Watched}
use Rattle.monitor.specs.Calls.{look_call, open_call}
use Rattle.watching.specs.Watching as watching
use Rattle.watching.specs.Filled.{filled}
use Rattle.watching.specs.Watching.{TakenFrom, AllTaken, taken_ones, event_says}
use Rattle.watching.proofs.Watching.{after_any, after_model}
use Rattle.walk.specs.declared.Lengths.{Lengths}
use Rattle.answers.specs.declared.Refusal.{Refusal}
use Rattle.witness.specs.Calls.{Answered, asked_of, witness_outcome}
use Rattle.promises.specs.Demand.{witness_goes_on}
use Rattle.promises.specs.Asked.{GoesOn}
use Rattle.promises.specs.Asked as of_asked

module _ (p : Plant) (fair label next : List ℕ) (rule : Rule) (given : Input p fair label next rule) where
  abbrev T : run.Plant
  T = of_asked.T p fair label next rule given

  abbrev f : Formula
  f = of_asked.f p fair label next rule given

  module _ (es : List Event) (taken : AllTaken p fair label next rule es) where
    abbrev h : History
    h = of_asked.h p fair label next rule given es taken

    abbrev m : Monitor
    m = of_asked.m p fair label next rule given es taken

    abbrev seen : model.Monitor
    seen = of_asked.seen p fair label next rule given es taken

    abbrev is_seen : model_of m ≡ seen
    is_seen = of_asked.is_seen p fair label next rule given es taken

    abbrev low : m.expected ≤ 2 ^ 32
    low = of_asked.low p fair label next rule given es taken

    abbrev look_same : look_call p fair label next rule m ≡ (watching.after p fair label next rule es).answer
    look_same = of_asked.look_same p fair label next rule given es taken

    -- ---- asking for a run

    -- the asked set has a live pair exactly if there is a run of the kind
    seen_live : (b : Bool) → Says (has_live T f (model.side seen b)) (Possible T f h b)
    unfolding has_live
    seen_live b = (
      λ e.
          let (L, w) = (witness_says T f given.table given.few (model.side seen b)).0 e in
          let (walk, _, c) = log_laws.log_witness T f given.table given.few (filled es) b L w in
          (walk_then walk L, c),
      λ (L, c).
          let s = state_at L (now h) in
          let v = values_at T f L (now h) in
          let q = pair_of T f L c.run.walk (now h) in
          let a : At T f b h s v = record { lasso = L; chosen = c; pair = q } in
          let i = (log_laws.log_sets T f given.table given.few (filled es) b s v).1 a in
          let l = (live_says T f given.table given.few s v).1 (pair_live T f L (now h) s v c.run.walk q) in
          let low : v < 64 = (let k = q.small in let n = valuations_few f given.few in omega arith) in
          rw (occupied (meet_of (model.side seen b) (live_set T f)) s v low ((meet_says (model.side seen b) (live_set T f) s v).1 (low, (i, l)))),
    )

    module _ (b : Bool) where
      held_live : Says (has_live T f (model.side (model_of m) b)) (Possible T f h b)
      held_live = subst (λ (x : model.Monitor). Says (has_live T f (model.side x b)) (Possible T f h b)) (sym is_seen) (seen_live b)

      -- a buffer of 01's room
      module _ (room : ℕ) (enough : witness_room ≤ room) where
        abbrev asked : asked_of p fair label next rule m room ≡ Ok tt
        asked = of_asked.asked p fair label next rule given es taken b room enough

        accepts : (witness_outcome p fair label next rule m b room ≡ Ok tt) ↔ Possible T f h b
        unfolding witness_outcome
        accepts =
            Iff.trans (chain_accepts (asked_of p fair label next rule m room) (unless (has_live T f (model.side (model_of m) b)) NoPair)) (
              λ x. held_live.0 ((unless_accepts _ NoPair).0 x.1),
              λ q. (asked, (unless_accepts _ NoPair).1 (held_live.1 q)),
            )

        -- the call is accepted exactly if there is a run of the asked kind
        pub witness_exactly : (witness_outcome p fair label next rule m b room ≡ Ok tt) ↔ Possible T f h b
        witness_exactly = accepts

        -- and refused by 13 exactly if there is none
        pub thirteen_exactly : (witness_outcome p fair label next rule m b room ≡ refused_as NoPair) ↔ (Possible T f h b → ⊥)
        unfolding witness_outcome
        thirteen_exactly = (
          λ e q. differ (Ok tt) (refused_as NoPair) (λ n. omega arith) (accepts.1 q) e,
          λ none.
              (chain_refuses (asked_of p fair label next rule m room) (unless (has_live T f (model.side (model_of m) b)) NoPair) (refused_at NoPair 0)).1
              (inr (asked, (unless_refuses _ NoPair).1 (not_so _ (λ so. none (held_live.0 so))))),
        )

      -- so by its contract, of any buffer of that room: what it answers and what the buffer then holds
      module _ (before bytes : List ℕ) (enough : witness_room ≤ length before) (r : Result Lengths Refusal) (answered : Answered p fair label next rule m b before bytes r) where
        abbrev As : Outcome → Type 0
        As = of_asked.As p fair label next rule given es taken b before bytes enough r answered

        pub run_written : Possible T f h b → GoesOn T f h b before bytes r
        run_written q =
            let (l, is, s) = subst As ((accepts (length before) enough).1 q) answered in
            let (walk, long, c) = witness_goes_on p fair label next rule given es taken b s.lasso s.witness in
            record {
              lasso = s.lasso;
              lengths = is ∙ ap Ok (λ i. record { stem = sym s.stem_is i; turn = sym s.turn_is i });
              written = s.bytes;
              short_stem = s.witness.stem;
              short_loop = s.witness.loop;
              walk = walk;
              long = long;
              chosen = c;
            }

        pub none_refused : (Possible T f h b → ⊥) → (r ≡ Err (refused_at NoPair 0)) × (bytes ≡ before)
        none_refused none = subst As ((thirteen_exactly (length before) enough).1 none) answered

  -- before any event a look shows what `open` showed
  pub look_opened : let opened = open_call p fair label next rule (watching.live p fair label next rule) in look_call p fair label next rule opened.monitor ≡ opened.answer
  unfolding watching.after
  look_opened = look_same [] tt

  -- ---- with refused events among them

  -- the accepted ones
  abbrev ones : List Event → List Event
  ones = of_asked.ones p fair label next rule given

  -- each of them is accepted behind those before it
  ones_taken : (seen : Bool) (expected : ℕ) (es : List Event) → TakenFrom p fair label next rule seen expected (taken_ones p fair label next rule seen expected es)
  unfolding taken_ones
  ones_taken seen expected [] = tt
  ones_taken seen expected (e ∷ es) = by (ones_taken true (number_of e.num expected + 1) es) (ones_taken seen expected es) (event_outcome e p.props seen expected) refl
    where
      From : Bool → ℕ → List Event → Type 0
      From seen n es = TakenFrom p fair label next rule seen n (taken_ones p fair label next rule seen n es)

      by : From true (number_of e.num expected + 1) es → From seen expected es → (o : Outcome) → event_outcome e p.props seen expected ≡ o → From seen expected (e ∷ es)
      by behind other (Ok _) ok = rw ok ((event_says p fair label next rule given e seen expected).0 ok, behind)
      by behind other (Err r) bad = rw bad other

  -- whatever events came, the monitor is the one behind those accepted. So what is said above holds of it
  pub monitor_any : (es : List Event) → (watching.after p fair label next rule es).monitor ≡ (watching.after p fair label next rule (ones es)).monitor
  monitor_any es = after_any p fair label next rule given es ∙ sym (ap (λ (w : Watched). w.monitor) (after_model p fair label next rule given (ones es) (ones_taken false 0 es)))

  -- and a look shows the lamp of the last accepted call
  pub look_any : (es : List Event) → look_call p fair label next rule (watching.after p fair label next rule es).monitor ≡ (watching.after p fair label next rule (ones es)).answer
  look_any es = ap (look_call p fair label next rule) (monitor_any es) ∙ look_same (ones es) (ones_taken false 0 es)

-- What the other calls answer behind a log (promise 3 of docs/PROMISES.md): `look` shows the lamp once more; and `witness`, lent a buffer of the room it asks for, writes a run of the asked
-- kind where there is one, and is refused by 13 where there is none. What is said of `witness` is proved in proofs/Asked.
use mathlib.Core.Logic.Iff
use Prim.Native.Nat.{ℕ, ◌+◌, ◌^◌, ◌≤◌}
use Rattle.std.proofs.Common.{arith, subst, ◌∙◌, le-ltb}
use Rattle.std.specs.Prelude.{◌≡◌, false, ltb, length, Result, Ok}
use Rattle.std.proofs.Math.Path.{sym, ap}
use Rattle.std.proofs.Math.Bool.{Bool, true, not}
use mathlib.Core.List.{List, [], ◌∷◌, ◌++◌}
use Rattle.meaning.specs.Limits.{most_stem, most_loop, witness_room}
use Rattle.meaning.specs.Formula.{Formula}
use Rattle.meaning.specs.Run.{Lasso}
use Rattle.meaning.specs.Run as run
use Rattle.meaning.specs.Event.{History, since, now}
use Rattle.meaning.specs.Verdict.{Chosen}
use Rattle.words.specs.Over.{over}
use Rattle.theory.specs.Join.{walk_then}
use Rattle.model.specs.Sets.{PairSet}
use Rattle.model.specs.Monitor as model
use Rattle.model.specs.Log as log
use Rattle.model.proofs.Log as log_laws
use Rattle.answers.specs.declared.Kind.TheVariants.{Room}
use Rattle.answers.specs.Results.{Outcome}
use Rattle.answers.specs.Chain.{unless, chain_accepts, unless_accepts}
use Rattle.plant.specs.declared.Plant.{Plant}
use Rattle.syntax.specs.declared.Rule.{Rule}
use Rattle.event_log.specs.declared.Event.{Event}
use Rattle.checks.specs.Input.{Input}
use Rattle.sides.specs.declared.Monitor.{Monitor}
use Rattle.sides.specs.Held.{model_of}
use Rattle.event_numbers.specs.Numbers.{number_of}
use Rattle.monitor.specs.declared.Watched.{Watched}
use Rattle.monitor.specs.Calls.{lamp_of, lit, look_call}
use Rattle.monitor.specs.Promises.{Fits, look_accepted}
use Rattle.watching.specs.Watching as watching
use Rattle.watching.specs.Filled.{expected_from, filled}
use Rattle.watching.specs.Watching.{TakenFrom, AllTaken, taken_ones}
use Rattle.watching.proofs.Watching.{after_model}
use Rattle.walk.specs.declared.Lengths.{Lengths}
use Rattle.answers.specs.declared.Refusal.{Refusal}
use Rattle.witness.specs.Calls.{AnsweredAs, Answered, asked_of}

-- a run of the asked kind goes on by what was written: r tells how many states the stem has and the loop, within 01's bounds, and the buffer begins with their numbers, the other bytes as they were.
-- With some walk along the events before it, it is a run that agrees with them and keeps the rule, or breaks it
pub record GoesOn (T : run.Plant) (f : Formula) (h : History) (b : Bool) (before bytes : List ℕ) (r : Result Lengths Refusal) : Type 0 where
  pub lasso : Lasso
  pub lengths : r ≡ Ok (record { stem = length lasso.stem; turn = length lasso.loop })
  pub written : bytes ≡ over (lasso.stem ++ lasso.loop) before
  pub short_stem : length lasso.stem ≤ most_stem
  pub short_loop : length lasso.loop ≤ most_loop
  pub walk : List ℕ
  pub long : length walk ≡ now h
  pub chosen : Chosen T f b h (walk_then walk lasso)

module _ (p : Plant) (fair label next : List ℕ) (rule : Rule) (given : Input p fair label next rule) where
  abbrev pub T : run.Plant
  T = watching.T p fair label next rule

  abbrev pub f : Formula
  f = watching.f p fair label next rule

  -- behind accepted events the number expected is at most 2 ^ 32
  expected_low : (seen : Bool) (n : ℕ) (es : List Event) → TakenFrom p fair label next rule seen n es → n ≤ 2 ^ 32 → expected_from n es ≤ 2 ^ 32
  expected_low seen n [] all low = low
  expected_low seen n (e ∷ es) (t, ts) low = expected_low true (number_of e.num n + 1) es ts (omega (arith, t.1.number))

  module _ (es : List Event) (taken : AllTaken p fair label next rule es) where
    abbrev pub h : History
    h = since (filled es)

    -- the monitor that the calls give, and the model's
    abbrev pub m : Monitor
    m = (watching.after p fair label next rule es).monitor

    abbrev pub seen : model.Monitor
    seen = log.watched T f (filled es)

    pub is_seen : model_of m ≡ seen
    is_seen = ap (λ (w : Watched). model_of w.monitor) (after_model p fair label next rule given es taken)

    sets : (b : Bool) → PairSet T f (model.side (model_of m) b)
    sets b = subst (λ (x : model.Monitor). PairSet T f (model.side x b)) (sym is_seen) ((log_laws.log_means T f given.table given.few (filled es)).sets b)

    -- numbers are left, or used up
    pub low : m.expected ≤ 2 ^ 32
    low = subst (λ (w : Watched). w.monitor.expected ≤ 2 ^ 32) (sym (after_model p fair label next rule given es taken)) (expected_low false 0 es taken (omega arith))

    fits : Fits p fair label next rule (watching.full p fair label next rule given) m
    fits = (sets true, (sets false, low))

    -- ---- looking

    -- a look shows the lamp that the last call showed
    pub look_same : look_call p fair label next rule m ≡ (watching.after p fair label next rule es).answer
    unfolding look_call
    look_same =
        ap (λ (o : Outcome). lit o (model_of m)) ((look_accepted p fair label next rule (watching.full p fair label next rule given) m).1 (given, fits))
        ∙ ap lamp_of is_seen ∙ sym (ap (λ (w : Watched). w.answer) (after_model p fair label next rule given es taken))

    module _ (b : Bool) where
      -- a buffer of 01's room
      module _ (room : ℕ) (enough : witness_room ≤ room) where
        -- no check but 13 is left
        pub asked : asked_of p fair label next rule m room ≡ Ok tt
        unfolding asked_of
        asked =
            (chain_accepts _ (unless (not (ltb room witness_room)) Room)).1 (
              (look_accepted p fair label next rule (watching.full p fair label next rule given) m).1 (given, fits),
              (unless_accepts (not (ltb room witness_room)) Room).1 (ap not (le-ltb room witness_room enough)),
            )

      -- so by its contract, of any buffer of that room: what it answers and what the buffer then holds
      module _ (before bytes : List ℕ) (enough : witness_room ≤ length before) (r : Result Lengths Refusal) (answered : Answered p fair label next rule m b before bytes r) where
        abbrev pub As : Outcome → Type 0
        As o = AnsweredAs T f (model.side (model_of m) b) o before bytes r

  -- ---- with refused events among them

  -- the accepted ones
  abbrev pub ones : List Event → List Event
  ones es = taken_ones p fair label next rule false 0 es

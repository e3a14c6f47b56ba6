-- MANY EVENTS IN ONE CALL SHOW WHAT STEPPING SHOWS: of the bytes that `make_machine` wrote, `look_through` writes for each event what the box shows behind it
-- (`many_agree`, in proofs/Many). `through_of` (machine_events/specs/Through) is by the contract of `look_through` what it answers and writes.
use Prim.Native.Nat.{ℕ, zero, suc, ◌+◌, ◌-◌, ◌*◌, ◌/◌, ◌<◌}
use Rattle.std.specs.Prelude.{◌≡◌, refl, Bool, ◌&&◌, cond, leb, ltb, get_or, replicate, Result, Ok, Err}
use Rattle.std.proofs.Math.Path.{sym, ap, subst}
use Rattle.std.proofs.Common.{ap₂, ◌∙◌, add-zero}
use Rattle.std.proofs.Math.Bool.{true, false}
use mathlib.Core.List.{List, [], ◌∷◌, ◌++◌, map, map-append}
use native.Mathlib.Omega.{arith}
use Rattle.std.proofs.Math.ListN.{length}
use Rattle.words.specs.Below.{list_below}
use Rattle.meaning.specs.Event as meaning
use Rattle.answers.specs.declared.Kind.TheVariants.{Value}
use Rattle.answers.specs.declared.Verdict.TheVariants.{OutOfModel}
use Rattle.answers.specs.declared.Lamp.{Lamp}
use Rattle.answers.specs.declared.Refusal.{Refusal}
use Rattle.answers.specs.Results.{Answer}
use Rattle.answers.specs.Paper as paper
use Rattle.answers.specs.Paper.{refused_at}
use Rattle.plant.specs.declared.Plant.{Plant}
use Rattle.syntax.specs.declared.Rule.{Rule}
use Rattle.event_log.specs.declared.Event.{Event}
use Rattle.event_log.specs.Legal.{event_of}
use Rattle.checks.specs.Input.{Input}
use Rattle.event_numbers.specs.Numbers.{unseen}
use Rattle.watching.specs.Filled.{seen_from, expected_from, filled_from, filled, filled_append}
use Rattle.watching.specs.Watching.{after, TakenFrom, AllTaken}
use Rattle.fixed_machine.specs.declared.Size.{Size}
use Rattle.fixed_machine.specs.Machined.{Machined}
use Rattle.machine_lookup.specs.declared.Stand.{Stand}
use Rattle.machine_lookup.specs.Lookup.{stand_at}
use Rattle.machine_events.specs.Through as through
use Rattle.machine_events.specs.Through.{event_in, standing}
use Rattle.machine_promises.specs.LookUps.{bytes_of}

-- the events of the first n bytes
abbrev pub events_to : List ℕ → ℕ → List Event
events_to events n = list_below n (λ k. event_in (get_or events k 0))

-- the lamp that an answer shows; a refusal shows none, and stands for out-of-model here
abbrev pub lamp_of : Answer → Lamp
lamp_of (Ok lamp) = lamp
lamp_of (Err r) = record { verdict = OutOfModel; left = 0 }

-- lamps as bytes, one after another: the verdict's number, and `left`
unfoldable pub bytes_by : (ℕ → Lamp) → ℕ → List ℕ
bytes_by lamp zero = []
bytes_by lamp (suc n) = bytes_by lamp n ++ paper.number_of (lamp n).verdict ∷ (lamp n).left ∷ []

-- a byte's event has no number of its own, so before it none is missing
one_brings : (seen : Bool) (expected b : ℕ) → filled_from seen expected (event_in b ∷ []) ≡ event_of (event_in b) ∷ []
one_brings false expected b = refl
one_brings true expected b = ap (λ (k : ℕ). (replicate k unseen ++ event_of (event_in b) ∷ []) ++ []) none
  where
    none : expected - expected ≡ 0
    none = omega arith

pub gapless : (events : List ℕ) (n : ℕ) → filled (events_to events n) ≡ map event_of (events_to events n)
unfolding list_below
gapless events zero = refl
gapless events (suc n) =
    let es = events_to events n in
    filled_append false 0 es (event_in (get_or events n 0) ∷ [])
    ∙ ap₂ (λ (l r : List meaning.Event). l ++ r) (gapless events n) (one_brings (seen_from false es) (expected_from 0 es) (get_or events n 0))
    ∙ sym (map-append event_of es (event_in (get_or events n 0) ∷ []))

-- a row that stands is the one that was asked for
pub row_is : (bytes : List ℕ) (width row : ℕ) {s : Stand} → stand_at bytes width row ≡ Ok s → s.row ≡ row
unfolding stand_at
row_is bytes width row {s} e =
    sym (ap row_of e)
    ∙ by (ltb row (length bytes / width) && (leb (get_or bytes (row * width) 0) 3 && leb (get_or bytes (row * width + 1) 0) 64)) (get_or bytes (row * width) 0) (get_or bytes (row * width + 1) 0) (refused_at Value 0)
  where
    row_of : Result Stand Refusal → ℕ
    row_of (Ok s) = s.row
    row_of (Err r) = row

    by : (t : Bool) (v l : ℕ) (r : Refusal) → row_of (cond t (Ok (record { row = row; verdict = v; left = l })) (Err r)) ≡ row
    by true v l r = refl
    by false v l r = refl

module _ (p : Plant) (fair label next : List ℕ) (rule : Rule) where
  -- the first ones of events that are taken are taken
  pub taken_front : (es fs : List Event) (seen : Bool) (expected : ℕ) → TakenFrom p fair label next rule seen expected (es ++ fs) → TakenFrom p fair label next rule seen expected es
  taken_front [] fs seen expected taken = tt
  taken_front (e ∷ es) fs seen expected (first, rest) = (first, taken_front es fs _ _ rest)

  pub taken_below : (events : List ℕ) (n k : ℕ) → AllTaken p fair label next rule (events_to events (n + k)) → AllTaken p fair label next rule (events_to events n)
  unfolding list_below
  taken_below events n zero taken = subst (λ (m : ℕ). AllTaken p fair label next rule (events_to events m)) (add-zero n) taken
  taken_below events n (suc k) taken =
      taken_below events n k (taken_front (events_to events (n + k)) (event_in (get_or events (n + k) 0) ∷ []) false 0 (subst (λ (m : ℕ). AllTaken p fair label next rule (events_to events m)) up taken))
    where
      up : n + suc k ≡ suc (n + k)
      up = omega arith

  -- for each event of a byte the lamp that the box shows behind it; and so the bytes are
  pub record EachShown (events : List ℕ) (s : through.Shown) : Type 0 where
    pub lamp : ℕ → Lamp
    pub shows : (k : ℕ) → k < length events → (after p fair label next rule (events_to events (suc k))).answer ≡ Ok (lamp k)
    pub row : ℕ
    pub finds : s ≡ standing (length events) row (bytes_by lamp (length events))

  module _ (given : Input p fair label next rule) (work left old new : List ℕ) (size : Size) (answered : Machined p fair label next rule work left old new (Ok size)) (events : List ℕ) where
    abbrev pub es : ℕ → List Event
    es n = events_to events n

    abbrev pub bytes : List ℕ
    bytes = bytes_of size new

    abbrev pub lamp_at : ℕ → Lamp
    lamp_at k = lamp_of (after p fair label next rule (es (suc k))).answer

-- What the checks of a call give the code behind them.
use Rattle.std.specs.Prelude.{Ok, Err}
use Prim.Native.Nat.{ℕ, ◌+◌, ◌-◌, ◌^◌, ◌<◌}
use native.Mathlib.Omega.{arith}
use mathlib.Core.Path.{◌≡◌, refl, sym, ap, ap₂, ◌∙◌}
use mathlib.Core.Logic.Iff
use mathlib.Core.Bool.{Bool, true, false, So, ◌&&◌, cond, and-true, and_assoc}
use mathlib.Core.List.{List, foldl}
use lib.Dec.{leb}
use lib.ListN.{length}
use Rattle.words.specs.Truth.{and_says, says_and, says_same}
use Rattle.pairs.specs.declared.Pairs.{Pairs}
use Rattle.pairs.specs.Sets.{Words, join_of}
use Rattle.model.specs.Monitor as model
use Rattle.model.specs.Sets.{PairSet}
use Rattle.model.specs.Checks.{pairs_ok, pairs_says, event_ok, legal_says}
use Rattle.answers.specs.declared.Kind.TheVariants.{Value, IllegalEvent, Number as NumberKind}
use Rattle.answers.specs.declared.Refusal.{Refusal}
use Rattle.answers.specs.Results.{Answer}
use Rattle.answers.specs.Results.{Outcome}
use Rattle.answers.specs.Chain.{refused_as, and_then, unless, chain_accepts, unless_accepts}
use Rattle.plant.specs.declared.Plant.{Plant}
use Rattle.syntax.specs.declared.Rule.{Rule}
use Rattle.syntax.specs.Value.{held, count}
use Rattle.event_log.specs.declared.Event.{Event}
use Rattle.event_log.specs.Legal.{seen_of, legal_of, legal_exactly}
use Rattle.ways.specs.Ways.{ways_of}
use Rattle.checks.specs.Checks.{input_outcome, pairs_fit}
use Rattle.checks.specs.Exactly.{fit_is, join_says}
use Rattle.checks.specs.Input.{Input}
use Rattle.checks.proofs.Given.{accepted, right, parts_is}
use Rattle.sides.specs.declared.Monitor.{Monitor}
use Rattle.sides.specs.Held.{model_of, monitor_of}
use Rattle.event_numbers.specs.Numbers.{number_of, brings, in_turn, in_turn_says, event_outcome}
use Rattle.sides.specs.Sides.{opened_by, taken_in}
use Rattle.sides.proofs.SidesRight.{opened_right, taken_right}
use Rattle.monitor.specs.declared.Watched.{Watched}
use Rattle.monitor.specs.Calls.{no_monitor, lamp_of, watched, lit, table, formula, checked_of, open_call, monitor_fits, look_call, step_checked, step_call}
use Rattle.monitor.specs.Checked.{fit_of, held_of, caught_of}

abbrev watched_with : Answer → Monitor → Watched
watched_with a m = record { answer = a; monitor = m }

-- a new monitor with its lamp
lighted : (old : Monitor) (expected : ℕ) (n : model.Monitor) {m : Monitor} {a : Answer} → m ≡ monitor_of expected n → a ≡ lamp_of (model_of m) → watched_with a m ≡ watched (Ok tt) old expected n
lighted old expected n e l = ap₂ watched_with (l ∙ ap (λ (m : Monitor). lamp_of (model_of m)) e) e

and_self : (b : Bool) → (b && b) ≡ b
and_self true = refl
and_self false = refl

-- checks in turn
in_turn_lem : (a b c : Outcome) → and_then (and_then a b) c ≡ and_then a (and_then b c)
in_turn_lem (Ok _) b c = refl
in_turn_lem (Err r) b c = refl

-- 10 and 16 are such a chain
pub event_checks : (e : Event) (props : ℕ) (seen : Bool) (expected : ℕ)
    → event_outcome e props seen expected ≡ and_then (unless (legal_of e props) IllegalEvent) (unless (in_turn seen expected (number_of e.num expected)) NumberKind)
unfolding event_outcome
event_checks e props seen expected = go (legal_of e props) (in_turn seen expected (number_of e.num expected))
  where
    go : (b c : Bool) → cond b (cond c (Ok tt) (refused_as NumberKind)) (refused_as IllegalEvent) ≡ and_then (unless b IllegalEvent) (unless c NumberKind)
    go true true = refl
    go true false = refl
    go false c = refl

module _ (p : Plant) (fair label next : List ℕ) (rule : Rule) where
  -- check 9 of a set of pairs
  abbrev fine : List ℕ → Bool
  fine l = pairs_ok (table p fair label next rule) (formula p fair label next rule) l

  -- ---- an accepted table and rule

  module _ (i : Input p fair label next rule) where
    -- the tests of two sets of pairs, by the numbers that the code has for states and valuations
    pub fits_are : {k s n : ℕ} {x y : Bool} (one two : List ℕ) → k ≡ count (held rule) → s ≡ 2 ^ p.states - 1 → n ≡ 2 ^ k → x ≡ pairs_fit one s n → y ≡ pairs_fit two s n → (expected : ℕ)
        → (x && (y && leb expected (2 ^ 32))) ≡ (fit_of p fair label next rule one && (fit_of p fair label next rule two && leb expected (2 ^ 32)))
    fits_are one two ek es en ex ey expected =
        let many = en ∙ ap (λ (j : ℕ). 2 ^ j) (ek ∙ parts_is i) in
        ap₂ (λ (x y : Bool). x && (y && leb expected (2 ^ 32))) (ex ∙ ap₂ (pairs_fit one) es many) (ey ∙ ap₂ (pairs_fit two) es many)

    -- check 10 by the count of propositions that the code has
    pub legal_is : (e : Event) → legal_of e p.props ≡ event_ok (table p fair label next rule) (seen_of e)
    legal_is e =
        says_same (Iff.trans (legal_exactly (table p fair label next rule) e) (λ h. h.1, λ l. (omega (arith, i.table.few_props), l)))
        (legal_says (table p fair label next rule) (seen_of e))

  module _ (full : length rule.nodes ≡ 32) where
    -- a chain behind the check of table and rule, by what is so if they are accepted
    behind : (a b : Outcome) → (Input p fair label next rule → a ≡ b) → and_then (input_outcome p fair label next rule) a ≡ and_then (input_outcome p fair label next rule) b
    behind a b h = go (input_outcome p fair label next rule) refl
      where
        go : (o : Outcome) → o ≡ input_outcome p fair label next rule → and_then o a ≡ and_then o b
        go (Ok _) e = h (accepted p fair label next rule full e refl)
        go (Err r) e = refl

    -- of checks 1, 2 and 9
    both_accepted : (sets : Bool) → checked_of p fair label next rule sets ≡ Ok tt → Input p fair label next rule × So sets
    both_accepted sets e =
        let (i, o) = (chain_accepts (input_outcome p fair label next rule) (unless sets Value)).0 e in
        (accepted p fair label next rule full refl i, (unless_accepts sets Value).0 o)

    -- the code's checks are those of the model
    pub held_is : {one two : List ℕ} → Words one → Words two → (expected : ℕ)
        → held_of p fair label next rule one two expected ≡ checked_of p fair label next rule (fine one && (fine two && leb expected (2 ^ 32)))
    unfolding held_of
    held_is {one} {two} w x expected =
        behind _ _ (λ i. ap (λ (b : Bool). unless b Value) (ap₂ (λ (x y : Bool). x && (y && leb expected (2 ^ 32))) (fit_is _ _ i.table.few_states one w) (fit_is _ _ i.table.few_states two x)))

    -- ---- open

    module _ (live : Pairs) (w : Words live.words) {o : Outcome} (e : o ≡ held_of p fair label next rule live.words live.words 0) where
      abbrev new : model.Monitor
      new = model.opening (table p fair label next rule) (formula p fair label next rule) live.words

      opens_checked : o ≡ checked_of p fair label next rule (fine live.words)
      opens_checked =
          e ∙ held_is w w 0 ∙ ap (λ (b : Bool). checked_of p fair label next rule (fine live.words && b)) (and-true (fine live.words))
          ∙ ap (checked_of p fair label next rule) (and_self (fine live.words))

      pub open_input : o ≡ Ok tt → Input p fair label next rule
      open_input g = (both_accepted (fine live.words) (sym opens_checked ∙ g)).0

      pub not_opened : {r : Refusal} → o ≡ Err r → record { answer = Err r; monitor = no_monitor } ≡ open_call p fair label next rule live
      unfolding open_call
      not_opened g = ap (λ (x : Outcome). watched x no_monitor 0 new) (sym g ∙ opens_checked)

      pub is_opened : {m : Monitor} {a : Answer} → o ≡ Ok tt → m ≡ opened_by p.start (ways_of label rule).holds live.words → a ≡ lamp_of (model_of m) → watched_with a m ≡ open_call p fair label next rule live
      unfolding open_call
      is_opened g em el =
          let (i, sets) = both_accepted (fine live.words) (sym opens_checked ∙ g) in
          let z = (pairs_says _ _ live.words).0 sets in
          lighted no_monitor 0 new (em ∙ opened_right _ _ i.table i.few rule (right i) live.words z) el
          ∙ ap (λ (x : Outcome). watched x no_monitor 0 new) (sym g ∙ opens_checked)

    -- ---- look

    module _ (m : Monitor) (w : Words m.keeps.words) (x : Words m.breaks.words) {o : Outcome} (e : o ≡ held_of p fair label next rule m.keeps.words m.breaks.words m.expected) where
      pub not_lit : {r : Refusal} → o ≡ Err r → Err r ≡ look_call p fair label next rule m
      unfolding look_call
      not_lit g = ap (λ (y : Outcome). lit y (model_of m)) (sym g ∙ e ∙ held_is w x m.expected)

      pub is_lit : {a : Answer} → o ≡ Ok tt → a ≡ lamp_of (model_of m) → a ≡ look_call p fair label next rule m
      unfolding look_call
      is_lit g el = el ∙ ap (λ (y : Outcome). lit y (model_of m)) (sym g ∙ e ∙ held_is w x m.expected)

    -- ---- step

    module _ (live : Pairs) (m : Monitor) (event : Event) (w : Words live.words) (x : Words m.keeps.words) (y : Words m.breaks.words)
        {o : Outcome} (e : o ≡ caught_of p fair label next rule live m event) where
      abbrev after : model.Monitor
      after = foldl (model.step_of (table p fair label next rule) (formula p fair label next rule) live.words) (model_of m) (brings m.seen m.expected event)

      abbrev number : ℕ
      number = number_of event.num m.expected

      abbrev sets : Bool
      sets = fine live.words && monitor_fits p fair label next rule m

      step_checked_lem : o ≡ step_checked p fair label next rule live m event
      unfolding caught_of held_of
      step_checked_lem =
          e ∙ in_turn_lem (input_outcome p fair label next rule) _ _
          ∙ behind _ _ (λ i. ap₂ (λ (b : Bool) (o : Outcome). and_then (unless b Value) o) (both_sides i)
          (event_checks event p.props m.seen m.expected ∙ ap (λ (b : Bool). and_then (unless b IllegalEvent) (unless (in_turn m.seen m.expected number) NumberKind)) (legal_is i event)))
          ∙ sym (in_turn_lem (input_outcome p fair label next rule) _ _)
        where
          both_sides : Input p fair label next rule
              → (fit_of p fair label next rule live.words && (fit_of p fair label next rule (join_of m.keeps.words m.breaks.words) && leb m.expected (2 ^ 32))) ≡ sets
          both_sides i =
              ap₂ (λ (x y : Bool). x && (y && leb m.expected (2 ^ 32))) (fit_is _ _ i.table.few_states live.words w)
              (says_same (join_says _ _ i.table.few_states m.keeps.words m.breaks.words x y) (says_and (pairs_says _ _ m.keeps.words) (pairs_says _ _ m.breaks.words)))
              ∙ ap (λ (b : Bool). fine live.words && b) (and_assoc (fine m.keeps.words) (fine m.breaks.words) (leb m.expected (2 ^ 32)))

      step_accepted : o ≡ Ok tt → Input p fair label next rule × So sets
      step_accepted g = both_accepted sets ((chain_accepts (checked_of p fair label next rule sets) _).0 (sym step_checked_lem ∙ g)).0

      -- and the number fits 32 bits
      pub step_given : o ≡ Ok tt → Input p fair label next rule × (number < 2 ^ 32)
      step_given g =
          let (legal, turn) = (chain_accepts (unless (event_ok (table p fair label next rule) (seen_of event)) IllegalEvent) _).0 ((chain_accepts (checked_of p fair label next rule sets) _).0 (sym step_checked_lem ∙ g)).1 in
          ((step_accepted g).0, ((in_turn_says m.seen m.expected number).0 ((unless_accepts _ NumberKind).0 turn)).number)

      pub not_stepped : {r : Refusal} → o ≡ Err r → record { answer = Err r; monitor = m } ≡ step_call p fair label next rule live m event
      unfolding step_call
      not_stepped g = ap (λ (z : Outcome). watched z m (number + 1) after) (sym g ∙ step_checked_lem)

      pub is_stepped : {n : Monitor} {a : Answer} → o ≡ Ok tt → n ≡ taken_in label next (ways_of label rule) live.words m event → a ≡ lamp_of (model_of n) → watched_with a n ≡ step_call p fair label next rule live m event
      unfolding step_call
      is_stepped g en el =
          let (i, all) = step_accepted g in
          let (first, rest) = (and_says (fine live.words) _).0 all in
          let (keeps, others) = (and_says (fine m.keeps.words) _).0 rest in
          let (breaks, low) = (and_says (fine m.breaks.words) _).0 others in
          let z = (pairs_says _ _ live.words).0 first in
          lighted m (number + 1) after
          (en ∙ taken_right _ _ i.table i.few rule (right i) live.words z m (held ((pairs_says _ _ m.keeps.words).0 keeps) ((pairs_says _ _ m.breaks.words).0 breaks)) event) el
          ∙ ap (λ (z : Outcome). watched z m (number + 1) after) (sym g ∙ step_checked_lem)
        where
          held : PairSet (table p fair label next rule) (formula p fair label next rule) m.keeps.words → PairSet (table p fair label next rule) (formula p fair label next rule) m.breaks.words
              → (b : Bool) → PairSet (table p fair label next rule) (formula p fair label next rule) (model.side (model_of m) b)
          held k b true = k
          held k b false = b

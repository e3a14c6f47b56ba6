-- What the check finds, by which of its tests was the first to fail.
use Rattle.std.specs.Prelude.{ℕ, ◌<◌, ◌≡◌, Bool, true, false, List, length, Result, Ok, Err}
use Rattle.plant.specs.declared.Plant.{Plant}
use Rattle.event_log.specs.declared.Event.{Event}
use Rattle.syntax.specs.declared.Rule.{Rule}
use Rattle.words.specs.Truth.{and_says}
use Rattle.words.specs.Tests.{lt_says}
use Rattle.words.specs.Below.{all_below}
use Rattle.around.specs.Along.{labels_of}
use Rattle.around.specs.Fill.{around_of}
use Rattle.shown.specs.declared.Failing.{Failing}
use Rattle.shown.specs.declared.Failing.TheVariants.{Start, Moves, Fairness, Agreement, Value}
use Rattle.shown.specs.Tests.{starts_of, move_at, moves_of, fair_of, agree_of, kept_of, first_of, checked_of}

-- where the moves are right there is a loop
pub moves_loop : (next : List ℕ) (states : ℕ) (run : List ℕ) (s : ℕ) → moves_of next states run s ≡ true → s < length run
unfolding moves_of
moves_loop next states run s h = (lt_says s (length run)).0 ((and_says _ (all_below (length run) (move_at next states run s))).0 h).0

module _ (p : Plant) (fair label next : List ℕ) (rule : Rule) (event : ℕ → Event) (lines mark : ℕ) (keeps : Bool) (run : List ℕ) (s : ℕ) where
  abbrev found : Result (Unit {0}) Failing
  found = checked_of p fair label next rule event lines mark keeps run s

  pub found_start : starts_of p.start p.states run ≡ false → Err Start ≡ found
  unfolding checked_of first_of
  found_start a = rw a

  module _ (a : starts_of p.start p.states run ≡ true) where
    pub found_moves : moves_of next p.states run s ≡ false → Err Moves ≡ found
    unfolding checked_of first_of
    found_moves b = rw (a, b)

    module _ (b : moves_of next p.states run s ≡ true) where
      pub found_fairness : fair_of fair run s ≡ false → Err Fairness ≡ found
      unfolding checked_of first_of
      found_fairness c = rw (a, b, c)

      module _ (c : fair_of fair run s ≡ true) where
        pub found_agreement : agree_of label run s event lines ≡ false → Err Agreement ≡ found
        unfolding checked_of first_of
        found_agreement d = rw (a, b, c, d)

        module _ (d : agree_of label run s event lines ≡ true) (v : Bool) (h : v ≡ around_of rule (labels_of label run) s mark) where
          pub found_value : kept_of keeps v ≡ false → Err Value ≡ found
          unfolding checked_of first_of
          found_value e = rw (a, b, c, d, ← h, e)

          pub found_correct : kept_of keeps v ≡ true → (Ok tt) ≡ found
          unfolding checked_of first_of
          found_correct e = rw (a, b, c, d, ← h, e)

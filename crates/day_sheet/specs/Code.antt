-- The sheet behind an event, as code makes it of what a rule says. That it is the one of Calls is proved in Right.
use Rattle.std.specs.Prelude.{ℕ, zero, suc, ◌+◌, ◌-◌, ◌≤◌, ◌≡◌, Bool, true, false, List}
use Rattle.std.proofs.Common.{arith, ◌∙◌}
use Rattle.std.proofs.Math.Numerals.{add-one}
use Rattle.std.proofs.Math.Path.{refl}
use Rattle.pairs.specs.declared.Pairs.{Pairs}
use Rattle.answers.specs.declared.Verdict.{Verdict}
use Rattle.answers.specs.declared.Lamp.{Lamp}
use Rattle.event_log.specs.declared.Event.{Event}
use Rattle.event_log.specs.Log.{nothing}
use Rattle.ways.specs.declared.Ways.{Ways}
use Rattle.sides.specs.declared.Monitor.{Monitor}
use Rattle.sides.specs.Held.{model_of, lamp_in}
use Rattle.event_numbers.specs.Numbers.{number_of, missing_of}
use Rattle.sides.specs.Sides.{advanced_in}
use Rattle.stretches.specs.declared.DaySheet.{DaySheet}
use Rattle.stretches.specs.Sheet.{noted_by}
use Rattle.day_sheet.specs.Calls.{opens_of}

module _ (label next : List ℕ) (w : Ways) (live : Pairs) (m : Monitor) where
  -- behind so many events that were not received
  unfoldable pub unseen_to : ℕ → Monitor
  unseen_to zero = m
  unseen_to (suc k) = advanced_in label next w live.words (unseen_to k) nothing

  -- each noted, from a number on
  unfoldable pub unseen_sheet : DaySheet → ℕ → ℕ → DaySheet
  unseen_sheet s from zero = s
  unseen_sheet s from (suc k) = noted_by (unseen_sheet s from k) false (from + k) (lamp_in (model_of (unseen_to (suc k)))).verdict

  -- and then the event itself
  abbrev pub sheet_in : DaySheet → Event → Verdict → DaySheet
  sheet_in s e v =
      let n = number_of e.num m.expected in
      noted_by (unseen_sheet s (n - missing_of m.seen m.expected n) (missing_of m.seen m.expected n)) (opens_of m.seen e.new) n v

  -- ---- for code: a turn of the loop

  pub unseen_none : m ≡ unseen_to 0
  unfolding unseen_to
  unseen_none = refl

  pub unseen_turn : (k : ℕ) {now new : Monitor} → now ≡ unseen_to k → new ≡ advanced_in label next w live.words now nothing → new ≡ unseen_to (k + 1)
  unfolding unseen_to
  unseen_turn k is on = rw add-one (rw is at on)

  pub sheet_none : (s : DaySheet) (from : ℕ) → s ≡ unseen_sheet s from 0
  unfolding unseen_sheet
  sheet_none s from = refl

  pub sheet_turn : (s : DaySheet) (from k : ℕ) {day after : DaySheet} {new : Monitor} {shown : Lamp} → day ≡ unseen_sheet s from k → new ≡ unseen_to (k + 1) → shown ≡ lamp_in (model_of new)
      → after ≡ noted_by day false (from + k) shown.verdict → after ≡ unseen_sheet s from (k + 1)
  unfolding unseen_sheet
  sheet_turn s from k is new shows noted = noted ∙ rw (add-one, is, shows, new) (rw add-one refl)

-- no more are missing than there are numbers
pub missing_few : (seen : Bool) (expected n : ℕ) → missing_of seen expected n ≤ n
missing_few true expected n = omega arith
missing_few false expected n = omega arith

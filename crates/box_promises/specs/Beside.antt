-- What stands beside the box: a day in which an event was not noted, and a store that did not keep a sheet, are as they were.
use Rattle.std.specs.Prelude.{ℕ, ◌≡◌, refl, List, Result, Ok, Err}
use Rattle.answers.specs.Results as answers
use Rattle.slate.specs.Box.{with_monitor}
use Rattle.day_sheet.specs.declared.Noted.{Noted}
use Rattle.day_words.specs.Words.{with_sheet}
use Rattle.sheet_store.specs.declared.Sheets.{Sheets}
use Rattle.settings.specs.declared.SheetRefusal.{SheetRefusal}
use Rattle.sheet_store.specs.declared.Added.{Added}
use Rattle.store_words.specs.Words.{words_of, next_by, next_words}
use Rattle.told.specs.Told.{shown_as, held_as}
use Rattle.box_calls.specs.Calls.{box_by}
use Rattle.box_day.specs.Day.{box_noted, day_noted}

-- a call that answers another number than 0 leaves every word of box and day
pub refused_leaves : (w d : List ℕ) (n : Noted) → ((shown_as n.answer).number ≡ 0 → ⊥) → (box_noted w n ≡ w) × (day_noted d n ≡ d)
refused_leaves w d n = go n.answer
  where
    go : (a : answers.Answer) → ((shown_as a).number ≡ 0 → ⊥) → (box_by a (with_monitor w n.monitor) w ≡ w) × (box_by a (with_sheet d n.sheet) d ≡ d)
    go (Ok l) other = absurd (other refl)
    go (Err r) other = (refl, refl)

-- a sheet that is not kept leaves every word of the store
pub not_kept_stays : (w : List ℕ) (a : Added) → ((held_as a.answer).number ≡ 0 → ⊥) → next_words w a ≡ w
unfolding next_words
not_kept_stays w a = go a.answer
  where
    go : (x : Result Sheets SheetRefusal) → ((held_as x).number ≡ 0 → ⊥) → next_by x (words_of a.store) w ≡ w
    go (Ok n) other = absurd (other refl)
    go (Err r) other = refl

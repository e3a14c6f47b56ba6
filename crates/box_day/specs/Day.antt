-- WHAT NOTING AN EVENT ANSWERS for what a box and a day hold, and the words behind it.
use Rattle.std.specs.Prelude.{ℕ, List}
use Rattle.event_log.specs.declared.Event.{Event}
use Rattle.opened.specs.Opened.{fair_in, label_in, next_in}
use Rattle.slate.specs.declared.Held.{Held}
use Rattle.slate.specs.Box.{with_monitor}
use Rattle.stretches.specs.declared.DaySheet.{DaySheet}
use Rattle.day_sheet.specs.declared.Noted.{Noted}
use Rattle.day_sheet.specs.Calls.{noted_of}
use Rattle.day_words.specs.Words.{with_sheet}
use Rattle.box_calls.specs.Calls.{box_by}

-- the call, for what a box and a day hold
unfoldable pub noted_in : Held → DaySheet → Event → Noted
noted_in h s e = noted_of h.table.plant (fair_in h.table) (label_in h.table) (next_in h.table) h.rule h.live h.monitor s e

-- an event that is refused leaves all words as they were, any other changes monitor and sheet
abbrev pub box_noted : List ℕ → Noted → List ℕ
box_noted w n = box_by n.answer (with_monitor w n.monitor) w

abbrev pub day_noted : List ℕ → Noted → List ℕ
day_noted w n = box_by n.answer (with_sheet w n.sheet) w

-- More of specs/Lower. A text with each capital digit made small, byte by byte. Of a table's text this is what `small_of` (text/specs/Written) says by slots.
use Rattle.std.specs.Prelude.{ℕ, ◌≡◌, List, map}
use Rattle.meaning.specs.Run.{Plant}
use Rattle.text.specs.Written.{text_of}
use Rattle.text.specs.Place.{Fills}
use Rattle.plant.specs.Written.{table_slots}
use Rattle.plant_writer.specs.Lower.{lower, lowered, table_plain}

-- a text that fills the slots of a table is, made small, the table's text
pub table_lowered : (t : Plant) (s : List ℕ) → Fills s (table_slots t) → map lower s ≡ text_of (table_slots t)
table_lowered t s f = lowered s (table_slots t) (table_plain t) f

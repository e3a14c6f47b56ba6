-- More of specs/Pieces. A table's text in the pieces in which it is written, and what a piece needs of room.
use Rattle.std.specs.Prelude.{ℕ, ◌+◌, ◌-◌, ◌≤◌, ◌≡◌, List, ◌++◌, length}
use Rattle.std.proofs.Common.{sym, ap, ◌∙◌, arith}
use Rattle.std.proofs.lemmas.List.{length-map}
use Rattle.writing.specs.Put.{Put}
use Rattle.text.specs.Slot.{Slot, written}
use Rattle.text.specs.Number.{width_of}
use Rattle.text.specs.Written.{text_of}
use Rattle.plant.specs.declared.Plant.{Plant}
use Rattle.plant.specs.Table.{plant_of}
use Rattle.plant.specs.Written.{lines_below, table_text}
use Rattle.plant_writer.specs.Pieces.{Writable, in_pieces, row_lines}
use Rattle.plant_writer.specs.Pieces as of_pieces

-- ---- the whole

module _ (p : Plant) (fair label next : List ℕ) where
  abbrev head_of : List Slot
  head_of = of_pieces.head_of p fair label next

  abbrev fair_of : List Slot
  fair_of = of_pieces.fair_of p fair label next

  abbrev rows_of : List Slot
  rows_of = of_pieces.rows_of p fair label next

  module _ {room : ℕ} (w : Writable p fair label next room) where
    whole : table_text (plant_of p fair label next) ≡ text_of ((head_of ++ fair_of) ++ rows_of)
    whole = ap text_of (in_pieces (plant_of p fair label next) ∙ ap (λ (n : ℕ). (head_of ++ fair_of) ++ lines_below n (row_lines (width_of p.props) label next)) (sym w.labels))

    pub all_fit : 0 + length ((head_of ++ fair_of) ++ rows_of) ≤ room
    all_fit = omega (arith, w.fits, ap length whole, length-map ((head_of ++ fair_of) ++ rows_of) written)

    pub put_whole : {before now : List ℕ} {end : ℕ} → Put before 0 (text_of ((head_of ++ fair_of) ++ rows_of)) now end → Put before 0 (table_text (plant_of p fair label next)) now end
    put_whole q = rw whole q

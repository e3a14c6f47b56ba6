-- The readings' examples, computed.
use Rattle.std.specs.Prelude.{◌≡◌, refl, List, [], ◌∷◌, ◌++◌, ℕ, Ok, Err}
use Rattle.sheet.specs.Sheet.{edition_key, rule_key, closing_key}
use Rattle.sheet.specs.Machine.{
  line_by,
  begun,
  key_byte,
  key_size,
  named,
  lead_zero,
  ranged,
  digit_grown,
  byte_grown,
  value_grown,
  ended,
  state_after,
  lines_as,
  file_as,
  filed,
  scan_from,
  scan_of,
}

-- a line with its LF
abbrev line : List ℕ → List ℕ → List ℕ
line key v = key ++ (v ++ 10 ∷ [])

-- each text with its answer: no line at all; the greatest numbers; 65536 at its last digit; 100 at its third; 0 and 05; no rule; the key cut off; lines out of order and twice
pub examples :
    (scan_of [] ≡ Ok (lines_as 0 0 0 0)) × (scan_of (line edition_key (54 ∷ 53 ∷ 53 ∷ 51 ∷ 53 ∷ []) ++ line closing_key (57 ∷ 57 ∷ [])) ≡ Ok (lines_as 5 0 2 65535))
    × (scan_of (line edition_key (54 ∷ 53 ∷ 53 ∷ 51 ∷ 54 ∷ [])) ≡ Err 12) × (scan_of (line closing_key (49 ∷ 48 ∷ 48 ∷ [])) ≡ Err 10) × (scan_of (line edition_key (48 ∷ [])) ≡ Err 8)
    × (scan_of (line closing_key (48 ∷ 53 ∷ [])) ≡ Err 9) × (scan_of (line rule_key []) ≡ Err 5) × (scan_of (101 ∷ 100 ∷ []) ≡ Err 2)
    × (scan_of (line rule_key (112 ∷ []) ++ line edition_key (49 ∷ [])) ≡ Err 7) × (scan_of (line closing_key (48 ∷ []) ++ line closing_key (48 ∷ [])) ≡ Err 10)
unfolding line_by begun key_byte key_size named lead_zero ranged digit_grown byte_grown value_grown ended state_after file_as filed scan_from scan_of
examples = (refl, refl, refl, refl, refl, refl, refl, refl, refl, refl)

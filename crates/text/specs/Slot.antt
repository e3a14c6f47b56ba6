-- A text form is a list of slots, and each slot admits certain bytes. The values of a form have different slots; a text is of the form
-- where its bytes fit the slots of some value.
use Rattle.std.specs.Prelude.{ℕ, suc, ◌+◌, ◌-◌, ◌%◌, Bool, cond, List, [], ◌∷◌, map, ltb, eqb}

-- `exactly b` admits the byte b, `digit n` the hexadecimal digits of the value n % 16
pub data Slot : Type 0 where
  exactly : ℕ → Slot
  digit : ℕ → Slot

-- the value of a byte as a hexadecimal digit, small or capital, and 16 where it is none. The one place that says which digits are read.
unfoldable pub digit_value : ℕ → ℕ
digit_value b =
    cond (ltb b 48) 16 (cond (ltb b 58) (b - 48) (cond (ltb b 65) 16 (cond (ltb b 71) (b - 55) (cond (ltb b 97) 16 (cond (ltb b 103) (b - 87) 16)))))

-- the digit that is written: a small one
unfoldable pub digit_byte : ℕ → ℕ
digit_byte v = cond (ltb v 10) (v + 48) (v + 87)

-- whether a slot admits a byte
unfoldable pub admits : Slot → ℕ → Bool
admits (exactly x) b = eqb b x
admits (digit n) b = eqb (digit_value b) (n % 16)

-- the byte that is written into a slot
unfoldable pub written : Slot → ℕ
written (exactly x) = x
written (digit n) = digit_byte (n % 16)

-- how many bytes of a text fit, before the first that does not, or the end of the text or of the slots
unfoldable pub matched : List ℕ → List Slot → ℕ
matched [] ts = 0
matched (b ∷ s) [] = 0
matched (b ∷ s) (t ∷ ts) = cond (admits t b) (suc (matched s ts)) 0

-- the bytes of a text that is known
abbrev pub word : List ℕ → List Slot
word l = map exactly l

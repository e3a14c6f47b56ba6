-- What a settings sheet is (02, j), and where a text that is none is refused. This is to be believed; everything else is proved of it.
use Rattle.std.specs.Prelude.{ℕ, suc, ◌+◌, ◌*◌, ◌-◌, ◌≤◌, ◌<◌, ◌≡◌, List, [], ◌∷◌, ◌++◌, length, get_or, take}
use Rattle.sheet.specs.declared.Key.{Key}
use Rattle.sheet.specs.declared.Key.TheVariants.{Edition, Rule, Closing}

-- the keys, each with its `=`: edition=, rule=, closing=
abbrev pub edition_key : List ℕ
edition_key = 101 ∷ 100 ∷ 105 ∷ 116 ∷ 105 ∷ 111 ∷ 110 ∷ 61 ∷ []

abbrev pub rule_key : List ℕ
rule_key = 114 ∷ 117 ∷ 108 ∷ 101 ∷ 61 ∷ []

abbrev pub closing_key : List ℕ
closing_key = 99 ∷ 108 ∷ 111 ∷ 115 ∷ 105 ∷ 110 ∷ 103 ∷ 61 ∷ []

-- each byte is from lo to hi
pub data Each (lo hi : ℕ) : List ℕ → Type 0 where
  none : Each lo hi []
  more : {b : ℕ} {v : List ℕ} → lo ≤ b → b ≤ hi → Each lo hi v → Each lo hi (b ∷ v)

-- the number that digits make behind those that made n
unfoldable pub number_from : ℕ → List ℕ → ℕ
number_from n [] = n
number_from n (b ∷ v) = number_from (n * 10 + (b - 48)) v

abbrev pub number_of : List ℕ → ℕ
number_of v = number_from 0 v

-- a decimal number from lo to hi, with no leading zero
pub record Decimal (lo hi : ℕ) (v : List ℕ) : Type 0 where
  pub digits : Each 48 57 v
  pub some : 0 < length v
  pub no_leading_zero : 1 < length v → get_or v 0 0 ≡ 48 → ⊥
  pub least : lo ≤ number_of v
  pub most : number_of v ≤ hi

-- the value of `rule`: some bytes, at most 512, each of which can be printed
pub record Printable (v : List ℕ) : Type 0 where
  pub bytes : Each 32 126 v
  pub some : 0 < length v
  pub most : length v ≤ 512

-- what stands in a sheet: the value of each key, and no byte where the key has no line (no value of a line is empty)
pub record Values : Type 0 where
  pub edition : List ℕ
  pub rule : List ℕ
  pub closing : List ℕ

-- a line, key=value and LF; none where there is no value
unfoldable pub line_of : List ℕ → List ℕ → List ℕ
line_of key [] = []
line_of key (b ∷ v) = key ++ (b ∷ v) ++ 10 ∷ []

-- the lines in their order
unfoldable pub text_of : Values → List ℕ
text_of x = line_of edition_key x.edition ++ (line_of rule_key x.rule ++ line_of closing_key x.closing)

-- a value that is as it should be, or that is left out
pub data Given (Fine : List ℕ → Type 0) : List ℕ → Type 0 where
  left_out : Given Fine []
  given : {v : List ℕ} → Fine v → Given Fine v

-- the text is a sheet, with these values
pub record IsSheet (s : List ℕ) (x : Values) : Type 0 where
  pub text : s ≡ text_of x
  pub edition : Given (Decimal 1 65535) x.edition
  pub rule : Given Printable x.rule
  pub closing : Given (Decimal 0 99) x.closing

-- the text begins a sheet
pub record Begins (p : List ℕ) : Type 0 where
  pub rest : List ℕ
  pub values : Values
  pub sheet : IsSheet (p ++ rest) values

-- the text is no sheet, and i is the first byte at which what is read, that byte included, begins none; the length where it only stops too soon
pub record StopsAt (s : List ℕ) (i : ℕ) : Type 0 where
  pub no_sheet : (x : Values) → IsSheet s x → ⊥
  pub within : i ≤ length s
  pub begins : Begins (take i s)
  pub stops : i < length s → Begins (take (suc i) s) → ⊥

-- where a text is refused by 18: one over 1,024 bytes at 1,024, any other where it stops to begin a sheet
pub data Malformed (s : List ℕ) : ℕ → Type 0 where
  too_long : 1024 < length s → Malformed s 1024
  stops_at : {i : ℕ} → length s ≤ 1024 → StopsAt s i → Malformed s i

-- the value of a key
abbrev pub value_of : Key → Values → List ℕ
value_of Edition x = x.edition
value_of Rule x = x.rule
value_of Closing x = x.closing

-- where it begins in the text: behind the lines before it, and its key
abbrev pub from_of : Key → Values → ℕ
from_of Edition x = 8
from_of Rule x = length (line_of edition_key x.edition) + 5
from_of Closing x = length (line_of edition_key x.edition) + length (line_of rule_key x.rule) + 8

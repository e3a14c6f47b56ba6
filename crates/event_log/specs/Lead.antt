-- What leads a log line: its event's number, or nothing.
use Rattle.std.specs.Prelude.{ℕ, ◌+◌, ◌^◌, ◌≤◌, ◌<◌, ◌≡◌, refl, Bool, true, false, cond, List, [], ◌∷◌, ◌++◌, length}
use Rattle.std.proofs.Common.{sym, ap, arith, length-append}
use Rattle.std.proofs.lemmas.Bool.{false≢true}
use Rattle.text.specs.Slot.{Slot, exactly, word, matched}
use Rattle.text.specs.Number.{hex_slots}
use Rattle.text.specs.Form.{Form, Reads, led, ended, reads_led, reads_ended}
use Rattle.text.specs.Hex.{hex, hex_reads, hex_length}
use Rattle.text.specs.After.{cursor_after, cursor}
use Rattle.text.specs.Read.{IsHex}
use Rattle.text.specs.Took.{Took, took_led, took_ended, hex_took}
use Rattle.text.specs.declared.Cursor.{Cursor}
use Rattle.event_log.specs.declared.Num.{Num}
use Rattle.event_log.specs.declared.Num.TheVariants.{Expected, Given}

-- `num=`, and the space behind the number
abbrev pub num_key : List ℕ
num_key = 110 ∷ 117 ∷ 109 ∷ 61 ∷ []

abbrev pub space : List ℕ
space = 32 ∷ []

-- whether a number is given
abbrev pub is_given : Num → Bool
is_given Expected = false
is_given (Given n) = true

-- the number given, and 0 where none is
abbrev pub given_of : Num → ℕ
given_of Expected = 0
given_of (Given n) = n

-- `num=`, eight digits, a space
abbrev number : Form ℕ
number = ended (led (word num_key) (hex 8)) (word space)

-- this where a number is given, and nothing otherwise
abbrev pub num_slots : Num → List Slot
num_slots Expected = []
num_slots (Given n) = (word num_key ++ hex_slots 8 n) ++ word space

-- a number of 32 bits, or none: the one or the other on all lines of a log
unfoldable pub leading : Bool → Form Num
leading numbered =
    record {
      Ok = λ n. (is_given n ≡ numbered) × (given_of n < 16 ^ 8);
      slots = num_slots;
      guess = λ s. cond numbered (Given (number.guess s)) Expected;
    }

number_reads : Reads number
number_reads = reads_ended (reads_led (hex_reads 8) (word num_key)) (word space)

pub leading_reads : (numbered : Bool) → Reads (leading numbered)
unfolding leading ended led hex
leading_reads true = record { fine = λ s. (refl, number_reads.fine s); exact = exact; best = best }
  where
    exact : (a : Num) (s : List ℕ) → (is_given a ≡ true) × (given_of a < 16 ^ 8) → matched s (num_slots a) ≡ length (num_slots a) → Given (number.guess s) ≡ a
    exact Expected s ok h = absurd (false≢true ok.0)
    exact (Given n) s ok h = ap Given (number_reads.exact n s ok.1 h)

    best : (a : Num) (s : List ℕ) → (is_given a ≡ true) × (given_of a < 16 ^ 8) → matched s (num_slots a) ≤ matched s (num_slots (Given (number.guess s)))
    best Expected s ok = absurd (false≢true ok.0)
    best (Given n) s ok = number_reads.best n s ok.1
leading_reads false = record { fine = λ s. (refl, omega arith); exact = exact; best = best }
  where
    exact : (a : Num) (s : List ℕ) → (is_given a ≡ false) × (given_of a < 16 ^ 8) → matched s (num_slots a) ≡ length (num_slots a) → Expected ≡ a
    exact Expected s ok h = refl
    exact (Given n) s ok h = absurd (false≢true (sym ok.0))

    best : (a : Num) (s : List ℕ) → (is_given a ≡ false) × (given_of a < 16 ^ 8) → matched s (num_slots a) ≤ matched s []
    best Expected s ok = omega arith
    best (Given n) s ok = absurd (false≢true (sym ok.0))

-- it has 13 bytes, or none
pub leading_long : (n : Num) → length (num_slots n) ≡ cond (is_given n) 13 0
leading_long Expected = refl
leading_long (Given n) = omega (arith, length-append (hex_slots 8 n) (word space), hex_length 8 n)

-- what a call reads of it
pub number_took :
    (s : List ℕ) (c₁ c₂ c₃ : Cursor) (n : ℕ) → (c₁ ≡ cursor_after s (cursor 0 0) (word num_key)) × (c₁.at ≡ 4) → IsHex s c₁ 8 n c₂ → (c₃ ≡ cursor_after s c₂ (exactly 32 ∷ [])) × (c₃.at ≡ c₂.at + 1)
    → Took (leading true) s (cursor 0 0) (Given n) c₃
unfolding leading ended led hex
number_took s c₁ c₂ c₃ n a b d =
    let t : Took number s (cursor 0 0) n c₃ = took_ended (word space) (took_led (word num_key) a.0 (hex_took b)) d.0 in
    record { is = ap Given t.is; goes = t.goes }

pub none_took : (s : List ℕ) → Took (leading false) s (cursor 0 0) Expected (cursor 0 0)
unfolding leading cursor_after
none_took s = record { is = refl; goes = refl }

-- A radio in ten words of a box, from word 363 on: what any words say, and the words for a radio.
use Rattle.std.specs.Prelude.{ℕ, zero, suc, ◌+◌, ◌-◌, ◌*◌, ◌/◌, ◌%◌, ◌^◌, Bool, cond, ◌&&◌, ◌||◌, List, eqb, ltb, get_or, Ok, Err}
use Rattle.words.specs.Below.{list_below}
use Rattle.answers.specs.declared.Kind.TheVariants.{IllegalEvent, LogText, Number}
use Rattle.answers.specs.Results.{Outcome}
use Rattle.answers.specs.Paper.{kind_number, refused_at}
use Rattle.sides.specs.declared.Monitor.{Monitor}
use Rattle.radio.specs.declared.Form.{Form}
use Rattle.radio.specs.declared.Form.TheVariants.{Unknown, Plain, Numbered}
use Rattle.radio.specs.declared.Radio.{Radio}

-- ---- reading

-- byte k of the part: eight bytes a word, the first one lowest
unfoldable pub byte_in : List ℕ → ℕ → ℕ
byte_in w k = get_or w (363 + k / 8) 0 / 2 ^ (8 * (k % 8)) % 256

unfoldable pub part_in : List ℕ → List ℕ
part_in w = list_below 40 (byte_in w)

unfoldable pub form_in : ℕ → Form
form_in c = cond (eqb c 1) Plain (cond (eqb c 2) Numbered Unknown)

-- an event's refusal, or a byte's; any other number stands for none
unfoldable pub standing_in : ℕ → ℕ → Outcome
standing_in c place =
    cond (eqb c 10) (Err (refused_at IllegalEvent place)) (cond (eqb c 12) (Err (refused_at LogText place)) (cond (eqb c 16) (Err (refused_at Number place)) (Ok tt)))

unfoldable pub radio_in : List ℕ → Monitor → Radio
radio_in w m = record { part = part_in w; len = get_or w 368 0; start = get_or w 369 0; form = form_in (get_or w 370 0); standing = standing_in (get_or w 371 0) (get_or w 372 0); monitor = m }

-- whether each word can stand where it does
unfoldable pub can_stand : List ℕ → Bool
can_stand w =
    cond (eqb (get_or w 371 0) 0) (ltb (get_or w 370 0) 3 && eqb (get_or w 372 0) 0)
    (ltb (get_or w 370 0) 3 && (eqb (get_or w 371 0) 10 || (eqb (get_or w 371 0) 12 || eqb (get_or w 371 0) 16)))

-- ---- writing

-- n bytes in a number, the last one lowest
unfoldable pub pack_below : ℕ → (ℕ → ℕ) → ℕ
pack_below zero f = 0
pack_below (suc n) f = pack_below n f % 72057594037927936 * 256 + f n

unfoldable pub packed_at : List ℕ → ℕ → ℕ
packed_at part k = pack_below 8 (λ i. get_or part (8 * k + (7 - i)) 0)

abbrev pub form_code : Form → ℕ
form_code Unknown = 0
form_code Plain = 1
form_code Numbered = 2

abbrev pub standing_code : Outcome → ℕ
standing_code (Ok _) = 0
standing_code (Err r) = kind_number r.kind

abbrev pub standing_place : Outcome → ℕ
standing_place (Ok _) = 0
standing_place (Err r) = r.place

unfoldable pub radio_word : Radio → ℕ → ℕ
radio_word r k =
    cond (ltb k 5) (packed_at r.part k) (cond (eqb k 5) r.len (cond (eqb k 6) r.start (cond (eqb k 7) (form_code r.form) (cond (eqb k 8) (standing_code r.standing) (standing_place r.standing)))))

-- the words of the radio, and all others as they were
unfoldable pub changed_word : List ℕ → Radio → ℕ → ℕ
changed_word w r p = cond (ltb p 363) (get_or w p 0) (cond (ltb p 373) (radio_word r (p - 363)) (get_or w p 0))

unfoldable pub with_radio : List ℕ → Radio → List ℕ
with_radio w r = list_below 384 (changed_word w r)

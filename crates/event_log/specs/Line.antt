-- A log line's form: with no number, or led by the event's number.
use Rattle.std.specs.Prelude.{ℕ, ◌+◌, ◌^◌, ◌≤◌, ◌<◌, ◌≡◌, refl, Bool, true, false, cond, List, [], ◌∷◌, ◌++◌, eqb, length}
use Rattle.std.proofs.Common.{zero-le, sym, ap, ◌∙◌, arith, lt-ltb, length-append}
use Rattle.std.proofs.lemmas.Bool.{false≢true}
use Rattle.words.specs.Word.{digit}
use Rattle.words.specs.Laws.{digit_of_lem}
use Rattle.text.specs.Slot.{Slot, exactly, word, matched, digit_value}
use Rattle.text.specs.Number.{hex_slots, count_slots, last_of}
use Rattle.text.specs.Form.{Form, Reads, led, both, seen, reads_led, reads_both, reads_seen}
use Rattle.text.specs.Hex.{hex, hex_reads, hex_length}
use Rattle.text.specs.Count.{counted, count_reads}
use Rattle.text.specs.After.{cursor_after, cursor}
use Rattle.text.specs.Read.{IsHex, IsCount}
use Rattle.text.specs.Took.{Took, took_led, took_both, took_seen, took_all, hex_took, count_took}
use Rattle.text.specs.Lines.{Fixed}
use Rattle.text.specs.LinesRead.{IsLine}
use Rattle.text.specs.declared.Cursor.{Cursor}
use Rattle.event_log.specs.declared.Num.{Num}
use Rattle.event_log.specs.declared.Num.TheVariants.{Expected, Given}
use Rattle.event_log.specs.declared.Event.{Event}
use Rattle.event_log.specs.Lead.{is_given, given_of, num_slots, leading, leading_reads, leading_long}

-- `see=`, ` val=`, ` new=`
abbrev pub see_key : List ℕ
see_key = 115 ∷ 101 ∷ 101 ∷ 61 ∷ []

abbrev pub val_key : List ℕ
val_key = 32 ∷ 118 ∷ 97 ∷ 108 ∷ 61 ∷ []

abbrev pub new_key : List ℕ
new_key = 32 ∷ 110 ∷ 101 ∷ 119 ∷ 61 ∷ []

-- a key, and a number of w digits
abbrev pub hex_key : List ℕ → ℕ → Form ℕ
hex_key key w = led (word key) (hex w)

-- see, val, and new as a count
abbrev Sight : Type 0
Sight = ℕ × (ℕ × ℕ)

-- what an event sees, gives and restarts, one behind the other
abbrev sight : ℕ → Form Sight
sight w = both (hex_key see_key w) (λ see. both (hex_key val_key w) (λ val. led (word new_key) (counted 10 0 1)))

abbrev Fields : Type 0
Fields = Num × Sight

-- the fields of a line
abbrev fields : Bool → ℕ → Form Fields
fields numbered w = both (leading numbered) (λ num. sight w)

-- the event of these fields, and its fields
abbrev event_in : Fields → Event
event_in p = record { num = p.0; see = p.1.0; val = p.1.1.0; new = eqb p.1.1.1 1 }

abbrev fields_of : Event → Fields
fields_of e = (e.num, (e.see, (e.val, digit e.new)))

-- an event can be written, with a number or without one: eight digits hold the number, and w digits what it sees and gives
abbrev pub Writable : Bool → ℕ → Event → Type 0
Writable numbered w e = (is_given e.num ≡ numbered) × (given_of e.num < 16 ^ 8) × (e.see < 16 ^ w) × (e.val < 16 ^ w)

-- a line: `num=`, eight digits and a space, or none of these; `see=`, w digits, ` val=`, w digits, ` new=`, 0 or 1, LF
abbrev pub line : Bool → ℕ → Form Event
line numbered w = seen (fields numbered w) (Writable numbered w) event_in fields_of

one_back : (n : ℕ) → n ≤ 1 → digit (eqb n 1) ≡ n
one_back n h = sym (digit_of_lem n (omega arith))

fields_back : (p : Fields) → p.1.1.1 ≤ 1 → fields_of (event_in p) ≡ p
fields_back p h = ap (λ (n : ℕ). (p.0, (p.1.0, (p.1.1.0, n)))) (one_back p.1.1.1 h)

event_back : (e : Event) → event_in (fields_of e) ≡ e
event_back e = by_new e.new
  where
    by_new : (b : Bool) → ◌≡◌ {A = Event} (record { num = e.num; see = e.see; val = e.val; new = eqb (digit b) 1 }) (record { num = e.num; see = e.see; val = e.val; new = b })
    by_new true = refl
    by_new false = refl

-- `new` is written as 0 or 1
new_low : (b : Bool) → digit b ≤ 1
new_low true = omega arith
new_low false = omega arith

pub line_reads : (numbered : Bool) (w : ℕ) → Reads (line numbered w)
unfolding leading both led hex counted digit_value
line_reads numbered w =
    reads_seen
    (reads_both (leading_reads numbered) (λ num ok. reads_both (reads_led (hex_reads w) (word see_key)) (λ see ok. reads_both (reads_led (hex_reads w) (word val_key)) (λ val ok.
    reads_led (count_reads 0 1 (omega arith) (omega arith) (omega arith) 10 (omega arith)) (word new_key)))))
    (Writable numbered w) event_in fields_of (λ p ok. ((ok.0.0, ok.0.1, ok.1.0, ok.1.1.0), fields_back p ok.1.1.1.1))
    (λ e ok. (((ok.0, ok.1), (ok.2, (ok.3, (zero-le, new_low e.new)))), event_back e))

-- how many bytes a line has: 13 for a number, and 16 beside the digits of what is seen
abbrev pub line_bytes : Bool → ℕ → ℕ
line_bytes numbered w = cond numbered 13 0 + (16 + (w + w))

one_digit : (end n : ℕ) → n < 10 → length (count_slots end n) ≡ 2
unfolding count_slots last_of
one_digit end n h = rw (lt-ltb n 10 h)

pub line_fixed : (numbered : Bool) (w : ℕ) → Fixed (line numbered w) (line_bytes numbered w)
unfolding leading seen both led hex counted
line_fixed numbered w = record { reads = line_reads numbered w; bytes = bytes; some = omega arith }
  where
    bytes : (e : Event) → Writable numbered w e → length ((line numbered w).slots e) ≡ line_bytes numbered w
    bytes e ok =
        let end = word new_key ++ count_slots 10 (digit e.new) in
        let sees = (word see_key ++ hex_slots w e.see) ++ ((word val_key ++ hex_slots w e.val) ++ end) in
        omega (
          arith,
          length-append (num_slots e.num) sees,
          leading_long e.num ∙ ap (λ (b : Bool). cond b 13 0) ok.0,
          length-append (hex_slots w e.see) ((word val_key ++ hex_slots w e.val) ++ end),
          length-append (hex_slots w e.val) end,
          hex_length w e.see,
          hex_length w e.val,
          one_digit 10 (digit e.new) (omega (arith, new_low e.new)),
        )

-- the first byte of a line: `n`, or `s`
pub numbered_begins : (w : ℕ) (e : Event) → Writable true w e → (ts : List Slot) × ((line true w).slots e ≡ exactly 110 ∷ ts)
unfolding leading seen both led
numbered_begins w e ok = by_num e.num ok.0
  where
    sees : List Slot
    sees = (sight w).slots (fields_of e).1

    by_num : (n : Num) → is_given n ≡ true → (ts : List Slot) × (num_slots n ++ (sight w).slots (fields_of e).1 ≡ exactly 110 ∷ ts)
    by_num Expected h = absurd (false≢true h)
    by_num (Given n) h = (_, refl)

pub plain_begins : (w : ℕ) (e : Event) → Writable false w e → (ts : List Slot) × ((line false w).slots e ≡ exactly 115 ∷ ts)
unfolding leading seen both led
plain_begins w e ok = by_num e.num ok.0
  where
    by_num : (n : Num) → is_given n ≡ false → (ts : List Slot) × (num_slots n ++ (sight w).slots (fields_of e).1 ≡ exactly 115 ∷ ts)
    by_num Expected h = (_, refl)
    by_num (Given n) h = absurd (false≢true (sym h))

-- what the calls that read its fields one by one give
pub lined :
    (numbered : Bool) (w : ℕ) (s : List ℕ) (c₀ c₁ c₂ c₃ c₄ c₅ c₆ : Cursor) (num : Num) (see val new : ℕ) → Took (leading numbered) s (cursor 0 0) num c₀
    → (c₁ ≡ cursor_after s c₀ (word see_key)) × (c₁.at ≡ c₀.at + 4) → IsHex s c₁ w see c₂
    → (c₃ ≡ cursor_after s c₂ (word val_key)) × (c₃.at ≡ c₂.at + 5) → IsHex s c₃ w val c₄ → (c₅ ≡ cursor_after s c₄ (word new_key)) × (c₅.at ≡ c₄.at + 5)
    → IsCount s c₅ 10 0 1 new c₆ → IsLine (line numbered w) s (event_in (num, (see, (val, new)))) c₆.good
lined numbered w s c₀ c₁ c₂ c₃ c₄ c₅ c₆ num see val new z a b d e f g =
    record { is = all.0; goes = ap (λ (c : Cursor). c.good) all.1 ∙ ap (λ (x : Event). matched s ((line numbered w).slots x)) all.0 }
  where
    event : Event
    event = event_in (num, (see, (val, new)))

    news : Took (led (word new_key) (counted 10 0 1)) s c₄ new c₆
    news = took_led (word new_key) f.0 (count_took g)

    vals : Took (both (hex_key val_key w) (λ val. led (word new_key) (counted 10 0 1))) s c₂ (val, new) c₆
    vals = took_both (λ val. led (word new_key) (counted 10 0 1)) (took_led (word val_key) d.0 (hex_took e)) news

    sees : Took (sight w) s c₀ (see, (val, new)) c₆
    sees = took_both (λ see. both (hex_key val_key w) (λ val. led (word new_key) (counted 10 0 1))) (took_led (word see_key) a.0 (hex_took b)) vals

    all : (event_in (num, (see, (val, new))) ≡ (line numbered w).guess s) × (c₆ ≡ cursor (length ((line numbered w).slots (event_in (num, (see, (val, new)))))) (matched s ((line numbered w).slots (event_in (num, (see, (val, new)))))))
    all = took_all (took_seen (Writable numbered w) event_in fields_of (fields_back (num, (see, (val, new))) g.high) (took_both (λ num. sight w) z sees))

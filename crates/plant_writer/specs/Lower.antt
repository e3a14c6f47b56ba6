-- A text with each capital digit made small, byte by byte. Of a table's text this is what `small_of` (text/specs/Written) says by slots.
use Rattle.std.specs.Prelude.{ℕ, zero, suc, ◌+◌, ◌-◌, ◌/◌, ◌%◌, ◌<◌, ◌≡◌, refl, Bool, true, false, ◌&&◌, cond, List, [], ◌∷◌, ◌++◌, map, eqb, ltb, length, get_or}
use Rattle.std.proofs.Common.{ap, ap₂, ◌∙◌, arith, eqb-true, lt-ltb, le-ltb}
use Rattle.std.proofs.Math.Bool.{So}
use Rattle.meaning.specs.Run.{Plant}
use Rattle.words.specs.Truth.{and_says}
use Rattle.text.specs.Slot.{Slot, exactly, digit, word, admits, written, digit_value, digit_byte}
use Rattle.text.specs.Number.{width_of, hex_slots, next_of, last_of, count_slots}
use Rattle.text.specs.Cases.{if_below}
use Rattle.text.specs.Written.{text_of}
use Rattle.text.specs.Place.{Fills, first_fills, rest_fills}
use Rattle.plant.specs.Text.{lf, key_slots, props_key, states_key, start_key, just_key, fair_name, label_name, next_name}
use Rattle.plant.specs.Written.{line, lines_below, table_slots}
use Rattle.plant_writer.specs.Pieces.{props_line, states_line, start_line, just_line, fair_line, row_lines}

-- A to F, the bytes 65 to 70, as a to f, and any other byte as it is
unfoldable pub lower : ℕ → ℕ
lower b = cond (ltb b 65) b (cond (ltb b 71) (b + 32) b)

-- a digit made small is the one that is written for its value
digit_lower : (b : ℕ) → digit_value b < 16 → lower b ≡ digit_byte (digit_value b)
unfolding digit_value digit_byte lower
digit_lower b =
    if_below b 48 P 16 _ (λ l h. absurd (omega arith))
    (λ a. if_below b 58 P (b - 48) _ (λ l h. rw (lt-ltb b 65 (omega arith), lt-ltb (b - 48) 10 (omega arith)) (omega arith))
    (λ c. if_below b 65 P 16 _ (λ l h. absurd (omega arith))
    (λ d. if_below b 71 P (b - 55) _ (λ l h. rw (le-ltb b 65 d, lt-ltb b 71 l, le-ltb (b - 55) 10 (omega arith)) (omega arith))
    (λ e. if_below b 97 P 16 _ (λ l h. absurd (omega arith))
    (λ f. if_below b 103 P (b - 87) 16 (λ l h. rw (le-ltb b 65 d, le-ltb b 71 e, le-ltb (b - 87) 10 (omega arith)) (omega arith)) (λ l h. absurd (omega arith)))))))
  where
    P : ℕ → Type 0
    P v = v < 16 → lower b ≡ digit_byte v

-- the known bytes among the slots have no capital digit
unfoldable pub plain : List Slot → Bool
plain [] = true
plain (exactly x ∷ ts) = eqb (lower x) x && plain ts
plain (digit n ∷ ts) = plain ts

both : (ts us : List Slot) → So (plain ts) → So (plain us) → So (plain (ts ++ us))
unfolding plain
both [] us p q = q
both (exactly x ∷ ts) us p q =
    let (a, b) = (and_says (eqb (lower x) x) (plain ts)).0 p in (and_says (eqb (lower x) x) (plain (ts ++ us))).1 (a, both ts us b q)
both (digit n ∷ ts) us p q = both ts us p q

hex_plain : (w n : ℕ) → So (plain (hex_slots w n))
unfolding plain hex_slots
hex_plain zero n = refl
hex_plain (suc w) n = both (hex_slots w (n / 16)) (digit (n % 16) ∷ []) (hex_plain w (n / 16)) refl

count_plain : (end n : ℕ) → So (eqb (lower end) end) → So (plain (count_slots end n))
unfolding plain count_slots next_of last_of
count_plain end n e = by_test (ltb n 10)
  where
    by_test : (b : Bool) → So (plain (cond b (exactly end) (digit (n % 10)) ∷ cond b [] (exactly end ∷ [])))
    by_test true = (and_says (eqb (lower end) end) true).1 (e, refl)
    by_test false = (and_says (eqb (lower end) end) true).1 (e, refl)

lines_plain : (n : ℕ) (f : ℕ → List Slot) → ((k : ℕ) → So (plain (f k))) → So (plain (lines_below n f))
unfolding plain lines_below
lines_plain zero f each = refl
lines_plain (suc n) f each = both (lines_below n f) (f n) (lines_plain n f each) (each n)

line_plain : (name : List ℕ) (k w v : ℕ) → So (plain (word name)) → So (plain (line name k w v))
unfolding plain lower
line_plain name k w v e =
    both (key_slots name k) (hex_slots w v ++ lf) (both (word name) (count_slots 61 k) e (count_plain 61 k refl)) (both (hex_slots w v) lf (hex_plain w v) refl)

pub table_plain : (t : Plant) → So (plain (table_slots t))
unfolding plain lower
table_plain t =
    both (props_line t.props) _ (both (word props_key) (count_slots 10 t.props) refl (count_plain 10 t.props refl))
    (both (states_line t.states) _ (both (word states_key) (count_slots 10 t.states) refl (count_plain 10 t.states refl))
    (both (start_line t.start) _ (both (word start_key) (hex_slots 16 t.start ++ lf) refl (both (hex_slots 16 t.start) lf (hex_plain 16 t.start) refl))
    (both (just_line (length t.fair)) _ (both (word just_key) (count_slots 10 (length t.fair)) refl (count_plain 10 (length t.fair) refl))
    (both (lines_below (length t.fair) (fair_line t.fair)) (lines_below t.states (row_lines (width_of t.props) t.label t.next))
    (lines_plain (length t.fair) (fair_line t.fair) (λ k. line_plain fair_name k 16 (get_or t.fair k 0) refl))
    (lines_plain t.states (row_lines (width_of t.props) t.label t.next)
    (λ k. both (line label_name k (width_of t.props) (get_or t.label k 0)) (line next_name k 16 (get_or t.next k 0))
    (line_plain label_name k (width_of t.props) (get_or t.label k 0) refl) (line_plain next_name k 16 (get_or t.next k 0) refl)))))))

-- a text that fills such slots is, made small, what is written into them
pub lowered : (s : List ℕ) (ts : List Slot) → So (plain ts) → Fills s ts → map lower s ≡ text_of ts
unfolding plain admits written
lowered [] [] p f = refl
lowered (b ∷ s) [] p f = absurd (let l = f.long in omega arith)
lowered [] (t ∷ ts) p f = absurd (let l = f.long in omega arith)
lowered (b ∷ s) (exactly x ∷ ts) p f =
    let (a, rest) = (and_says (eqb (lower x) x) (plain ts)).0 p in
    ap₂ (λ (y : ℕ) (l : List ℕ). y ∷ l) (ap lower (eqb-true b x (first_fills f)) ∙ eqb-true (lower x) x a) (lowered s ts rest (rest_fills f))
lowered (b ∷ s) (digit n ∷ ts) p f =
    let value : digit_value b ≡ n % 16 = eqb-true (digit_value b) (n % 16) (first_fills f) in
    ap₂ (λ (y : ℕ) (l : List ℕ). y ∷ l) (digit_lower b (omega arith) ∙ ap digit_byte value) (lowered s ts p (rest_fills f))

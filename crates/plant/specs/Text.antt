-- The text form of plant tables, put together of lines.
use Rattle.std.specs.Prelude.{ℕ, ◌+◌, ◌≡◌, refl, List, [], ◌∷◌, ◌++◌, length, get_or}
use Rattle.std.proofs.Common.{sym, subst, ap, ap₂, arith, length-append}
use Rattle.meaning.specs.Run.{Plant}
use Rattle.meaning.specs.Limits.{most_props}
use Rattle.text.specs.Slot.{Slot, exactly, word, digit_value}
use Rattle.text.specs.Number.{width_of, hex_slots, count_slots}
use Rattle.text.specs.Form.{Form, Reads, led, ended, both, seen, reads_led, reads_ended, reads_both, reads_seen}
use Rattle.text.specs.Hex.{hex, hex_reads, hex_length}
use Rattle.text.specs.Count.{counted, count_reads}
use Rattle.text.specs.Many.{listed, reads_listed}
use Rattle.words.specs.Below.{list_below}
use Rattle.words.specs.Lists.{length_list, list_at, list_of}

-- ---- the lines

-- the end of a line
abbrev pub lf : List Slot
lf = exactly 10 ∷ []

-- `name`, a number, `=`
abbrev pub key_slots : List ℕ → ℕ → List Slot
key_slots name k = word name ++ count_slots 61 k

-- a count in decimal, and LF
abbrev pub count_line : List ℕ → ℕ → ℕ → Form ℕ
count_line key lo hi = led (word key) (counted 10 lo hi)

-- a number in hexadecimal, and LF
abbrev pub hex_line : List Slot → ℕ → Form ℕ
hex_line key w = led key (ended (hex w) lf)

-- such a line whose key ends in a number
abbrev pub field : List ℕ → ℕ → ℕ → Form ℕ
field name w k = hex_line (key_slots name k) w

-- `props=`, `states=`, `start=`, `just=`, `j`, `label`, `next`
abbrev pub props_key : List ℕ
props_key = 112 ∷ 114 ∷ 111 ∷ 112 ∷ 115 ∷ 61 ∷ []

abbrev pub states_key : List ℕ
states_key = 115 ∷ 116 ∷ 97 ∷ 116 ∷ 101 ∷ 115 ∷ 61 ∷ []

abbrev pub start_key : List ℕ
start_key = 115 ∷ 116 ∷ 97 ∷ 114 ∷ 116 ∷ 61 ∷ []

abbrev pub just_key : List ℕ
just_key = 106 ∷ 117 ∷ 115 ∷ 116 ∷ 61 ∷ []

abbrev pub fair_name : List ℕ
fair_name = 106 ∷ []

abbrev pub label_name : List ℕ
label_name = 108 ∷ 97 ∷ 98 ∷ 101 ∷ 108 ∷ []

abbrev pub next_name : List ℕ
next_name = 110 ∷ 101 ∷ 120 ∷ 116 ∷ []

-- ---- the parts

-- the two lines of state k, the label of w digits
abbrev pub row : ℕ → ℕ → Form (ℕ × ℕ)
row w k = both (field label_name w k) (λ l. field next_name 16 k)

abbrev pub field_length : List ℕ → ℕ → ℕ → ℕ
field_length name w k = length (key_slots name k) + (w + 1)

pub field_fixed : (name : List ℕ) (w k a : ℕ) → (field name w k).Ok a → length ((field name w k).slots a) ≡ field_length name w k
unfolding led ended hex
field_fixed name w k a ok = omega (arith, length-append (key_slots name k) (hex_slots w a ++ lf), length-append (hex_slots w a) lf, hex_length w a)

abbrev pub row_length : ℕ → ℕ → ℕ
row_length w k = field_length label_name w k + field_length next_name 16 k

pub row_fixed : (w k : ℕ) (p : ℕ × ℕ) → (row w k).Ok p → length ((row w k).slots p) ≡ row_length w k
unfolding both
row_fixed w k p ok =
    omega (arith, length-append ((field label_name w k).slots p.0) ((field next_name 16 k).slots p.1), field_fixed label_name w k p.0 ok.0, field_fixed next_name 16 k p.1 ok.1)

pub field_reads : (name : List ℕ) (w k : ℕ) → Reads (field name w k)
field_reads name w k = reads_led (reads_ended (hex_reads w) lf) (key_slots name k)

pub row_reads : (w k : ℕ) → Reads (row w k)
row_reads w k = reads_both (field_reads label_name w k) (λ l ok. field_reads next_name 16 k)

-- the lines of the fairness sets
abbrev pub fairs : ℕ → Form (List ℕ)
fairs n = listed (field fair_name 16) (field_length fair_name 16) n (λ l. length l ≡ n) (λ l k. get_or l k 0) (list_below n)

-- the lines of the states, labels and next states each in a list
abbrev pub rows : ℕ → ℕ → Form (List ℕ × List ℕ)
rows w n =
    listed (row w) (row_length w) n (λ p. (length p.0 ≡ n) × (length p.1 ≡ n)) (λ p k. (get_or p.0 k 0, get_or p.1 k 0))
    (λ f. (list_below n (λ k. (f k).0), list_below n (λ k. (f k).1)))

pub fairs_read : (n : ℕ) → Reads (fairs n)
fairs_read n =
    reads_listed (field fair_name 16) (field_length fair_name 16) (field_fixed fair_name 16) n (λ l. length l ≡ n) (λ l k. get_or l k 0) (list_below n) (length_list n)
    (list_at n) (field_reads fair_name 16) (λ l f e h. list_of n f l e h)

pub rows_read : (w n : ℕ) → Reads (rows w n)
rows_read w n =
    reads_listed (row w) (row_length w) (row_fixed w) n (λ p. (length p.0 ≡ n) × (length p.1 ≡ n)) (λ p k. (get_or p.0 k 0, get_or p.1 k 0))
    (λ f. (list_below n (λ k. (f k).0), list_below n (λ k. (f k).1))) (λ f. (length_list n (λ k. (f k).0), length_list n (λ k. (f k).1)))
    (λ f k l. ap₂ (λ (x y : ℕ). (x, y)) (list_at n (λ k. (f k).0) k l) (list_at n (λ k. (f k).1) k l))
    (row_reads w)
    (λ p f e h. ap₂ (λ (l m : List ℕ). (l, m)) (list_of n (λ k. (f k).0) p.0 e.0 (λ k l. ap (λ (q : ℕ × ℕ). q.0) (h k l)))
    (list_of n (λ k. (f k).1) p.1 e.1 (λ k l. ap (λ (q : ℕ × ℕ). q.1) (h k l))))

-- ---- the whole

-- props, states, start, just, the fairness sets, the labels and the next states
abbrev pub Parts : Type 0
Parts = ℕ × (ℕ × (ℕ × (ℕ × (List ℕ × (List ℕ × List ℕ)))))

-- the lines of a table, in their order: how many follow, and how many digits a label has, is told by the counts before
abbrev pub parts : Form Parts
parts =
    both (count_line props_key 1 most_props) (λ props. both (count_line states_key 1 64) (λ states. both (hex_line (word start_key) 16) (λ start.
    both (count_line just_key 0 4) (λ just. both (fairs just) (λ fair. rows (width_of props) states)))))

pub parts_read : Reads parts
unfolding digit_value
parts_read =
    reads_both (reads_led (count_reads 1 most_props (omega arith) (omega arith) (omega arith) 10 (omega arith)) (word props_key)) (λ props ok.
    reads_both (reads_led (count_reads 1 64 (omega arith) (omega arith) (omega arith) 10 (omega arith)) (word states_key)) (λ states ok.
    reads_both (reads_led (reads_ended (hex_reads 16) lf) (word start_key)) (λ start ok.
    reads_both (reads_led (count_reads 0 4 (omega arith) (omega arith) (omega arith) 10 (omega arith)) (word just_key)) (λ just ok.
    reads_both (fairs_read just) (λ fair ok. rows_read (width_of props) states)))))

-- the table of these parts, and its parts
abbrev pub table_in : Parts → Plant
table_in p = record { props = p.0; states = p.1.0; start = p.1.1.0; fair = p.1.1.1.1.0; label = p.1.1.1.1.1.0; next = p.1.1.1.1.1.1 }

abbrev pub parts_of : Plant → Parts
parts_of t = (t.props, (t.states, (t.start, (length t.fair, (t.fair, (t.label, t.next))))))

pub parts_back : (p : Parts) → length p.1.1.1.1.0 ≡ p.1.1.1.0 → parts_of (table_in p) ≡ p
parts_back p e = ap (λ (n : ℕ). (p.0, (p.1.0, (p.1.1.0, (n, p.1.1.1.1))))) e

-- the form of a table's text
abbrev pub table_form : Form Plant
table_form = seen parts (λ t. parts.Ok (parts_of t)) table_in parts_of

pub table_reads : Reads table_form
unfolding both listed
table_reads = reads_seen parts_read (λ t. parts.Ok (parts_of t)) table_in parts_of there (λ t ok. (ok, refl))
  where
    sized : (p : Parts) → parts.Ok p → length p.1.1.1.1.0 ≡ p.1.1.1.0
    sized p ok = ok.1.1.1.1.0.0

    there : (p : Parts) → parts.Ok p → parts.Ok (parts_of (table_in p)) × (parts_of (table_in p) ≡ p)
    there p ok = let e = parts_back p (sized p ok) in (subst (λ (q : Parts). parts.Ok q) (sym e) ok, e)

-- A table's text in the pieces in which it is written, and what a piece needs of room.
use Rattle.std.specs.Prelude.{ℕ, zero, suc, ◌+◌, ◌-◌, ◌/◌, ◌%◌, ◌≤◌, ◌<◌, ◌≡◌, refl, List, [], ◌∷◌, ◌++◌, length, get_or}
use Rattle.std.proofs.Common.{ap, append_assoc, ⊎_elim, eq-or-lt_of_le, le_of_suc-le-suc, add-one, arith, lt-ltb, le-ltb, length-append}
use Rattle.std.proofs.lemmas.List.{map-append, length-map}
use Rattle.meaning.specs.Run as run
use Rattle.writing.specs.Put.{Put, puts, put_length, put_none}
use Rattle.text.specs.Slot.{Slot, exactly, digit, word, written, digit_byte}
use Rattle.text.specs.Number.{width_of, hex_slots, lead_of, next_of, last_of, count_slots}
use Rattle.text.specs.Hex.{hex_length}
use Rattle.text.specs.Written.{text_of}
use Rattle.plant.specs.declared.Plant.{Plant}
use Rattle.plant.specs.Table.{plant_of}
use Rattle.plant.specs.Text.{lf, props_key, states_key, start_key, just_key, fair_name, label_name, next_name}
use Rattle.plant.specs.Written.{line, lines_below, table_slots, table_text}

-- ---- the pieces

-- the lines of the counts and of the starting set
abbrev pub props_line : ℕ → List Slot
props_line n = word props_key ++ count_slots 10 n

abbrev pub states_line : ℕ → List Slot
states_line n = word states_key ++ count_slots 10 n

abbrev pub start_line : ℕ → List Slot
start_line set = word start_key ++ (hex_slots 16 set ++ lf)

abbrev pub just_line : ℕ → List Slot
just_line n = word just_key ++ count_slots 10 n

-- these four
abbrev pub head_slots : ℕ → ℕ → ℕ → ℕ → List Slot
head_slots props states start just = ((props_line props ++ states_line states) ++ start_line start) ++ just_line just

-- the line of fairness set k
abbrev pub fair_line : List ℕ → ℕ → List Slot
fair_line fair k = line fair_name k 16 (get_or fair k 0)

-- the two lines of state k
abbrev pub row_line : ℕ → ℕ → ℕ → ℕ → List Slot
row_line width k label next = line label_name k width label ++ line next_name k 16 next

abbrev pub row_lines : ℕ → List ℕ → List ℕ → ℕ → List Slot
row_lines width label next k = row_line width k (get_or label k 0) (get_or next k 0)

-- one behind the other they are the table's
pub in_pieces : (t : run.Plant)
    → table_slots t ≡ (head_slots t.props t.states t.start (length t.fair) ++ lines_below (length t.fair) (fair_line t.fair)) ++ lines_below t.states (row_lines (width_of t.props) t.label t.next)
in_pieces t =
    grouped (props_line t.props) (states_line t.states) (start_line t.start) (just_line (length t.fair))
    (lines_below (length t.fair) (fair_line t.fair)) (lines_below t.states (row_lines (width_of t.props) t.label t.next))
  where
    grouped : (a b c d e f : List Slot) → a ++ (b ++ (c ++ (d ++ (e ++ f)))) ≡ ((((a ++ b) ++ c) ++ d) ++ e) ++ f
    grouped a b c d e f = simp append_assoc refl

-- the counts have at most two digits, the parts their lengths, and there is room for the text
pub record Writable (p : Plant) (fair label next : List ℕ) (room : ℕ) : Type 0 where
  pub props : p.props < 100
  pub states : p.states < 100
  pub fairs : length fair < 100
  pub labels : length label ≡ p.states
  pub nexts : length next ≡ p.states
  pub fits : length (table_text (plant_of p fair label next)) ≤ room

-- ---- slots put one behind the other

-- a key is its own text
word_text : (l : List ℕ) → text_of (word l) ≡ l
unfolding written
word_text [] = refl
word_text (b ∷ l) = ap (λ (m : List ℕ). b ∷ m) (word_text l)

pub keyed : {before now : List ℕ} {at end : ℕ} (key : List ℕ) → Put before at key now end → Put before at (text_of (word key)) now end
keyed key p = rw (word_text key) p

pub puts_slots :
    {before now last : List ℕ} {at mid end : ℕ} (ts us : List Slot) → Put before at (text_of ts) now mid → Put now mid (text_of us) last end
    → Put before at (text_of (ts ++ us)) last end
puts_slots ts us p q = rw (map-append written ts us) (puts p q)

-- where they are, and how long the buffer is
pub laid : {before now : List ℕ} {at end : ℕ} (ts : List Slot) → Put before at (text_of ts) now end → (end ≡ at + length ts) × (length now ≡ length before)
laid ts p = (omega (arith, p.len, length-map ts written), put_length p)

-- room for both is room for the first, and behind it for the second
pub first_fits : (at room : ℕ) (ts us : List Slot) → at + length (ts ++ us) ≤ room → at + length ts ≤ room
first_fits at room ts us h = omega (arith, length-append ts us)

pub rest_fits :
    {before now : List ℕ} {at end : ℕ} (ts us : List Slot) → Put before at (text_of ts) now end → at + length (ts ++ us) ≤ length before
    → end + length us ≤ length now
rest_fits ts us p h = let l = laid ts p in omega (arith, length-append ts us)

pub word_fits : (at room : ℕ) (key : List ℕ) (us : List Slot) → at + length (word key ++ us) ≤ room → at + length key ≤ room
word_fits at room key us h = omega (arith, length-append (word key) us, length-map key exactly)

pub hex_fits : (at room w n : ℕ) (us : List Slot) → at + length (hex_slots w n ++ us) ≤ room → at + w ≤ room
hex_fits at room w n us h = omega (arith, length-append (hex_slots w n) us, hex_length w n)

-- room for the first lines of the head
module _ (at room props states start just : ℕ) (h : at + length (head_slots props states start just) ≤ room) where
  pub three_fit : at + length ((props_line props ++ states_line states) ++ start_line start) ≤ room
  three_fit = first_fits at room ((props_line props ++ states_line states) ++ start_line start) (just_line just) h

  pub two_fit : at + length (props_line props ++ states_line states) ≤ room
  two_fit = first_fits at room (props_line props ++ states_line states) (start_line start) three_fit

  pub one_fits : at + length (props_line props) ≤ room
  one_fits = first_fits at room (props_line props) (states_line states) two_fit

-- ---- numbers

-- no digit of a hexadecimal number, and one more
pub no_digit : (w n at : ℕ) (b : List ℕ) → w ≡ 0 → at + w ≤ length b → Put b at (text_of (hex_slots w n)) b at
unfolding hex_slots
no_digit w n at b e h = rw e (put_none b at (omega arith))

pub digit_more :
    {before now last : List ℕ} {at mid end d : ℕ} (w n : ℕ) → 0 < w → Put before at (text_of (hex_slots (w - 1) (n / 16))) now mid → Put now mid (d ∷ []) last end
    → d ≡ digit_byte (n % 16) → Put before at (text_of (hex_slots w n)) last end
unfolding hex_slots written
digit_more zero n h p q e = absurd (omega arith)
digit_more (suc w) n h p q e =
    let less : suc w - 1 ≡ w = omega arith in
    let small : n % 16 % 16 ≡ n % 16 = omega arith in
    puts_slots (hex_slots w (n / 16)) (digit (n % 16) ∷ []) (rw less at p) (rw (small, ← e) q)

-- a count is one digit and its end, or two
pub one_long : (end n : ℕ) → n < 10 → length (count_slots end n) ≡ 2
unfolding count_slots last_of
one_long end n h = rw (lt-ltb n 10 h)

pub two_long : (end n : ℕ) → 10 ≤ n → length (count_slots end n) ≡ 3
unfolding count_slots last_of
two_long end n h = rw (le-ltb n 10 h)

one_text : (end n : ℕ) → n < 10 → text_of (count_slots end n) ≡ (n + 48) ∷ end ∷ []
unfolding count_slots lead_of next_of last_of written digit_byte
one_text end n h = let same : n % 16 ≡ n = omega arith in rw (lt-ltb n 10 h, same, lt-ltb n 10 h)

two_text : (end n : ℕ) → 10 ≤ n → n < 100 → text_of (count_slots end n) ≡ (n / 10 + 48) ∷ (n % 10 + 48) ∷ end ∷ []
unfolding count_slots lead_of next_of last_of written digit_byte
two_text end n h l =
    let tens : n / 10 % 16 ≡ n / 10 = omega arith in
    let ones : n % 10 % 16 ≡ n % 10 = omega arith in
    rw (le-ltb n 10 h, tens, ones, lt-ltb (n / 10) 10 (omega arith), lt-ltb (n % 10) 10 (omega arith))

pub one_digit :
    {before now last : List ℕ} {at mid end : ℕ} (b n : ℕ) → n < 10 → Put before at ((n + 48) ∷ []) now mid → Put now mid (b ∷ []) last end
    → Put before at (text_of (count_slots b n)) last end
one_digit b n h p q = rw (one_text b n h) (puts p q)

pub two_digits :
    {before now more last : List ℕ} {at mid on end : ℕ} (b n : ℕ) → 10 ≤ n → n < 100 → Put before at ((n / 10 + 48) ∷ []) now mid → Put now mid ((n % 10 + 48) ∷ []) more on
    → Put more on (b ∷ []) last end → Put before at (text_of (count_slots b n)) last end
two_digits b n h l p q r = rw (two_text b n h l) (puts (puts p q) r)

-- ---- lines

-- no line, and one more
pub no_line : (f : ℕ → List Slot) (at : ℕ) (b : List ℕ) → at ≤ length b → Put b at (text_of (lines_below 0 f)) b at
unfolding lines_below
no_line f at b h = put_none b at h

pub line_more :
    {before now last : List ℕ} {at mid end : ℕ} (f : ℕ → List Slot) (k : ℕ) → Put before at (text_of (lines_below k f)) now mid → Put now mid (text_of (f k)) last end
    → Put before at (text_of (lines_below (k + 1) f)) last end
unfolding lines_below
line_more f k p q = rw add-one (puts_slots (lines_below k f) (f k) p q)

-- a line has room where all lines have
among : (f : ℕ → List Slot) (k n : ℕ) → k < n → length (lines_below k f) + length (f k) ≤ length (lines_below n f)
unfolding lines_below
among f k zero h = absurd (omega arith)
among f k (suc n) h =
    ⊎_elim (λ (e : k ≡ n). rw e (omega (arith, length-append (lines_below n f) (f n))))
    (λ (l : k < n). omega (arith, among f k n l, length-append (lines_below n f) (f n))) (eq-or-lt_of_le (le_of_suc-le-suc h))

pub line_fits :
    {before now : List ℕ} {at end : ℕ} (f : ℕ → List Slot) (k n : ℕ) → k < n → Put before at (text_of (lines_below k f)) now end
    → at + length (lines_below n f) ≤ length before → end + length (f k) ≤ length now
line_fits f k n l p h = let q = laid (lines_below k f) p in omega (arith, among f k n l)

-- ---- the whole

module _ (p : Plant) (fair label next : List ℕ) where
  abbrev pub head_of : List Slot
  head_of = head_slots p.props p.states p.start (length fair)

  abbrev pub fair_of : List Slot
  fair_of = lines_below (length fair) (fair_line fair)

  abbrev pub rows_of : List Slot
  rows_of = lines_below (length label) (row_lines (width_of p.props) label next)

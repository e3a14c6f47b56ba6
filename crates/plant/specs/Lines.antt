-- What the calls that read lines give.
use Rattle.std.specs.Prelude.{ℕ, ◌+◌, ◌^◌, ◌≤◌, ◌<◌, ◌≡◌, List, [], length, drop, get_or}
use Rattle.std.proofs.Common.{sym, ap₂, ◌∙◌, arith}
use Rattle.std.proofs.Math.ListN.{get_or-eq_default}
use Rattle.text.specs.Slot.{Slot, word}
use Rattle.text.specs.Number.{count_slots}
use Rattle.text.specs.Cases.{if_below}
use Rattle.text.specs.Form.{led, ended}
use Rattle.text.specs.Hex.{hex}
use Rattle.text.specs.After.{cursor_after, goes_on}
use Rattle.text.specs.Read.{IsHex, IsCount, digits_room}
use Rattle.text.specs.Took.{Took, took_led, took_ended, took_both, hex_took, count_took}
use Rattle.words.specs.Below.{filled, list_below}
use Rattle.words.specs.Lists.{filled_at, length_filled, length_list, list_at, list_of}
use Rattle.text.specs.Many.{listed, slots_below, guess_at, below_turn, listed_goes}
use Rattle.text.specs.declared.Cursor.{Cursor}
use Rattle.plant.specs.Text.{lf, key_slots, count_line, hex_line, fairs, rows, field, row, fair_name, label_name, next_name, field_length, row_length, field_fixed, row_fixed, field_reads, row_reads}

-- a list made m long by zeros
abbrev pub padded : ℕ → List ℕ → List ℕ
padded m l = list_below m (λ k. get_or l k 0)

-- which is how a loop fills it
filled_padded : (m n : ℕ) (f : ℕ → ℕ) → filled m n f ≡ padded m (list_below n f)
filled_padded m n f =
    sym (list_of m _ (filled m n f) (length_filled m n f) (λ k h. sym (filled_at m n f k h
    ∙ if_below k n (λ x. x ≡ get_or (list_below n f) k 0) (f k) 0 (λ l. sym (list_at n f k l))
    (λ l. sym (get_or-eq_default (list_below n f) 0 (omega (arith, length_list n f)))))))

-- the guesses at the values of the fairness lines, and of the lines of a state
abbrev pub fair_at : List ℕ → ℕ → ℕ
fair_at s k = guess_at (field fair_name 16) (field_length fair_name 16) s k

-- the label and the next states that are guessed for state k
abbrev pub row_at : ℕ → List ℕ → ℕ → ℕ × ℕ
row_at w s k = guess_at (row w) (row_length w) s k

-- behind c the count line gives the value, in its range, and the cursor behind the line
pub record IsCountLine (s : List ℕ) (c : Cursor) (key : List ℕ) (lo hi value : ℕ) (next : Cursor) : Type 0 where
  pub took : Took (count_line key lo hi) s c value next
  pub low : lo ≤ value
  pub high : value ≤ hi
  pub at : next.at ≤ c.at + 11

-- the same of a line with a number in hexadecimal
pub record IsHexLine (s : List ℕ) (c : Cursor) (key : List Slot) (width value : ℕ) (next : Cursor) : Type 0 where
  pub took : Took (hex_line key width) s c value next
  pub small : value < 16 ^ width

-- the lines of n fairness sets, kept in an array of 4
pub record IsFair (s : List ℕ) (c : Cursor) (n : ℕ) (words : List ℕ) (end : Cursor) : Type 0 where
  pub took : Took (fairs n) s c ((fairs n).guess (drop c.at s)) end
  pub are : words ≡ padded 4 ((fairs n).guess (drop c.at s))
  pub at : end.at ≤ c.at + 112

-- the lines of n states, labels of w digits, kept in arrays of 64
pub record IsRows (s : List ℕ) (c : Cursor) (w n : ℕ) (label next : List ℕ) (end : Cursor) : Type 0 where
  pub took : Took (rows w n) s c ((rows w n).guess (drop c.at s)) end
  pub labels : label ≡ padded 64 ((rows w n).guess (drop c.at s)).0
  pub nexts : next ≡ padded 64 ((rows w n).guess (drop c.at s)).1

pub count_line_lem :
    {s : List ℕ} {c d e : Cursor} {key : List ℕ} {lo hi v : ℕ} → (d ≡ cursor_after s c (word key)) × (d.at ≡ c.at + length key) → length key ≤ 8
    → IsCount s d 10 lo hi v e → IsCountLine s c key lo hi v e
count_line_lem {key} p l h =
    record { took = took_led (word key) p.0 (count_took h); low = h.low; high = h.high; at = omega (arith, h.at) }

pub hex_line_lem :
    {s : List ℕ} {c d e : Cursor} {w v : ℕ} → IsHex s c w v d → (e ≡ cursor_after s d lf) × (e.at ≡ d.at + 1) → w ≤ 16
    → IsHexLine s c [] w v e × (e.at ≤ c.at + 17)
unfolding led
hex_line_lem {w} {v} h p l =
    let t = took_ended lf (hex_took h) p.0 in
    (record { took = record { is = t.is; goes = t.goes }; small = h.small }, omega (arith, h.at))

-- a line behind its key
pub field_line :
    {s : List ℕ} {c d e f : Cursor} (name : List ℕ) (k : ℕ) {w v : ℕ} → (d ≡ cursor_after s c (word name)) × (d.at ≡ c.at + length name)
    → (e ≡ cursor_after s d (count_slots 61 k)) × (e.at ≤ d.at + 3) → IsHexLine s e [] w v f × (f.at ≤ e.at + 17) → length name ≤ 8
    → IsHexLine s c (key_slots name k) w v f × (f.at ≤ c.at + 28)
unfolding led
field_line {s} {c} {d} {e} {f} name k {w} {v} p q h l =
    let t : Took (ended (hex w) lf) s e v f = record { is = h.0.took.is; goes = h.0.took.goes } in
    (record { took = took_led (key_slots name k) (goes_on s c d e (word name) (count_slots 61 k) p.0 q.0) t; small = h.0.small }, omega arith)

pub keyed_line :
    {s : List ℕ} {c d e : Cursor} (key : List ℕ) {w v : ℕ} → d ≡ cursor_after s c (word key) → IsHexLine s d [] w v e → Took (hex_line (word key) w) s c v e
unfolding led
keyed_line {s} {d} {e} key {w} {v} p h =
    let t : Took (ended (hex w) lf) s d v e = record { is = h.took.is; goes = h.took.goes } in
    took_led (word key) p t

-- ---- the loops

pub fair_turn :
    (s : List ℕ) (c d e : Cursor) (k v : ℕ) → d ≡ cursor_after s c (slots_below (field fair_name 16) k (fair_at (drop c.at s)))
    → IsHexLine s d (key_slots fair_name k) 16 v e × (e.at ≤ d.at + 28)
    → (v ≡ fair_at (drop c.at s) k) × (e ≡ cursor_after s c (slots_below (field fair_name 16) (k + 1) (fair_at (drop c.at s))))
fair_turn s c d e k v p h = below_turn (field fair_name 16) (field_length fair_name 16) (field_fixed fair_name 16) (field_reads fair_name 16) s c d e k v p h.0.took

pub fair_done :
    (s : List ℕ) (c e : Cursor) (n : ℕ) (words : List ℕ) → e ≡ cursor_after s c (slots_below (field fair_name 16) n (fair_at (drop c.at s)))
    → words ≡ filled 4 n (fair_at (drop c.at s)) → e.at ≤ c.at + 112 → IsFair s c n words e
unfolding listed
fair_done s c e n words p w l =
    record {
      took = listed_goes (field fair_name 16) (field_length fair_name 16) (field_fixed fair_name 16) n (λ l. length l ≡ n) (λ l k. get_or l k 0) (list_below n) (length_list n)
          (list_at n) s c e p;
      are = w ∙ filled_padded 4 n (fair_at (drop c.at s));
      at = l;
    }

pub row_turn :
    (w : ℕ) (s : List ℕ) (c d e f : Cursor) (k v x : ℕ) → d ≡ cursor_after s c (slots_below (row w) k (row_at w (drop c.at s)))
    → IsHexLine s d (key_slots label_name k) w v e × (e.at ≤ d.at + 28) → IsHexLine s e (key_slots next_name k) 16 x f × (f.at ≤ e.at + 28)
    → ((v, x) ≡ row_at w (drop c.at s) k) × (f ≡ cursor_after s c (slots_below (row w) (k + 1) (row_at w (drop c.at s))))
row_turn w s c d e f k v x p g h =
    below_turn (row w) (row_length w) (row_fixed w) (row_reads w) s c d f k (v, x) p (took_both (λ l. field next_name 16 k) g.0.took h.0.took)

pub rows_done :
    (w : ℕ) (s : List ℕ) (c e : Cursor) (n : ℕ) (label next : List ℕ) → e ≡ cursor_after s c (slots_below (row w) n (row_at w (drop c.at s)))
    → label ≡ filled 64 n (λ k. (row_at w (drop c.at s) k).0) → next ≡ filled 64 n (λ k. (row_at w (drop c.at s) k).1) → IsRows s c w n label next e
unfolding listed
rows_done w s c e n label next p l m =
    record {
      took = listed_goes (row w) (row_length w) (row_fixed w) n (λ p. (length p.0 ≡ n) × (length p.1 ≡ n)) (λ p k. (get_or p.0 k 0, get_or p.1 k 0))
          (λ f. (list_below n (λ k. (f k).0), list_below n (λ k. (f k).1))) (λ f. (length_list n (λ k. (f k).0), length_list n (λ k. (f k).1)))
          (λ f k l. ap₂ (λ (x y : ℕ). (x, y)) (list_at n (λ k. (f k).0) k l) (list_at n (λ k. (f k).1) k l)) s c e p;
      labels = l ∙ filled_padded 64 n (λ k. (row_at w (drop c.at s) k).0);
      nexts = m ∙ filled_padded 64 n (λ k. (row_at w (drop c.at s) k).1);
    }

-- a label of at most four digits fits its word
pub label_room : (s : List ℕ) (c d : Cursor) (key : List Slot) (w v : ℕ) → IsHexLine s c key w v d → w ≤ 4 → v < 65536
label_room s c d key w v h l = digits_room v w 4 h.small l

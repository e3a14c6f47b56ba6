-- One turn of each loop over a text.
use Prim.Native.Nat.{ℕ, ◌+◌, ◌≤◌, ◌<◌}
use mathlib.Core.Bool.{Bool, true, false, cond}
use mathlib.Core.Path.{◌≡◌, refl, sym, ap, ◌∙◌}
use mathlib.Core.List.{List, [], ◌∷◌}
use Rattle.std.proofs.Common.{fold}
use native.Mathlib.Numerals.{add-one}
use lib.ListN.{length, get_or, drop, drop_of_length-le}
use lib.Seq.{drop-cons}
use Rattle.report_text.specs.declared.Cursor.{Cursor}
use Rattle.report_text.specs.Form.{byte_taken, word_from, is_digit, goes_on, list_end, list_to}

-- a text's byte at a place, and the text from the next place on
pub byte : (s : List ℕ) (at : ℕ) → at < length s → drop at s ≡ get_or s at 0 ∷ drop (at + 1) s
byte s at h = rw (add-one, drop-cons s at 0)

-- ---- known bytes

pub word_by_fold : (s : List ℕ) (c : Cursor) (known : List ℕ) → fold (byte_taken s) c known ≡ word_from s c known
unfolding word_from
word_by_fold s c [] = refl
word_by_fold s c (b ∷ known) = word_by_fold s (byte_taken s c b) known

-- ---- a list

list_turn : (c : Cursor) (inside : Bool) (at : ℕ) (s : List ℕ) → at < length s
    → list_to c inside at (drop at s) ≡ cond (goes_on inside (get_or s at 0)) (list_to c (is_digit (get_or s at 0)) (at + 1) (drop (at + 1) s)) (list_end c inside at)
unfolding list_to
list_turn c inside at s h = ap (list_to c inside at) (byte s at h)

-- it goes on with a byte
pub list_on : (c : Cursor) (inside : Bool) (at : ℕ) (s : List ℕ) → at < length s → goes_on inside (get_or s at 0) ≡ true
    → list_to c (is_digit (get_or s at 0)) (at + 1) (drop (at + 1) s) ≡ list_to c inside at (drop at s)
list_on c inside at s h on = sym (list_turn c inside at s h ∙ ap (λ (b : Bool). cond b (list_to c (is_digit (get_or s at 0)) (at + 1) (drop (at + 1) s)) (list_end c inside at)) on)

-- it ends before a byte
pub list_stop : (c : Cursor) (inside : Bool) (at : ℕ) (s : List ℕ) → at < length s → goes_on inside (get_or s at 0) ≡ false
    → list_end c inside at ≡ list_to c inside at (drop at s)
list_stop c inside at s h off = sym (list_turn c inside at s h ∙ ap (λ (b : Bool). cond b (list_to c (is_digit (get_or s at 0)) (at + 1) (drop (at + 1) s)) (list_end c inside at)) off)

-- it ends with the text
pub list_done : (c : Cursor) (inside : Bool) (at : ℕ) (s : List ℕ) → length s ≤ at → list_end c inside at ≡ list_to c inside at (drop at s)
unfolding list_to
list_done c inside at s h = sym (ap (list_to c inside at) (drop_of_length-le s {i = at} h))

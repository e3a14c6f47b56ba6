-- Lines one after the other, all of one form and of n bytes each, as many as the text has bytes for. A log is told from it, whatever its lines are.
use Prim.Native.Nat.{ℕ, zero, suc, ◌+◌, ◌-◌, ◌*◌, ◌/◌, ◌≤◌, ◌<◌}
use Rattle.std.specs.Prelude.{◌≡◌, refl, ◌⊎◌, drop}
use Rattle.std.proofs.Math.Path.{sym, ap}
use Rattle.std.proofs.Common.{◌∙◌, inr, eq-or-lt_of_le, div-lt_iff_lt-mul, mul-div_cancel, le-div_iff_mul-le, zero-mul, suc-mul, mul-le-mul_right}
use mathlib.Core.List.{List, [], ◌∷◌, ◌++◌, append_assoc, append-nil}
use Rattle.std.proofs.Math.Logic.{⊎_elim}
use Rattle.std.proofs.Math.Nat.{lt-div-mul-add}
use native.Mathlib.Omega.{arith}
use Rattle.std.proofs.Math.ListN.{length, get_or}
use Rattle.words.specs.Below.{list_below}
use Rattle.words.specs.Lists.{length_list, at_list, of_list}
use Rattle.text.specs.Slot.{Slot, matched}
use Rattle.text.specs.Matched.{matched_text, matched_less, matched_more}
use Rattle.text.specs.Form.{Form, Reads}
use Rattle.text.specs.Cases.{below_or_beyond}
use Rattle.text.specs.Many.{slots_below, offset, guess_at, below_same, below_length, below_exact, below_best}
use Rattle.text.specs.Place.{Fills, Whole}

-- a form that can be read, all of whose texts have n bytes
pub record Fixed {A : Type 0} (F : Form A) (n : ℕ) : Type 0 where
  pub reads : Reads F
  pub bytes : (a : A) → F.Ok a → length (F.slots a) ≡ n
  pub some : 0 < n

-- where line k begins: behind k lines of n bytes
abbrev pub line_start : ℕ → ℕ → ℕ
line_start n k = offset (λ j. n) k

-- how many lines a text of so many bytes begins: the fewest that have room for them
unfoldable pub begun : ℕ → ℕ → ℕ
begun n long = (long + (n - 1)) / n

-- the slots of k lines
abbrev pub lines_slots : {A : Type 0} → Form A → ℕ → (ℕ → A) → List Slot
lines_slots F k f = slots_below (λ j. F) k f

-- the guess at line k
abbrev pub line_at : {A : Type 0} → Form A → ℕ → List ℕ → ℕ → A
line_at F n s k = guess_at (λ j. F) (λ j. n) s k

-- a line for each value; `none` stands beyond the last
unfoldable pub lines : {A : Type 0} → Form A → ℕ → A → Form (List A)
lines F n none =
    record {
      Ok = λ l. (k : ℕ) → k < length l → F.Ok (get_or l k none);
      slots = λ l. lines_slots F (length l) (λ k. get_or l k none);
      guess = λ s. list_below (begun n (length s)) (line_at F n s);
    }

-- ---- how many lines there are

pub start_is : (n k : ℕ) → line_start n k ≡ k * n
unfolding offset
start_is n zero = sym (zero-mul n)
start_is n (suc k) = ap (λ (m : ℕ). m + n) (start_is n k) ∙ sym (suc-mul k n)

pub start_grows : (n j k : ℕ) → j ≤ k → line_start n j ≤ line_start n k
start_grows n j k h = rw (start_is n j, start_is n k) (mul-le-mul_right n h)

-- no line is empty
pub start_above : (n k : ℕ) → 0 < n → k ≤ line_start n k
unfolding offset
start_above n zero some = omega arith
start_above n (suc k) some = omega (arith, start_above n k some)

-- they have room for the text
pub begun_holds : (n long : ℕ) → 0 < n → long ≤ line_start n (begun n long)
unfolding begun
begun_holds n long some = rw start_is (omega (arith, lt-div-mul-add {a = long + (n - 1)} {b = n} some))

-- and fewer have not
pub begun_least : (n long k : ℕ) → 0 < n → long ≤ line_start n k → begun n long ≤ k
unfolding begun offset
begun_least n long k some h = omega (arith, (div-lt_iff_lt-mul {x = long + (n - 1)} {y = suc k} some).1 (rw (← start_is n (suc k)) (omega arith)))

-- a text that goes on behind k lines begins one more
pub begun_more : (n long k : ℕ) → 0 < n → line_start n k < long → k < begun n long
unfolding begun offset
begun_more n long k some h = (le-div_iff_mul-le {x = suc k} some).1 (rw (← start_is n (suc k)) (omega arith))

-- as many whole lines as a text has room for end within it
pub lines_inside : (n long k : ℕ) → 0 < n → k ≤ long / n → k * n ≤ long
lines_inside n long k some h = (le-div_iff_mul-le {x = k} some).0 h

-- lines that fill a text are all that it has
pub all_begun : (n long k : ℕ) → 0 < n → long ≡ line_start n k → (begun n long ≡ k) × (long / n ≡ k)
unfolding begun
all_begun n long k some e = (sums, rw (e, start_is) (mul-div_cancel k some))
  where
    reaches : k ≤ begun n long
    reaches = (le-div_iff_mul-le {x = k} some).1 (rw (← start_is n k) (omega arith))

    sums : begun n long ≡ k
    sums = omega (arith, begun_least n long k some (omega arith), reaches)

module _ {A : Type 0} (F : Form A) (n : ℕ) (fixed : Fixed F n) where
  -- what is guessed is of the form
  pub fine_line : (s : List ℕ) (k : ℕ) → F.Ok (line_at F n s k)
  fine_line s k = fixed.reads.fine (drop (line_start n k) s)

  pub lines_long : (s : List ℕ) (k : ℕ) → length (lines_slots F k (line_at F n s)) ≡ line_start n k
  lines_long s k = below_length (λ j. F) (λ j. n) (λ j. fixed.bytes) k (line_at F n s) (λ j l. fine_line s j)

  -- more lines begin with the first ones
  more_lines : (f : ℕ → A) (k m : ℕ) → k ≤ m → (us : List Slot) × (lines_slots F m f ≡ lines_slots F k f ++ us)
  unfolding slots_below
  more_lines f k zero h = ([], rw (le_zero h) refl)
    where
      le_zero : {k : ℕ} → k ≤ 0 → k ≡ 0
      le_zero h = omega arith
  more_lines f k (suc m) h = ⊎_elim same (λ (l : k < suc m). next (more_lines f k m (omega arith))) (eq-or-lt_of_le h)
    where
      same : k ≡ suc m → (us : List Slot) × (lines_slots F (suc m) f ≡ lines_slots F k f ++ us)
      same e = ([], rw e (sym (append-nil (lines_slots F (suc m) f))))

      next : ((us : List Slot) × (lines_slots F m f ≡ lines_slots F k f ++ us)) → (us : List Slot) × (lines_slots F (suc m) f ≡ lines_slots F k f ++ us)
      next (us, e) = (us ++ F.slots (f m), ap (λ (ts : List Slot). ts ++ F.slots (f m)) e ∙ append_assoc (lines_slots F k f) us (F.slots (f m)))

  -- a text fits more lines at least as far
  more_fit : (s : List ℕ) (k m : ℕ) → k ≤ m → matched s (lines_slots F k (line_at F n s)) ≤ matched s (lines_slots F m (line_at F n s))
  more_fit s k m h = let (us, e) = more_lines (line_at F n s) k m h in rw e (matched_more s (lines_slots F k (line_at F n s)) us)

  -- and no further where it does not fit them, or has no bytes for more
  pub enough :
      (s : List ℕ) (k m : ℕ) → k ≤ m → (matched s (lines_slots F k (line_at F n s)) < line_start n k) ⊎ (length s ≤ line_start n k)
      → matched s (lines_slots F m (line_at F n s)) ≡ matched s (lines_slots F k (line_at F n s))
  enough s k m h c =
      let (us, e) = more_lines (line_at F n s) k m h in
      let ts = lines_slots F k (line_at F n s) in
      rw e
      (⊎_elim (λ (l : matched s ts < length ts). matched_less s ts us l)
      (λ (l : length ts ≤ matched s ts).
      ⊎_elim (λ (b : matched s ts < line_start n k). absurd (omega (arith, lines_long s k)))
      (λ (b : length s ≤ line_start n k). omega (arith, lines_long s k, matched_more s ts us, matched_text s (ts ++ us))) c)
      (below_or_beyond (matched s ts) (length ts)))

  module _ (none : A) where
    pub guess_slots : (s : List ℕ) → (lines F n none).slots ((lines F n none).guess s) ≡ lines_slots F (begun n (length s)) (line_at F n s)
    unfolding lines
    guess_slots s =
        let m = begun n (length s) in
        rw (length_list m (line_at F n s)) (below_same (λ j. F) m (λ k. get_or (list_below m (line_at F n s)) k none) (line_at F n s) (at_list none m (line_at F n s)))

    pub guess_length : (s : List ℕ) → length ((lines F n none).guess s) ≡ begun n (length s)
    unfolding lines
    guess_length s = length_list (begun n (length s)) (line_at F n s)

    -- the first line apart
    pub first_line_lem : (a : A) (l : List A) → (lines F n none).slots (a ∷ l) ≡ F.slots a ++ (lines F n none).slots l
    unfolding lines slots_below
    first_line_lem a l = apart (length l) (λ k. get_or (a ∷ l) k none)
      where
        apart : (m : ℕ) (f : ℕ → A) → lines_slots F (suc m) f ≡ F.slots (f 0) ++ lines_slots F m (λ k. f (suc k))
        apart zero f = sym (append-nil (F.slots (f 0)))
        apart (suc m) f = ap (λ (ts : List Slot). ts ++ F.slots (f (suc m))) (apart m f) ∙ append_assoc (F.slots (f 0)) (lines_slots F m (λ k. f (suc k))) (F.slots (f (suc m)))

    -- whole texts of lines can be read
    pub lines_whole : Whole (lines F n none)
    unfolding lines
    lines_whole = record { fine = fine; exact = exact; best = λ l s ok. rw (guess_slots s) (best l s ok) }
      where
        fine : (s : List ℕ) (k : ℕ) → k < length (list_below (begun n (length s)) (line_at F n s)) → F.Ok (get_or (list_below (begun n (length s)) (line_at F n s)) k none)
        fine s k h =
            let m = begun n (length s) in
            rw (at_list none m (line_at F n s) k (omega (arith, length_list m (line_at F n s)))) (fine_line s k)

        exact :
            (l : List A) (s : List ℕ) → ((k : ℕ) → k < length l → F.Ok (get_or l k none)) → Fills s (lines_slots F (length l) (λ k. get_or l k none))
            → list_below (begun n (length s)) (line_at F n s) ≡ l
        exact l s ok f =
            let long : length s ≡ line_start n (length l) = sym f.long ∙ below_length (λ j. F) (λ j. n) (λ j. fixed.bytes) (length l) (λ k. get_or l k none) ok in
            let m : begun n (length s) ≡ length l = (all_begun n (length s) (length l) fixed.some long).0 in
            of_list none (begun n (length s)) (line_at F n s) l (sym m)
            (λ k h. below_exact (λ j. F) (λ j. n) (λ j. fixed.bytes) (λ j. fixed.reads) (length l) (λ k. get_or l k none) s ok f.all k (omega arith))

        best :
            (l : List A) (s : List ℕ) → ((k : ℕ) → k < length l → F.Ok (get_or l k none))
            → matched s (lines_slots F (length l) (λ k. get_or l k none)) ≤ matched s (lines_slots F (begun n (length s)) (line_at F n s))
        best l s ok =
            let m = begun n (length s) in
            let b = below_best (λ j. F) (λ j. n) (λ j. fixed.bytes) (λ j. fixed.reads) (length l) (λ k. get_or l k none) s ok in
            ⊎_elim (λ (h : length l < m). omega (arith, more_fit s (length l) m (omega arith)))
            (λ (h : m ≤ length l). omega (arith, enough s m (length l) h (inr (begun_holds n (length s) fixed.some))))
            (below_or_beyond (length l) m)

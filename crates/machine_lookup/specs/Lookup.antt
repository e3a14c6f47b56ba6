-- WHAT A LOOK-UP ANSWERS, for any bytes: the next row, and what the lamp shows there. What it does not read it does not look at.
use Rattle.std.specs.Prelude.{ℕ, ◌+◌, ◌*◌, ◌/◌, ◌%◌, ◌≤◌, ◌<◌, ◌≡◌, Bool, true, false, ◌&&◌, cond, List, [], ◌∷◌, eqb, ltb, leb, length, get_or, Result, Ok, Err}
use Rattle.std.proofs.Math.Path.{refl}
use borrow.Author.Tests.{lt-ltb, le-ltb, le-leb}
use Rattle.words.specs.Word.{only_of}
use Rattle.answers.specs.declared.Kind.{Kind}
use Rattle.answers.specs.declared.Kind.TheVariants.{Counts, Value, IllegalEvent}
use Rattle.answers.specs.declared.Refusal.{Refusal}
use Rattle.answers.specs.Paper.{refused_at}
use Rattle.event_log.specs.declared.Event.{Event}
use Rattle.event_log.specs.Legal.{legal_of}
use Rattle.columns.specs.Columns.{count_of}
use Rattle.machine_lookup.specs.declared.Stand.{Stand}

-- which two columns an event has, by what it sees times eight and what it gives
abbrev pub twos : List ℕ
twos =
    0 ∷ 0 ∷ 0 ∷ 0 ∷ 0 ∷ 0 ∷ 0 ∷ 0 ∷ 1 ∷ 2 ∷ 0 ∷ 0 ∷ 0 ∷ 0 ∷ 0 ∷ 0 ∷ 3 ∷ 0 ∷ 4 ∷ 0 ∷ 0 ∷ 0 ∷ 0 ∷ 0 ∷ 5 ∷ 6 ∷ 7 ∷ 8 ∷ 0 ∷ 0 ∷ 0 ∷ 0 ∷ 9 ∷ 0 ∷ 0 ∷ 0 ∷ 10 ∷ 0 ∷ 0 ∷ 0 ∷ 11 ∷ 12 ∷ 0 ∷ 0 ∷ 13 ∷ 14 ∷ 0 ∷ 0
    ∷ 15 ∷ 0 ∷ 16 ∷ 0 ∷ 17 ∷ 0 ∷ 18 ∷ 0 ∷ 19 ∷ 20 ∷ 21 ∷ 22 ∷ 23 ∷ 24 ∷ 25 ∷ 26 ∷ []

-- the column of an event
unfoldable pub column_of : ℕ → ℕ → Bool → ℕ
column_of see val new = get_or twos (see * 8 + val) 0 * 2 + only_of new 1

-- so many bytes are whole rows, at most 256 of them, and this is one
unfoldable pub holds_row : ℕ → ℕ → ℕ → Bool
holds_row bytes width row = eqb (bytes % width) 0 && (ltb row (bytes / width) && leb (bytes / width) 256)

abbrev pub refused : Kind → Result Stand Refusal
refused k = Err (refused_at k 0)

-- what a row shows: 9 where it is none, or shows no verdict, or more states than a table has
unfoldable pub stand_at : List ℕ → ℕ → ℕ → Result Stand Refusal
stand_at machine width row =
    cond (ltb row (length machine / width) && (leb (get_or machine (row * width) 0) 3 && leb (get_or machine (row * width + 1) 0) 64))
    (Ok (record { row = row; verdict = get_or machine (row * width) 0; left = get_or machine (row * width + 1) 0 })) (refused Value)

-- 1, 9, 10, and 9 for the row that the cell holds
unfoldable pub looked_up : List ℕ → ℕ → ℕ → Event → Result Stand Refusal
looked_up machine props row e =
    let width = count_of props + 2 in
    cond (leb 1 props && leb props 3)
    (cond (holds_row (length machine) width row)
    (cond (legal_of e props) (stand_at machine width (get_or machine (row * width + 2 + column_of e.see e.val e.new) 0)) (refused IllegalEvent)) (refused Value)) (refused Counts)

-- ---- for code

-- what a row shows
module _ (machine : List ℕ) (width row : ℕ) where
  pub stand_beyond : {r : Refusal} → length machine / width ≤ row → r ≡ refused_at Value 0 → Err r ≡ stand_at machine width row
  unfolding stand_at
  stand_beyond l is = rw (le-ltb row (length machine / width) l, is) refl

  module _ (low : row < length machine / width) {v l : ℕ} (verdict : v ≡ get_or machine (row * width) 0) (left : l ≡ get_or machine (row * width + 1) 0) where
    pub stand_shown : (leb v 3 && leb l 64) ≡ true → Ok (record { row = row; verdict = v; left = l }) ≡ stand_at machine width row
    unfolding stand_at
    stand_shown t = rw (lt-ltb row (length machine / width) low, ← verdict, ← left, t) refl

    pub stand_none : {r : Refusal} → (leb v 3 && leb l 64) ≡ false → r ≡ refused_at Value 0 → Err r ≡ stand_at machine width row
    unfolding stand_at
    stand_none t e = rw (lt-ltb row (length machine / width) low, ← verdict, ← left, t, e) refl

-- what a look-up answers
module _ (machine : List ℕ) (props row : ℕ) (e : Event) where
  pub looked_none : {r : Refusal} → (leb 1 props && leb props 3) ≡ false → r ≡ refused_at Counts 0 → Err r ≡ looked_up machine props row e
  unfolding looked_up
  looked_none out is = rw (out, is) refl

  module _ (some : 1 ≤ props) where
    module _ (few : props ≤ 3) {width : ℕ} (wide : width ≡ count_of props + 2) where
      pub looked_unheld : {r : Refusal} → holds_row (length machine) width row ≡ false → r ≡ refused_at Value 0 → Err r ≡ looked_up machine props row e
      unfolding looked_up
      looked_unheld h is = rw (le-leb 1 props some, le-leb props 3 few, ← wide, h, is) refl

      module _ (held : holds_row (length machine) width row ≡ true) where
        pub looked_illegal : {r : Refusal} → legal_of e props ≡ false → r ≡ refused_at IllegalEvent 0 → Err r ≡ looked_up machine props row e
        unfolding looked_up
        looked_illegal h is = rw (le-leb 1 props some, le-leb props 3 few, ← wide, held, h, is) refl

        pub looked_there : {k x : ℕ} {r : Result Stand Refusal} → legal_of e props ≡ true → k ≡ column_of e.see e.val e.new → x ≡ get_or machine (row * width + 2 + k) 0 → r ≡ stand_at machine width x → r ≡ looked_up machine props row e
        unfolding looked_up
        looked_there h c b is = rw (le-leb 1 props some, le-leb props 3 few, ← wide, held, h, ← c, ← b) is

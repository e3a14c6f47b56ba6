-- More of specs/Promises: what adding a sheet does to the texts that a store holds, and so the store after any adds.
use Rattle.std.specs.Prelude.{ℕ, ◌≤◌, ◌<◌, ◌≡◌, Bool, List, [], ◌∷◌, ◌++◌, leb, length, drop, Result, Ok, Err}
use Rattle.std.proofs.Math.Path.{refl, ap}
use Rattle.std.proofs.Common.{◌∙◌, arith}
use Rattle.std.proofs.Math.Bool.{true, false, cond}
use Rattle.std.proofs.Math.Dec.{eqb}
use Rattle.std.proofs.Math.ListN.{length-drop}
use borrow.Author.Tests.{eqb-true, eqb-false, leb-true, leb-false}
use Rattle.sheet.specs.declared.Lines.{Lines}
use Rattle.sheet.specs.Sheet.{number_of, Values, IsSheet}
use Rattle.sheet.specs.Machine.{scan_of}
use Rattle.sheet.specs.Short.{sheet_short}
use Rattle.sheet.proofs.Promises.{accepted_exactly, refused_exactly}
use Rattle.sheet_store.specs.declared.Store.{Store}
use Rattle.answers.specs.declared.Kind.TheVariants.{NoKey, NotNewer}
use Rattle.sheet_store.specs.Store.{edition_of, kept_of, dropped, pushed, refused_as, held_as, added_by, added_for, added}
use Rattle.sheet_store.specs.Shelf.{Shelf, newest_from, newest_drop, empty_store, shelf_empty, shelf_fits, shelf_push, shelf_drop, shelf_newest}
use Rattle.sheet_store.specs.Promises.{Adds, adding, adds_shelf, edition_is, no_edition, no_number, no_sheet, not_above, number_none, shelved, shelved_if, shelving, taken}

-- ---- adding

module _ (st : Store) (ts : List (List ℕ)) (h : Shelf st ts) (s : List ℕ) where
  -- with room, or by dropping the oldest
  shelf_takes : length s ≤ 1024 → newest_from 0 ts < edition_of s → Shelf (cond (eqb st.count 8) (pushed (dropped st) (kept_of s)) (pushed st (kept_of s))) (shelved ts s)
  unfolding shelved
  shelf_takes short above = let e : eqb st.count 8 ≡ eqb (length ts) 8 = ap (λ n. eqb n 8) h.count in rw e (by_test (eqb (length ts) 8) refl)
    where
      by_test : (t : Bool) → eqb (length ts) 8 ≡ t → Shelf (cond t (pushed (dropped st) (kept_of s)) (pushed st (kept_of s))) (cond t (drop 1 ts) ts ++ s ∷ [])
      by_test true e =
          let full : st.count ≡ 8 = h.count ∙ eqb-true (length ts) 8 e in
          let d = shelf_drop st ts h full in
          shelf_push (dropped st) (drop 1 ts) s d (omega (arith, d.count, length-drop 1 ts, eqb-true (length ts) 8 e)) short (omega (arith, newest_drop ts))
      by_test false e = shelf_push st ts s h (omega (arith, h.count, h.few, eqb-false (length ts) 8 e)) short above

  -- each sheet is answered so
  pub adds_right : Adds st ts s (added st s)
  unfolding added added_by
  adds_right = rw (shelf_fits st ts h) (by_scan (scan_of s) refl)
    where
      held : (x : Values) → IsSheet s x → newest_from 0 ts < number_of x.edition → (t : Bool)
          → Shelf (cond t (pushed (dropped st) (kept_of s)) (pushed st (kept_of s))) (shelved ts s)
          → Adds st ts s (cond t (held_as (pushed (dropped st) (kept_of s))) (held_as (pushed st (kept_of s))))
      held x is above true k = taken is above k
      held x is above false k = taken is above k

      by_newest : (x : Values) → IsSheet s x → (x.edition ≡ [] → ⊥) → (t : Bool) → leb (number_of x.edition) (newest_from 0 ts) ≡ t
          → Adds st ts s (cond t (refused_as NotNewer 0 0 st) (cond (eqb st.count 8) (held_as (pushed (dropped st) (kept_of s))) (held_as (pushed st (kept_of s)))))
      by_newest x is some true e = not_above is some (leb-true (number_of x.edition) (newest_from 0 ts) e)
      by_newest x is some false e =
          let above = leb-false (number_of x.edition) (newest_from 0 ts) e in
          held x is above (eqb st.count 8) (shelf_takes (sheet_short s x is) (rw (edition_is s x is) above))

      by_zero : (x : Values) → IsSheet s x → (t : Bool) → eqb (number_of x.edition) 0 ≡ t
          → Adds st ts s (cond t (refused_as NoKey 0 0 st) (cond (leb (number_of x.edition) (newest_from 0 ts)) (refused_as NotNewer 0 0 st)
          (cond (eqb st.count 8) (held_as (pushed (dropped st) (kept_of s))) (held_as (pushed st (kept_of s))))))
      by_zero x is true e = no_edition is (number_none x.edition is.edition (eqb-true (number_of x.edition) 0 e))
      by_zero x is false e = by_newest x is (λ z. eqb-false (number_of x.edition) 0 e (no_number x.edition z)) _ refl

      by_scan : (a : Result Lines ℕ) → scan_of s ≡ a → Adds st ts s (added_for a st s)
      by_scan (Err i) e = no_sheet ((refused_exactly s i).0 e)
      by_scan (Ok l) e =
          let t = (accepted_exactly s l).0 e in
          rw (t.lines, shelf_newest st ts h) (by_zero t.values t.sheet _ refl)

-- THE STORE AFTER ANY ADDS holds these texts, the oldest first, and their editions ascend (`Shelf`)
pub shelf_on : (st : Store) (ts : List (List ℕ)) → Shelf st ts → (ss : List (List ℕ)) → Shelf (adding st ss) (shelving ts ss)
unfolding adding shelving
shelf_on st ts h [] = h
shelf_on st ts h (s ∷ ss) = shelf_on (added st s).store (shelved_if ts s) (adds_shelf h (adds_right st ts h s)) ss

-- from the empty store on
pub always_shelf : (ss : List (List ℕ)) → Shelf (adding empty_store ss) (shelving [] ss)
always_shelf ss = shelf_on empty_store [] shelf_empty ss

-- The turns of loops over a store, and what its searches find.
use Rattle.std.specs.Prelude.{ℕ, suc, ◌+◌, ◌≤◌, ◌<◌, ◌≡◌, refl, Bool, true, false, cond, List, [], ◌∷◌, ◌++◌, length, get_or, take, drop, set, eqb, ltb, Ok}
use Rattle.std.proofs.Common.{sym, ap, ◌∙◌, append_assoc, arith, add-one, add_comm, length-drop, take-suc, drop-cons, length-take-le, get_or-append-add, get_or-drop, get_or-take}
use Rattle.std.proofs.lemmas.Bool.{false≢true}
use Rattle.std.proofs.lemmas.List.{set_at}
use Rattle.std.proofs.Math.Seq.{drop-length}
use borrow.Author.Tests.{eq-eqb, ne_eqb, eqb-true, lt-ltb, le-ltb, ltb-false}
use Rattle.words.specs.Over.{over, over_set}
use Rattle.sheet.specs.declared.Lines.{Lines}
use Rattle.sheet.specs.Machine.{scan_of}
use Rattle.sheet.specs.Short.{sheet_short}
use Rattle.sheet.proofs.Promises.{accepted_exactly}
use Rattle.sheet_store.specs.declared.Kept.{Kept}
use Rattle.sheet_store.specs.declared.Store.{Store}
use Rattle.sheet_store.specs.Store.{text_in, edition_of, slid, blank, some_long, overfull_of, edition_in, place_of}

-- a byte more of a text that is laid over another
pub over_turn : (s old : List ℕ) (i : ℕ) → i < length s → length s ≤ length old → set (over (take i s) old) i (get_or s i 0) ≡ over (take (i + 1) s) old
over_turn s old i h g =
    let n : length (take i s) ≡ i = length-take-le i s (omega arith) in
    let f : take (i + 1) s ≡ take i s ++ get_or s i 0 ∷ [] = rw (add-one i) (take-suc s i 0 h) in
    ap (λ k. set (over (take i s) old) k (get_or s i 0)) (sym n) ∙ over_set (take i s) old (get_or s i 0) (omega arith) ∙ ap (λ t. over t old) (sym f)

-- a sheet more is moved to the place before it
pub slid_turn : (ks : List Kept) (d : Kept) (i : ℕ) → i + 1 < length ks → set (slid i ks) i (get_or (slid i ks) (i + 1) d) ≡ slid (i + 1) ks
slid_turn ks d i h =
    let p = take i (drop 1 ks) in
    let n : length p ≡ i = length-take-le i (drop 1 ks) (omega (arith, length-drop 1 ks)) in
    let m : i < length (drop 1 ks) = omega (arith, length-drop 1 ks) in
    let v = get_or ks (i + 1) d in
    let read : get_or (slid i ks) (i + 1) d ≡ v = ap (λ k. get_or (p ++ drop i ks) (k + 1) d) (sym n) ∙ get_or-append-add p (drop i ks) 1 d ∙ get_or-drop i ks 1 d in
    let moved : get_or (drop 1 ks) i d ≡ v = get_or-drop 1 ks i d ∙ ap (λ k. get_or ks k d) (add_comm 1 i) in
    let front : take (i + 1) (drop 1 ks) ≡ p ++ v ∷ [] = rw (add-one i) (take-suc (drop 1 ks) i d m) ∙ ap (λ x. p ++ x ∷ []) moved in
    let back : drop i ks ≡ get_or ks i d ∷ drop (i + 1) ks = rw (add-one i) (drop-cons ks i d (omega arith)) in
    ap (set (slid i ks) i) read ∙ ap (λ t. set (p ++ t) i v) back ∙ set_at p (get_or ks i d) (drop (i + 1) ks) v i n
    ∙ sym (ap (λ t. t ++ drop (i + 1) ks) front ∙ append_assoc p (v ∷ []) (drop (i + 1) ks))

-- the sheets from a place on
module _ (ks : List Kept) (d : Kept) (i : ℕ) (h : i < length ks) where
  cut : drop i ks ≡ get_or ks i d ∷ drop (i + 1) ks
  cut = rw (add-one i) (drop-cons ks i d h)

  -- a search for one that is too long
  pub long_here : 1024 < (get_or ks i d).len → some_long (drop i ks) ≡ true
  unfolding some_long
  long_here f = rw (cut, lt-ltb 1024 (get_or ks i d).len f)

  pub long_on : (get_or ks i d).len ≤ 1024 → some_long (drop i ks) ≡ some_long (drop (i + 1) ks)
  unfolding some_long
  long_on f = rw (cut, le-ltb 1024 (get_or ks i d).len f)

pub long_end : (ks : List Kept) (i : ℕ) → i ≡ length ks → some_long (drop i ks) ≡ false
unfolding some_long
long_end ks i h = rw (h, drop-length ks)

-- a store that does not count too many has eight sheets at most
pub fits_count : (st : Store) → overfull_of st ≡ false → st.count ≤ 8
unfolding overfull_of
fits_count st e = by_test (ltb 8 st.count) refl e
  where
    by_test : (b : Bool) → ltb 8 st.count ≡ b → cond b true (some_long (take st.count st.sheets)) ≡ false → st.count ≤ 8
    by_test true f e = absurd (false≢true (sym e))
    by_test false f e = ltb-false 8 st.count f

-- a search for an edition
module _ (e : ℕ) (ks : List Kept) (d : Kept) (i : ℕ) (h : i < length ks) where
  pub place_here : edition_in (get_or ks i d) ≡ e → place_of e (drop i ks) ≡ 0
  unfolding place_of
  place_here f = rw (cut ks d i h, eq-eqb (edition_in (get_or ks i d)) e f)

  pub place_on : (edition_in (get_or ks i d) ≡ e → ⊥) → place_of e (drop i ks) ≡ suc (place_of e (drop (i + 1) ks))
  unfolding place_of
  place_on f = rw (cut ks d i h, ne_eqb (edition_in (get_or ks i d)) e f)

pub place_end : (e : ℕ) (ks : List Kept) (i : ℕ) → i ≡ length ks → place_of e (drop i ks) ≡ 0
unfolding place_of
place_end e ks i h = rw (h, drop-length ks)

-- what is found has that edition
pub place_found : (e : ℕ) (ks : List Kept) (d : Kept) → place_of e ks < length ks → edition_in (get_or ks (place_of e ks) d) ≡ e
unfolding place_of
place_found e [] d h = absurd (omega arith)
place_found e (k ∷ ks) d h = by_test (eqb (edition_in k) e) (eqb-true (edition_in k) e) h (place_found e ks d)
  where
    by_test :
        (t : Bool) → (t ≡ true → edition_in k ≡ e) → cond t 0 (suc (place_of e ks)) < suc (length ks) → (place_of e ks < length ks → edition_in (get_or ks (place_of e ks) d) ≡ e)
        → edition_in (get_or (k ∷ ks) (cond t 0 (suc (place_of e ks))) d) ≡ e
    by_test true f h g = f refl
    by_test false f h g = g (omega arith)

-- and so is not too long
edition_short : (t : Kept) → (edition_in t ≡ 0 → ⊥) → t.len ≤ 1024
unfolding edition_in
edition_short t h = by_test (ltb 1024 t.len) refl h
  where
    by_test : (b : Bool) → ltb 1024 t.len ≡ b → (cond b 0 (edition_of (text_in t)) ≡ 0 → ⊥) → t.len ≤ 1024
    by_test true e h = absurd (h refl)
    by_test false e h = ltb-false 1024 t.len e

pub found_short : (e n : ℕ) (ks : List Kept) → (e ≡ 0 → ⊥) → n ≤ length ks → place_of e (take n ks) < n → (get_or ks (place_of e (take n ks)) blank).len ≤ 1024
found_short e n ks h g f =
    let i = place_of e (take n ks) in
    let is = place_found e (take n ks) blank (omega (arith, length-take-le n ks g)) in
    edition_short (get_or ks i blank) (λ z. h (sym (ap edition_in (sym (get_or-take n ks i blank f)) ∙ is) ∙ z))

-- a sheet is not too long
pub scan_short : (s : List ℕ) (l : Lines) → scan_of s ≡ Ok l → length s ≤ 1024
scan_short s l e = let t = (accepted_exactly s l).0 e in sheet_short s t.values t.sheet

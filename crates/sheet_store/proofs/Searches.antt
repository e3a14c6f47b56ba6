-- The searches of specs/Store, as the library's iterators make them.
use Rattle.std.specs.Prelude.{ℕ, ◌≤◌, ◌<◌, ◌≡◌, refl, Bool, ◌||◌, true, false, cond, Some, None, List, [], ◌∷◌, ltb, nat_lt, length, get_or, take}
use Rattle.std.specs.List.{list_any, position, position_or_len}
use Rattle.std.proofs.Common.{◌∙◌, sym, ap, arith, length-take-le, lt-ltb, le-ltb, ltb-true, ltb-false, ne_eqb, add-one, add_comm}
use Rattle.std.proofs.lemmas.List.Recursion.{is_position_or_len}
use Rattle.answers.specs.declared.Kind.TheVariants.{NotHeld}
use Rattle.sheet_store.specs.declared.Kept.{Kept}
use Rattle.sheet_store.specs.declared.Store.{Store}
use Rattle.sheet_store.specs.Store.{blank, is_edition, place_of, some_long, overfull_of, keeps, copied_kept, copied}
use Rattle.sheet_store.specs.Laws.{fits_count, found_short}

-- a sheet that is too long
long_by_any : (ks : List Kept) → list_any (λ t. ltb 1024 t.len) ks ≡ some_long ks
unfolding some_long
long_by_any [] = refl
long_by_any (k ∷ ks) = by_test (ltb 1024 k.len) (long_by_any ks)
  where
    by_test : (b : Bool) → list_any (λ t. ltb 1024 t.len) ks ≡ some_long ks → (b || list_any (λ t. ltb 1024 t.len) ks) ≡ cond b true (some_long ks)
    by_test true e = refl
    by_test false e = e

pub overfull_by_any : (st : Store) → st.count ≤ 8 → list_any (λ t. ltb 1024 t.len) (take st.count st.sheets) ≡ overfull_of st
unfolding overfull_of
overfull_by_any st few = rw (le-ltb 8 st.count few) (long_by_any (take st.count st.sheets))

pub overfull_by_count : (st : Store) → 8 < st.count → true ≡ overfull_of st
unfolding overfull_of
overfull_by_count st many = rw (lt-ltb 8 st.count many) refl

-- the place of an edition
by_position : (e : ℕ) (ks : List Kept) → place_of e ks ≡ position_or_len (is_edition e) ks
unfolding place_of
by_position e ks =
    is_position_or_len (place_of e) (is_edition e) refl
    (λ t ts. ap (λ (n : ℕ). cond (is_edition e t) 0 n) (sym (add-one (place_of e ts)) ∙ add_comm (place_of e ts) 1)) ks

module _ (e n : ℕ) (ks : List Kept) (h : n ≤ length ks) where
  at_place : (p : ℕ) (b : Bool) → place_of e (take n ks) ≡ p → nat_lt p (length (take n ks)) ≡ b → {i : ℕ} → cond b (Some p) None ≡ Some i → (place_of e (take n ks) ≡ i) × (i < n)
  at_place p true is l {i} f = let same : p ≡ i = cc f in (is ∙ same, omega (arith, same, ltb-true p (length (take n ks)) l, length-take-le n ks h))
  at_place p false is l f = cc f

  no_place : (p : ℕ) (b : Bool) → place_of e (take n ks) ≡ p → nat_lt p (length (take n ks)) ≡ b → cond b (Some p) None ≡ None → n ≤ place_of e (take n ks)
  no_place p true is l f = cc f
  no_place p false is l f = omega (arith, is, ltb-false p (length (take n ks)) l, length-take-le n ks h)

  place_found_at : (i : ℕ) → position (is_edition e) (take n ks) ≡ Some i → (place_of e (take n ks) ≡ i) × (i < n)
  place_found_at i f = at_place (position_or_len (is_edition e) (take n ks)) _ (by_position e (take n ks)) refl f

  place_nowhere : position (is_edition e) (take n ks) ≡ None → n ≤ place_of e (take n ks)
  place_nowhere f = no_place (position_or_len (is_edition e) (take n ks)) _ (by_position e (take n ks)) refl f

module _ (st : Store) (e : ℕ) (buf : List ℕ) (fits : overfull_of st ≡ false) (some : e ≡ 0 → ⊥) (full : length st.sheets ≡ 8) where
  few : st.count ≤ length st.sheets
  few = omega (arith, full, fits_count st fits)

  -- the sheet that is found, which is not too long
  module _ (i : ℕ) (f : position (is_edition e) (take st.count st.sheets) ≡ Some i) where
    pub found_sheet : copied st e buf ≡ copied_kept (get_or st.sheets i blank) buf
    unfolding copied
    found_sheet = let at = place_found_at e st.count st.sheets few i f in rw (fits, ne_eqb e 0 some, at.0, lt-ltb i st.count at.1) refl

    pub sheet_fits : (get_or st.sheets i blank).len ≤ 1024
    sheet_fits = let at = place_found_at e st.count st.sheets few i f in rw at.0 at (found_short e st.count st.sheets some few (rw at.0 at.1))

  -- or none
  pub found_none : position (is_edition e) (take st.count st.sheets) ≡ None → copied st e buf ≡ keeps NotHeld buf
  unfolding copied
  found_none f = rw (fits, ne_eqb e 0 some, le-ltb (place_of e (take st.count st.sheets)) st.count (place_nowhere e st.count st.sheets few f)) refl

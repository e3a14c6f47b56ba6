-- What the lent words promise: keeping sheets in words is adding them to the store that the words are. So all that sheet_store/specs/Promises says of stores holds of words.
use Rattle.std.specs.Prelude.{ℕ, zero, suc, ◌+◌, ◌*◌, ◌-◌, ◌/◌, ◌%◌, ◌≤◌, ◌<◌, ◌≡◌, refl, Bool, true, false, cond, List, [], ◌∷◌, ◌++◌, eqb, leb, length, get_or, take, drop, set, replicate, Result, Ok, Err}
use Rattle.std.proofs.Common.{sym, ap, ◌∙◌, arith, length-append, length-drop, length-set, get_or-append-add, get_or-drop, length-take-le}
use Rattle.std.proofs.Math.Decide.{dec_lt}
use Rattle.std.proofs.lemmas.List.{length-replicate}
use Rattle.std.proofs.Math.ListN.{get_or-append, get_or-eq_default}
use Rattle.words.specs.Below.{list_below}
use Rattle.words.specs.Lists.{length_list, list_at, zeros}
use Rattle.sheet.specs.declared.Lines.{Lines}
use Rattle.sheet.specs.Machine.{scan_of}
use Rattle.sheet_store.specs.declared.Kept.{Kept}
use Rattle.sheet_store.specs.declared.Store.{Store}
use Rattle.sheet_store.specs.declared.Added.{Added}
use Rattle.sheet_store.specs.Store.{blank, kept_of, dropped, pushed, overfull_of, newest_of, held_as, added_by, added_for, added}
use Rattle.sheet_store.specs.Laws.{scan_short}
use Rattle.sheet_store.specs.Shelf.{empty_store, Shelf}
use Rattle.sheet_store.specs.Promises.{adding, shelving}
use Rattle.sheet_store.proofs.Promises.{always_shelf}
use Rattle.store_words.specs.Words.{byte_of, byte_in, kept_in, store_in, words_of, next_by, next_words}
use Rattle.store_words.specs.Back.{Typed, store_back, zeros_empty}

-- ---- what the types tell of a store

pub data AllTyped : List Kept → Type 0 where
  none_typed : AllTyped []
  more_typed : {t : Kept} {ks : List Kept} → Typed t → AllTyped ks → AllTyped (t ∷ ks)

pub record Fit (st : Store) : Type 0 where
  pub places : length st.sheets ≡ 8
  pub typed : AllTyped st.sheets

typed_at : (ks : List Kept) (i : ℕ) → AllTyped ks → i < length ks → Typed (get_or ks i blank)
typed_at [] i a h = absurd (omega arith)
typed_at (t ∷ ks) zero (more_typed x a) h = x
typed_at (t ∷ ks) (suc i) (more_typed x a) h = typed_at ks i a (omega arith)

typed_set : (ks : List Kept) (i : ℕ) (t : Kept) → AllTyped ks → Typed t → AllTyped (set ks i t)
typed_set [] i t a x = a
typed_set (k ∷ ks) zero t (more_typed y a) x = more_typed x a
typed_set (k ∷ ks) (suc i) t (more_typed y a) x = more_typed y (typed_set ks i t a x)

typed_both : (ks ls : List Kept) → AllTyped ks → AllTyped ls → AllTyped (ks ++ ls)
typed_both [] ls a b = b
typed_both (k ∷ ks) ls (more_typed y a) b = more_typed y (typed_both ks ls a b)

typed_take : (n : ℕ) (ks : List Kept) → AllTyped ks → AllTyped (take n ks)
typed_take zero ks a = none_typed
typed_take (suc n) [] a = none_typed
typed_take (suc n) (k ∷ ks) (more_typed y a) = more_typed y (typed_take n ks a)

typed_drop : (n : ℕ) (ks : List Kept) → AllTyped ks → AllTyped (drop n ks)
typed_drop zero ks a = a
typed_drop (suc n) [] a = none_typed
typed_drop (suc n) (k ∷ ks) (more_typed y a) = typed_drop n ks a

pub fit_back : (st : Store) → Fit st → store_in (words_of st) ≡ st
fit_back st f = store_back st f.places (λ i h. typed_at st.sheets i f.typed (omega (arith, f.places)))

-- ---- a store in words

byte_small : (w k : ℕ) → byte_of w k < 256
unfolding byte_of
byte_small w zero = omega arith
byte_small w (suc k) = byte_small (w / 256) k

list_small : (f : ℕ → ℕ) → ((j : ℕ) → f j < 256) → (j : ℕ) → get_or (list_below 1024 f) j 0 < 256
list_small f small j = elim (dec_lt j 1024) [
  | yes h ↦ rw (list_at 1024 f j h) (small j)
  | no h ↦ rw (get_or-eq_default (list_below 1024 f) 0 {n = j} (omega (arith, length_list 1024 f))) (omega arith)
]

kept_typed : (w : List ℕ) (i : ℕ) → Typed (kept_in w i)
unfolding kept_in
kept_typed w i = record { places = length_list 1024 (byte_in w i); small = list_small (byte_in w i) (λ j. byte_small (get_or w (9 + 128 * i + j / 8) 0) (j % 8)) }

pub fit_in : (w : List ℕ) → Fit (store_in w)
unfolding store_in
fit_in w =
    record {
      places = refl;
      typed = more_typed (kept_typed w 0) (more_typed (kept_typed w 1) (more_typed (kept_typed w 2) (more_typed (kept_typed w 3) (more_typed (kept_typed w 4) (more_typed (kept_typed w 5) (more_typed (kept_typed w 6) (more_typed (kept_typed w 7) none_typed)))))));
    }

-- ---- adding

-- a text of bytes
pub record Bytes (s : List ℕ) : Type 0 where
  pub small : (j : ℕ) → get_or s j 0 < 256

new_typed : (s : List ℕ) → Bytes s → length s ≤ 1024 → Typed (kept_of s)
unfolding kept_of
new_typed s b h =
    record {
      places = omega (arith, length-append s (drop (length s) (replicate 1024 0)), length-drop (length s) (replicate {A = ℕ} 1024 0), length-replicate {A = ℕ} 1024 0);
      small = λ j. elim (dec_lt j (length s)) [ yes g ↦ rw (get_or-append s (drop (length s) (replicate 1024 0)) 0 j g) (b.small j) | no g ↦ beyond j (omega arith) ];
    }
  where
    beyond : (j : ℕ) → length s ≤ j → get_or (s ++ drop (length s) (replicate 1024 0)) j 0 < 256
    beyond j g =
        let e : length s + (j - length s) ≡ j = omega arith in
        let z : get_or (s ++ drop (length s) (replicate 1024 0)) j 0 ≡ 0 =
        ap (λ k. get_or (s ++ drop (length s) (replicate 1024 0)) k 0) (sym e) ∙ get_or-append-add s (drop (length s) (replicate 1024 0)) (j - length s) 0
        ∙ get_or-drop (length s) (replicate 1024 0) (j - length s) 0 ∙ zeros 1024 (length s + (j - length s)) in
        omega arith

fit_push : (st : Store) (t : Kept) → Fit st → Typed t → Fit (pushed st t)
unfolding pushed
fit_push st t f x = record { places = length-set st.sheets st.count t ∙ f.places; typed = typed_set st.sheets st.count t f.typed x }

fit_drop : (st : Store) → Fit st → Fit (dropped st)
unfolding dropped
fit_drop st f =
    let ks = st.sheets in
    record {
      places = omega (arith, f.places, length-append (take 7 (drop 1 ks)) (drop 7 ks), length-take-le 7 (drop 1 ks) (omega (arith, f.places, length-drop 1 ks)), length-drop 7 ks);
      typed = typed_both (take 7 (drop 1 ks)) (drop 7 ks) (typed_take 7 (drop 1 ks) (typed_drop 1 ks f.typed)) (typed_drop 7 ks f.typed);
    }

-- what a test chooses has what both have
either : {A : Type 0} (t : Bool) (P : A → Type 0) (x y : A) → P x → P y → P (cond t x y)
either true P x y p q = p
either false P x y p q = q

-- the words after an answer are the store of the answer
pub next_store : (w s : List ℕ) → Bytes s → store_in (next_words w (added (store_in w) s)) ≡ (added (store_in w) s).store
unfolding next_words added added_by
next_store w s b =
    either (overfull_of (store_in w)) Q _ (added_for (scan_of s) (store_in w) s) refl (by_scan (scan_of s) refl)
  where
    Q : Added → Type 0
    Q a = store_in (next_by a.answer (words_of a.store) w) ≡ a.store

    held : (st : Store) → Fit st → Q (held_as st)
    held st f = fit_back st f

    by_scan : (a : Result Lines ℕ) → scan_of s ≡ a → Q (added_for a (store_in w) s)
    by_scan (Err i) e = refl
    by_scan (Ok l) e =
        let t = new_typed s b (scan_short s l e) in
        let f = fit_in w in
        either (eqb l.number 0) Q _ _ refl
        (either (leb l.number (newest_of (store_in w))) Q _ _ refl
        (either (eqb (store_in w).count 8) Q _ _ (held (pushed (dropped (store_in w)) (kept_of s)) (fit_push (dropped (store_in w)) (kept_of s) (fit_drop (store_in w) f) t))
        (held (pushed (store_in w) (kept_of s)) (fit_push (store_in w) (kept_of s) f t))))

-- ---- after any calls

pub data AllBytes : List (List ℕ) → Type 0 where
  none_bytes : AllBytes []
  more_bytes : {s : List ℕ} {ss : List (List ℕ)} → Bytes s → AllBytes ss → AllBytes (s ∷ ss)

-- the words after keep_sheet is called with texts one after the other
unfoldable pub keeping : List ℕ → List (List ℕ) → List ℕ
keeping w [] = w
keeping w (s ∷ ss) = keeping (next_words w (added (store_in w) s)) ss

pub keeping_is : (w : List ℕ) (ss : List (List ℕ)) → AllBytes ss → store_in (keeping w ss) ≡ adding (store_in w) ss
unfolding keeping adding
keeping_is w [] a = refl
keeping_is w (s ∷ ss) (more_bytes b a) = keeping_is (next_words w (added (store_in w) s)) ss a ∙ ap (λ st. adding st ss) (next_store w s b)

-- from words of zeros, after any calls, the words are the store that add makes of the same texts: it holds texts whose editions ascend, and each is copied out unchanged
pub from_zeros : (ss : List (List ℕ)) → AllBytes ss → store_in (keeping (replicate 1040 0) ss) ≡ adding empty_store ss
from_zeros ss a = keeping_is (replicate 1040 0) ss a ∙ ap (λ st. adding st ss) zeros_empty

pub always_shelf_words : (ss : List (List ℕ)) → AllBytes ss → Shelf (store_in (keeping (replicate 1040 0) ss)) (shelving [] ss)
always_shelf_words ss a = rw (from_zeros ss a) (always_shelf ss)

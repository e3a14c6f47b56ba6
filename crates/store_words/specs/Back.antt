-- A store that is written into words is read back; and words of zeros are the empty store.
use Rattle.std.specs.Prelude.{ℕ, zero, suc, ◌+◌, ◌*◌, ◌-◌, ◌/◌, ◌%◌, ◌<◌, ◌≡◌, List, [], ◌∷◌, length, replicate}
use Rattle.std.proofs.Math.Path.{refl, ap, ap₂}
use Rattle.std.proofs.Common.{sym, ◌∙◌}
use native.Mathlib.Omega.{arith}
use Rattle.std.proofs.Math.ListN.{get_or}
use Rattle.std.proofs.lemmas.List.{length-replicate}
use borrow.Author.Tests.{ne_eqb, lt-ltb, le-ltb}
use Rattle.words.specs.Lists.{list_at, list_of, zeros}
use Rattle.sheet_store.specs.declared.Kept.{Kept}
use Rattle.sheet_store.specs.declared.Store.{Store}
use Rattle.sheet_store.specs.Store.{store_as, kept_as, blank}
use Rattle.sheet_store.specs.Shelf.{empty_store}
use Rattle.store_words.specs.Words.{byte_of, packed, byte_in, kept_in, store_in, word_of, words_of}
use Rattle.store_words.specs.Laws.{byte_packed}

-- what the types tell of a kept sheet
pub record Typed (t : Kept) : Type 0 where
  pub places : length t.bytes ≡ 1024
  pub small : (j : ℕ) → get_or t.bytes j 0 < 256

module _ (st : Store) where
  word_is : (p : ℕ) → p < 1040 → get_or (words_of st) p 0 ≡ word_of st p
  unfolding words_of
  word_is p h = list_at 1040 (word_of st) p h

  -- the words of sheet i
  word_len : (i : ℕ) → i < 8 → get_or (words_of st) (1 + i) 0 ≡ (get_or st.sheets i blank).len
  unfolding word_of
  word_len i h =
      let e : 1 + i - 1 ≡ i = omega arith in
      word_is (1 + i) (omega arith) ∙ rw (ne_eqb (1 + i) 0 (λ z. omega arith), lt-ltb (1 + i) 9 (omega arith), e) refl

  word_bytes : (i k : ℕ) → i < 8 → k < 128 → get_or (words_of st) (9 + 128 * i + k) 0 ≡ packed (get_or st.sheets i blank).bytes k
  unfolding word_of
  word_bytes i k h g =
      let p = 9 + 128 * i + k in
      let d : (p - 9) / 128 ≡ i = omega arith in
      let m : (p - 9) % 128 ≡ k = omega arith in
      word_is p (omega arith) ∙ rw (ne_eqb p 0 (λ z. omega arith), le-ltb p 9 (omega arith), lt-ltb p 1033 (omega arith), d, m) refl

  kept_back : (i : ℕ) → i < 8 → Typed (get_or st.sheets i blank) → kept_in (words_of st) i ≡ get_or st.sheets i blank
  unfolding kept_in packed
  kept_back i h t =
      let bs = (get_or st.sheets i blank).bytes in
      ap₂ kept_as (word_len i h)
      (list_of 1024 (byte_in (words_of st) i) bs t.places
      (λ j g. let e : 8 * (j / 8) + j % 8 ≡ j = omega arith in
      ap (λ w. byte_of w (j % 8)) (word_bytes i (j / 8) h (omega arith)) ∙ byte_packed bs t.small 7 (j % 8) (8 * (j / 8)) (omega arith) ∙ ap (λ k. get_or bs k 0) e))

  count_back : get_or (words_of st) 0 0 ≡ st.count
  unfolding word_of
  count_back = word_is 0 (omega arith)

-- eight sheets are told by their places
eight : (ks : List Kept) → length ks ≡ 8
    → get_or ks 0 blank ∷ get_or ks 1 blank ∷ get_or ks 2 blank ∷ get_or ks 3 blank ∷ get_or ks 4 blank ∷ get_or ks 5 blank ∷ get_or ks 6 blank ∷ get_or ks 7 blank ∷ [] ≡ ks
eight (a ∷ b ∷ c ∷ d ∷ e ∷ f ∷ g ∷ h ∷ []) n = refl
eight [] n = absurd (omega arith)
eight (a ∷ []) n = absurd (omega arith)
eight (a ∷ b ∷ []) n = absurd (omega arith)
eight (a ∷ b ∷ c ∷ []) n = absurd (omega arith)
eight (a ∷ b ∷ c ∷ d ∷ []) n = absurd (omega arith)
eight (a ∷ b ∷ c ∷ d ∷ e ∷ []) n = absurd (omega arith)
eight (a ∷ b ∷ c ∷ d ∷ e ∷ f ∷ []) n = absurd (omega arith)
eight (a ∷ b ∷ c ∷ d ∷ e ∷ f ∷ g ∷ []) n = absurd (omega arith)
eight (a ∷ b ∷ c ∷ d ∷ e ∷ f ∷ g ∷ h ∷ i ∷ ks) n = absurd (omega arith)

-- a store that is written is read back
pub store_back : (st : Store) → length st.sheets ≡ 8 → ((i : ℕ) → i < 8 → Typed (get_or st.sheets i blank)) → store_in (words_of st) ≡ st
unfolding store_in
store_back st places typed =
    let k : (i : ℕ) → i < 8 → kept_in (words_of st) i ≡ get_or st.sheets i blank = λ i h. kept_back st i h (typed i h) in
    ap₂ store_as (count_back st)
    (rw (k 0 (omega arith), k 1 (omega arith), k 2 (omega arith), k 3 (omega arith), k 4 (omega arith), k 5 (omega arith), k 6 (omega arith), k 7 (omega arith)) (eight st.sheets places))

-- ---- words of zeros

byte_zero : (k : ℕ) → byte_of 0 k ≡ 0
unfolding byte_of
byte_zero zero = refl
byte_zero (suc k) = byte_zero k

-- all zero is the empty store
pub zeros_empty : store_in (replicate 1040 0) ≡ empty_store
unfolding store_in kept_in
zeros_empty =
    let none : (i : ℕ) → kept_in (replicate 1040 0) i ≡ kept_as 0 (replicate 1024 0) = kept_zero in
    ap₂ store_as (zeros 1040 0) (rw (none 0, none 1, none 2, none 3, none 4, none 5, none 6, none 7) refl)
  where
    kept_zero : (i : ℕ) → kept_in (replicate 1040 0) i ≡ kept_as 0 (replicate 1024 0)
    kept_zero i =
        ap₂ kept_as (zeros 1040 (1 + i))
        (list_of 1024 (byte_in (replicate 1040 0) i) (replicate 1024 0) (length-replicate {A = ℕ} 1024 0)
        (λ j h. ap (λ w. byte_of w (j % 8)) (zeros 1040 (9 + 128 * i + j / 8)) ∙ byte_zero (j % 8) ∙ sym (zeros 1024 j)))

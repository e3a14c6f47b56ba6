-- WHAT WAS PUT IN IS READ BACK: `radio_back` (proofs/Promises), for every radio in which nothing stands but the refusal of an event or of a byte; its words can all stand
-- where they do (`words_stand`), and the other words of the box stay (`others_stay`).
use Prim.Native.Nat.{ℕ, zero, suc, ◌+◌, ◌-◌, ◌*◌, ◌/◌, ◌%◌, ◌^◌, ◌≤◌, ◌<◌}
use Rattle.std.specs.Prelude.{◌≡◌, true, cond, ◌&&◌, ◌||◌, ◌⊎◌, List, eqb, ltb, length, Ok, Err}
use Rattle.std.proofs.Math.Path.{refl, ap}
use Rattle.std.proofs.Common.{sym, subst, ◌∙◌, inl, inr, pow-add}
use native.Mathlib.Omega.{arith}
use Rattle.std.proofs.Math.Nat.{div-div-eq-div-mul}
use Rattle.std.proofs.Math.ListN.{get_or}
use borrow.Author.Tests.{lt-ltb, le-ltb}
use Rattle.words.specs.Lists.{list_at}
use Rattle.answers.specs.declared.Kind.TheVariants.{IllegalEvent, LogText, Number}
use Rattle.answers.specs.Results.{Outcome}
use Rattle.answers.specs.Paper.{refused_at}
use Rattle.radio.specs.declared.Form.{Form}
use Rattle.radio.specs.declared.Form.TheVariants.{Unknown, Plain, Numbered}
use Rattle.radio.specs.declared.Radio.{Radio}
use Rattle.radio_words.specs.Words.{can_stand, pack_below, form_code, standing_code, standing_place, radio_word, changed_word, with_radio}

-- what can stand: nothing, an event's refusal, 10 or 16, or a byte's, 12
pub data Stands : Outcome → Type 0 where
  nothing : Stands (Ok tt)
  illegal : (place : ℕ) → Stands (Err (refused_at IllegalEvent place))
  byte : (place : ℕ) → Stands (Err (refused_at LogText place))
  number : (place : ℕ) → Stands (Err (refused_at Number place))

-- what can be put in: forty bytes, as the type tells, and what can stand
pub record Sendable (r : Radio) : Type 0 where
  pub long : length r.part ≡ 40
  pub small : (i : ℕ) → get_or r.part i 0 < 256
  pub stands : Stands r.standing

-- ---- bytes in a number

module _ (f : ℕ → ℕ) (small : (i : ℕ) → f i < 256) where
  -- n bytes give a number below this
  abbrev room : ℕ → ℕ
  room zero = 1
  room (suc n) = 256 * room n

  below : (n : ℕ) → pack_below n f < room n
  unfolding pack_below
  below zero = omega arith
  below (suc n) = omega (arith, below n, small n)

  room_more : (n k : ℕ) → room n ≤ room (n + k)
  room_more n zero = let same : n + 0 ≡ n = omega arith in rw same (omega arith)
  room_more n (suc k) = let same : n + suc k ≡ suc (n + k) = omega arith in rw same (omega (arith, room_more n k))

  -- so of up to seven nothing is cut off
  uncut : (n : ℕ) → n ≤ 7 → pack_below n f < 72057594037927936
  uncut n l =
      let all : n + (7 - n) ≡ 7 = omega arith in
      let most : room n ≤ room 7 = subst (λ (m : ℕ). room n ≤ room m) all (room_more n (7 - n)) in
      omega (arith, below n, most)

  -- byte j from the lowest on
  pub digit : (j n m : ℕ) → m ≡ j + n → m ≤ 7 → pack_below (suc m) f / 2 ^ (8 * j) % 256 ≡ f n
  unfolding pack_below
  digit zero n m e l = let same : m ≡ n = omega arith in rw same (omega (arith, small n))
  digit (suc j) n zero e l = absurd (omega arith)
  digit (suc j) n (suc m) e l =
      let eight : 8 * suc j ≡ 8 + 8 * j = omega arith in
      let x = pack_below (suc m) f in
      let next : (x % 72057594037927936 * 256 + f (suc m)) / 256 ≡ x = omega (arith, uncut (suc m) l, small (suc m)) in
      ap (λ k. (x % 72057594037927936 * 256 + f (suc m)) / 2 ^ k % 256) eight
      ∙ ap (λ k. (x % 72057594037927936 * 256 + f (suc m)) / k % 256) (pow-add 2 8 (8 * j))
      ∙ ap (λ y. y % 256) (sym (div-div-eq-div-mul (x % 72057594037927936 * 256 + f (suc m)) 256 (2 ^ (8 * j))))
      ∙ ap (λ y. y / 2 ^ (8 * j) % 256) next
      ∙ digit j n m (omega arith) (omega arith)

-- ---- the ten words

module _ (w : List ℕ) (r : Radio) where
  now : (p : ℕ) → p < 384 → get_or (with_radio w r) p 0 ≡ changed_word w r p
  unfolding with_radio
  now p l = list_at 384 (changed_word w r) p l

  pub within : (k : ℕ) → k < 10 → get_or (with_radio w r) (363 + k) 0 ≡ radio_word r k
  unfolding changed_word
  within k l =
      let same : 363 + k - 363 ≡ k = omega arith in
      now (363 + k) (omega arith) ∙ rw (le-ltb (363 + k) 363 (omega arith), lt-ltb (363 + k) 373 (omega arith), same) refl

  pub others_stay : (p : ℕ) → (p < 363) ⊎ ((373 ≤ p) × (p < 384)) → get_or (with_radio w r) p 0 ≡ get_or w p 0
  unfolding changed_word
  others_stay p (inl l) = now p (omega arith) ∙ rw (lt-ltb p 363 l) refl
  others_stay p (inr (a, b)) = now p b ∙ rw (le-ltb p 363 (omega arith), le-ltb p 373 a) refl

  module _ (s : Sendable r) where
    pub form_word : get_or (with_radio w r) 370 0 ≡ form_code r.form
    unfolding radio_word
    form_word = within 7 (omega arith)

    pub number_word : get_or (with_radio w r) 371 0 ≡ standing_code r.standing
    unfolding radio_word
    number_word = within 8 (omega arith)

    pub place_word : get_or (with_radio w r) 372 0 ≡ standing_place r.standing
    unfolding radio_word
    place_word = within 9 (omega arith)

    few_forms : (f : Form) → ltb (form_code f) 3 ≡ true
    few_forms Unknown = refl
    few_forms Plain = refl
    few_forms Numbered = refl

    can_be_lem : (f : Form) (o : Outcome) → Stands o
        → cond (eqb (standing_code o) 0) (ltb (form_code f) 3 && eqb (standing_place o) 0) (ltb (form_code f) 3 && (eqb (standing_code o) 10 || (eqb (standing_code o) 12 || eqb (standing_code o) 16))) ≡ true
    can_be_lem f _ nothing = rw (few_forms f) refl
    can_be_lem f _ (illegal place) = rw (few_forms f) refl
    can_be_lem f _ (byte place) = rw (few_forms f) refl
    can_be_lem f _ (number place) = rw (few_forms f) refl

    pub words_stand : can_stand (with_radio w r) ≡ true
    unfolding can_stand
    words_stand = rw (form_word, number_word, place_word) (can_be_lem r.form r.standing s.stands)

-- More of specs/Promises: what was put in is read back, word by word, and so the whole radio (`radio_back`).
use Prim.Native.Nat.{ℕ, ◌+◌, ◌-◌, ◌*◌, ◌/◌, ◌%◌, ◌^◌, ◌<◌}
use Rattle.std.specs.Prelude.{◌≡◌, List}
use Rattle.std.proofs.Math.Path.{refl, ap}
use Rattle.std.proofs.Common.{◌∙◌}
use native.Mathlib.Omega.{arith}
use Rattle.std.proofs.Math.ListN.{get_or}
use borrow.Author.Tests.{lt-ltb}
use Rattle.words.specs.Lists.{list_of}
use Rattle.answers.specs.Results.{Outcome}
use Rattle.radio.specs.declared.Form.{Form}
use Rattle.radio.specs.declared.Form.TheVariants.{Unknown, Plain, Numbered}
use Rattle.radio.specs.declared.Radio.{Radio}
use Rattle.radio_words.specs.Words.{byte_in, part_in, form_in, standing_in, radio_in, packed_at, form_code, standing_code, standing_place, radio_word, with_radio}
use Rattle.radio_words.specs.Promises.{Sendable, Stands, byte, digit, illegal, nothing, number}
use Rattle.radio_words.specs.Promises as of_promises

-- ---- the ten words

module _ (w : List ℕ) (r : Radio) where
  abbrev within : (k : ℕ) → k < 10 → get_or (with_radio w r) (363 + k) 0 ≡ radio_word r k
  within = of_promises.within w r

  module _ (s : Sendable r) where
    byte_back : (k : ℕ) → k < 40 → byte_in (with_radio w r) k ≡ get_or r.part k 0
    unfolding byte_in radio_word packed_at
    byte_back k l =
        let same : 8 * (k / 8) + (7 - (7 - k % 8)) ≡ k = omega arith in
        ap (λ x. x / 2 ^ (8 * (k % 8)) % 256) (within (k / 8) (omega arith) ∙ rw (lt-ltb (k / 8) 5 (omega arith)) refl)
        ∙ digit (λ i. get_or r.part (8 * (k / 8) + (7 - i)) 0) (λ i. s.small (8 * (k / 8) + (7 - i))) (k % 8) (7 - k % 8) 7 (omega arith) (omega arith)
        ∙ ap (λ i. get_or r.part i 0) same

    part_back : part_in (with_radio w r) ≡ r.part
    unfolding part_in
    part_back = list_of 40 (byte_in (with_radio w r)) r.part s.long byte_back

    len_back : get_or (with_radio w r) 368 0 ≡ r.len
    unfolding radio_word
    len_back = within 5 (omega arith)

    start_back : get_or (with_radio w r) 369 0 ≡ r.start
    unfolding radio_word
    start_back = within 6 (omega arith)

    abbrev form_word : get_or (with_radio w r) 370 0 ≡ form_code r.form
    form_word = of_promises.form_word w r s

    abbrev number_word : get_or (with_radio w r) 371 0 ≡ standing_code r.standing
    number_word = of_promises.number_word w r s

    abbrev place_word : get_or (with_radio w r) 372 0 ≡ standing_place r.standing
    place_word = of_promises.place_word w r s

    form_back : (f : Form) → form_in (form_code f) ≡ f
    unfolding form_in
    form_back Unknown = refl
    form_back Plain = refl
    form_back Numbered = refl

    standing_back : (o : Outcome) → Stands o → standing_in (standing_code o) (standing_place o) ≡ o
    unfolding standing_in
    standing_back _ nothing = refl
    standing_back _ (illegal place) = refl
    standing_back _ (byte place) = refl
    standing_back _ (number place) = refl

    pub radio_back : radio_in (with_radio w r) r.monitor ≡ r
    unfolding radio_in
    radio_back =
        rw (part_back, len_back, start_back, form_word, number_word, place_word, form_back r.form, standing_back r.standing s.stands) refl

-- WHAT A BOX HOLDS IS IN ITS FIRST 363 WORDS (`front_held`), and the ten words behind them are zeros when it is opened: the radio that has heard nothing (`opened_silent`).
use Rattle.std.specs.Prelude.{ℕ, ◌+◌, ◌/◌, ◌%◌, ◌*◌, ◌^◌, ◌≤◌, ◌<◌, ◌≡◌, true, List, replicate}
use Rattle.std.proofs.Common.{arith, div-le_self, ◌∙◌}
use Rattle.std.proofs.Math.Decide.{dec_lt}
use Rattle.std.proofs.Math.Path.{refl, sym, ap}
use borrow.Author.Tests.{le-ltb, ne_eqb}
use Rattle.std.proofs.Math.ListN.{get_or}
use Rattle.std.proofs.lemmas.List.{length-replicate}
use Rattle.words.specs.Below.{list_below}
use Rattle.words.specs.Folds.{all_same}
use Rattle.words.specs.Lists.{length_list, at_list, of_list, list_at, list_of, zeros}
use Rattle.syntax.specs.Value.{blank}
use Rattle.sides.specs.declared.Monitor.{Monitor}
use Rattle.slate.specs.declared.Held.{Held}
use Rattle.slate.specs.Box.{can_be, fits_in, op_of, labels_in, words_in, node_in, nodes_in, props_in, table_in, rule_in, monitor_in, held_in, held_word, stored_of}
use Rattle.radio_words.specs.Words.{byte_in, part_in, form_in, standing_in, radio_in, can_stand}
use Rattle.scraps_right.specs.Claims.{fresh}

-- ---- two boxes with the same first words

list_same : {A : Type 0} (d : A) (n : ℕ) (f g : ℕ → A) → ((k : ℕ) → k < n → f k ≡ g k) → list_below n f ≡ list_below n g
list_same d n f g e = of_list d n f (list_below n g) (length_list n g) (λ k l. e k l ∙ sym (at_list d n g k l))

-- behind them any word can stand
can_behind : (p x : ℕ) → 363 ≤ p → can_be p x ≡ true
unfolding can_be
can_behind p x l = rw (le-ltb p 8 (omega arith), le-ltb p 72 (omega arith), le-ltb p 137 (omega arith), le-ltb p 169 (omega arith), ne_eqb p 233 (λ e. omega arith)) refl

module _ (v w : List ℕ) (same : (p : ℕ) → p < 363 → get_or v p 0 ≡ get_or w p 0) where
  same_fits : fits_in v ≡ fits_in w
  unfolding fits_in
  same_fits = all_same 384 (λ p. can_be p (get_or v p 0)) (λ p. can_be p (get_or w p 0)) at
    where
      at : (p : ℕ) → p < 384 → can_be p (get_or v p 0) ≡ can_be p (get_or w p 0)
      at p l = elim (dec_lt p 363) [
        | yes a ↦ ap (can_be p) (same p a)
        | no a ↦ can_behind p (get_or v p 0) (omega arith) ∙ sym (can_behind p (get_or w p 0) (omega arith))
      ]

  same_words_lem : (from : ℕ) → from ≤ 299 → words_in v from ≡ words_in w from
  unfolding words_in
  same_words_lem from low = list_same 0 64 (λ i. get_or v (from + i) 0) (λ i. get_or w (from + i) 0) (λ i l. same (from + i) (omega arith))

  same_table : table_in v ≡ table_in w
  unfolding table_in props_in labels_in
  same_table =
      let fair = list_same 0 4 (λ i. get_or v (4 + i) 0) (λ i. get_or w (4 + i) 0) (λ i l. same (4 + i) (omega arith)) in
      let label = list_same 0 64 (λ i. get_or v (8 + i) 0 % 65536) (λ i. get_or w (8 + i) 0 % 65536) (λ i l. ap (λ x. x % 65536) (same (8 + i) (omega arith))) in
      rw (same_fits, same 0 (omega arith), same 1 (omega arith), same 2 (omega arith), same 3 (omega arith), fair, label, same_words_lem 72 (omega arith)) refl

  same_rule : rule_in v ≡ rule_in w
  unfolding rule_in nodes_in
  same_rule =
      let nodes = list_same blank 32 (node_in v) (node_in w) (λ i l. ap (λ (x : ℕ). record { op = op_of x }) (same (137 + i) (omega arith))) in
      rw (same 136 (omega arith), nodes) refl

  same_monitor : monitor_in v ≡ monitor_in w
  unfolding monitor_in
  same_monitor = rw (same 233 (omega arith), same 234 (omega arith), same_words_lem 235 (omega arith), same_words_lem 299 (omega arith)) refl

  pub front_held : held_in v ≡ held_in w
  unfolding held_in
  front_held = rw (same_table, same_rule, same_words_lem 169 (omega arith), same_monitor) refl

-- ---- a box that is opened

zero_over : (n : ℕ) → 0 / n % 256 ≡ 0
zero_over n = omega (arith, div-le_self 0 n)

module _ (h : Held) where
  zero_word : (p : ℕ) → 363 ≤ p → p < 384 → get_or (stored_of h) p 0 ≡ 0
  unfolding stored_of held_word
  zero_word p a b = list_at 384 (held_word h) p b ∙ rw (le-ltb p 136 (omega arith), le-ltb p 169 (omega arith), le-ltb p 233 (omega arith), le-ltb p 363 a) refl

  no_part : part_in (stored_of h) ≡ replicate 40 0
  unfolding part_in byte_in
  no_part = list_of 40 (byte_in (stored_of h)) (replicate 40 0) (length-replicate {A = ℕ} 40 0)
      (λ k l. ap (λ x. x / 2 ^ (8 * (k % 8)) % 256) (zero_word (363 + k / 8) (omega arith) (omega arith)) ∙ zero_over (2 ^ (8 * (k % 8))) ∙ sym (zeros 40 k))

  pub opened_silent : (m : Monitor) → radio_in (stored_of h) m ≡ fresh m
  unfolding radio_in form_in standing_in
  opened_silent m =
      rw (no_part, zero_word 368 (omega arith) (omega arith), zero_word 369 (omega arith) (omega arith), zero_word 370 (omega arith) (omega arith), zero_word 371 (omega arith) (omega arith)) refl

  pub opened_stands : can_stand (stored_of h) ≡ true
  unfolding can_stand
  opened_stands = rw (zero_word 370 (omega arith) (omega arith), zero_word 371 (omega arith) (omega arith), zero_word 372 (omega arith) (omega arith)) refl

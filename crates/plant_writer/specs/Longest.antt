-- The longest table text: every table that can be written fits the program's plant.txt.
use Prim.Native.Nat.{ℕ, zero, suc, ◌+◌, ◌*◌, ◌≤◌, ◌<◌}
use Rattle.std.specs.Prelude.{◌≡◌, refl, Bool, true, false, cond, List, [], ◌∷◌, ◌++◌, ltb, length, get_or, replicate}
use Rattle.std.proofs.Common.{ap, lt-ltb, length-append}
use native.Mathlib.Omega.{arith}
use Rattle.std.proofs.Math.Decide.{dec_lt}
use Rattle.std.proofs.lemmas.List.{length-map}
use Rattle.meaning.specs.Run.{Plant}
use Rattle.text.specs.Slot.{exactly, word, written}
use Rattle.text.specs.Number.{width_of, width_between, hex_slots, lead_of, next_of, last_of, count_slots}
use Rattle.text.specs.Form.{led, ended, both, seen}
use Rattle.text.specs.Hex.{hex, hex_length}
use Rattle.text.specs.Count.{counted}
use Rattle.text.specs.Many.{offset, slots_below, listed, below_length}
use Rattle.plant.specs.Text.{lf, key_slots, props_key, states_key, start_key, just_key, fair_name, label_name, next_name, field, field_length, field_fixed, row, row_length, row_fixed}
use Rattle.plant.specs.Written.{WellFormed, lines_below, table_slots, table_text, slots_are, well_formed}

-- a decimal number below 100 and its end have at most three bytes, and two below 10
count_short : (end n : ℕ) → length (count_slots end n) ≤ 3
unfolding count_slots last_of
count_short end n = by_test (ltb n 10)
  where
    by_test : (b : Bool) → suc (suc (length (cond b [] (exactly end ∷ [])))) ≤ 3
    by_test true = omega arith
    by_test false = omega arith

count_shorter : (end n : ℕ) → n < 10 → length (count_slots end n) ≡ 2
unfolding count_slots last_of
count_shorter end n h = rw (lt-ltb n 10 h)

key_long : (name : List ℕ) (k : ℕ) → length (key_slots name k) ≡ length (word name) + length (count_slots 61 k)
key_long name k = length-append (word name) (count_slots 61 k)

-- the lines of n fairness sets
fairs_fit : (n : ℕ) → n ≤ 10 → offset (field_length fair_name 16) n ≤ 20 * n
unfolding offset
fairs_fit zero h = omega arith
fairs_fit (suc n) h = omega (arith, fairs_fit n (omega arith), key_long fair_name n, count_shorter 61 n h)

-- the lines of n states: those of the first ten are shorter by two bytes
module _ (w : ℕ) (few : w ≤ 4) where
  first_rows : (n : ℕ) → n ≤ 10 → offset (row_length w) n ≤ 35 * n
  unfolding offset
  first_rows zero h = omega arith
  first_rows (suc n) h = omega (arith, first_rows n (omega arith), key_long label_name n, key_long next_name n, count_shorter 61 n h)

  rows_fit : (n : ℕ) → 10 ≤ n → offset (row_length w) n + 20 ≤ 37 * n
  unfolding offset
  rows_fit zero h = absurd (omega arith)
  rows_fit (suc n) h = elim (dec_lt n 10) [
    | yes l ↦ omega (arith, first_rows n (omega arith), key_long label_name n, key_long next_name n, count_shorter 61 n l)
    | no l ↦ omega (arith, rows_fit n (omega arith), key_long label_name n, key_long next_name n, count_short 61 n)
  ]

  all_rows : (n : ℕ) → n ≤ 64 → offset (row_length w) n ≤ 2348
  all_rows n h = elim (dec_lt n 10) [ yes l ↦ omega (arith, first_rows n (omega arith)) | no l ↦ omega (arith, rows_fit n (omega arith)) ]

-- at most 2,477 bytes
pub at_most_2477 : (t : Plant) → WellFormed t → length (table_text t) ≤ 2477
unfolding seen both led ended hex counted listed
at_most_2477 t w =
    let width = width_of t.props in
    let n = length t.fair in
    let ok = well_formed t w in
    let props = word props_key ++ count_slots 10 t.props in
    let states = word states_key ++ count_slots 10 t.states in
    let start = word start_key ++ (hex_slots 16 t.start ++ lf) in
    let just = word just_key ++ count_slots 10 n in
    let fairs = slots_below (field fair_name 16) n (λ k. get_or t.fair k 0) in
    let rows = slots_below (row width) t.states (λ k. (get_or t.label k 0, get_or t.next k 0)) in
    let few = w.few_fair in
    omega (
      arith,
      length-map (table_slots t) written,
      ap length (slots_are t),
      length-append props (states ++ (start ++ (just ++ (fairs ++ rows)))),
      length-append states (start ++ (just ++ (fairs ++ rows))),
      length-append start (just ++ (fairs ++ rows)),
      length-append just (fairs ++ rows),
      length-append fairs rows,
      length-append (word props_key) (count_slots 10 t.props),
      length-append (word states_key) (count_slots 10 t.states),
      length-append (word start_key) (hex_slots 16 t.start ++ lf),
      length-append (hex_slots 16 t.start) lf,
      length-append (word just_key) (count_slots 10 n),
      count_short 10 t.props,
      count_short 10 t.states,
      hex_length 16 t.start,
      count_shorter 10 n (omega arith),
      below_length (field fair_name 16) (field_length fair_name 16) (field_fixed fair_name 16) n (λ k. get_or t.fair k 0) ok.1.1.1.1.0.1,
      below_length (row width) (row_length width) (row_fixed width) t.states (λ k. (get_or t.label k 0, get_or t.next k 0)) ok.1.1.1.1.1.1,
      fairs_fit n (omega arith),
      all_rows width (width_between t.props).1 t.states w.states.1,
    )

-- a table of the largest counts, all its sets empty
abbrev pub largest : Plant
largest = record { props = 16; states = 64; start = 0; fair = replicate 4 0; label = replicate 64 0; next = replicate 64 0 }

-- and some table has as many
pub some_2477 : length (table_text largest) ≡ 2477
unfolding hex_slots lead_of next_of last_of count_slots lines_below width_of
some_2477 = refl

-- The table turned round: for each state those that lead to it; and the moves by it, which are the moves turned round.
use Rattle.std.specs.Prelude.{ℕ, ◌+◌, ◌%◌, ◌^◌, ◌<◌, ◌≡◌, refl, ◌↔◌, Bool, true, false, ◌&&◌, cond, List, length, get_or, set, replicate}
use Rattle.std.proofs.Common.{arith, lt_of_le_of_lt, sym, ap, ◌∙◌, length-set, get_or-set_same, get_or-set_other, eq-eqb, ne_eqb}
use Rattle.std.proofs.Math.Decide.{ℕ_discrete}
use Rattle.std.proofs.Math.Bool.{So}
use Rattle.std.specs.Int.Bits.{bit_or, or_zero_r}
use Rattle.std.proofs.lemmas.Nat.{and_le_l}
use Rattle.std.proofs.lemmas.List.{get_or-replicate, length-replicate}
use Rattle.meaning.specs.Bit.{bit}
use Rattle.words.specs.Below.{word_of}
use Rattle.words.specs.Laws.{bit_zero}
use Rattle.words.specs.Lowest.{lowest_of, others_of, lowest_lt, bit_lowest, bit_others}
use Rattle.words.specs.Truth.{and_says}
use Rattle.words.specs.Unions.{word_none, word_more, word_at_lem}
use Rattle.graphs.specs.Sets.{Nodes}
use Rattle.graphs.specs.Walk.{Edges, Walk, done, on, walk_on, Reach, stay}
use Rattle.nearest.specs.Graph.{move_of_lem, of_move, moves_of}
use Rattle.leads.specs.Halves.{from_in, to_in}

-- state s is in the word of t where t is in that of s
pub record Before (next before : List ℕ) : Type 0 where
  pub each : (s t : ℕ) → s < 64 → t < 64 → bit (get_or before t 0) s ≡ bit (get_or next s 0) t

-- ---- how it is made, state by state

abbrev leads : List ℕ → ℕ → ℕ → Bool
leads next t s = bit (get_or next s 0) t

-- the states below n are entered
pub record Entered (next : List ℕ) (n : ℕ) (words : List ℕ) : Type 0 where
  pub long : length words ≡ 64
  pub each : (t : ℕ) → t < 64 → get_or words t 0 ≡ word_of n (leads next t)

-- and state s is, but for the words of the rest
pub record Entering (next : List ℕ) (s rest : ℕ) (words : List ℕ) : Type 0 where
  pub fits : rest < 2 ^ 64
  pub part : (t : ℕ) → So (bit rest t) → So (leads next t s)
  pub long : length words ≡ 64
  pub each : (t : ℕ) → t < 64 → get_or words t 0 ≡ cond (bit rest t) (word_of s (leads next t)) (word_of (s + 1) (leads next t))

module _ {next : List ℕ} where
  pub entered_start : Entered next 0 (replicate 64 0)
  entered_start = record { long = length-replicate {A = ℕ} 64 0; each = λ t l. get_or-replicate {A = ℕ} 64 t 0 0 l ∙ word_none (leads next t) }

  pub entering_start : (s word : ℕ) {words : List ℕ} → word ≡ get_or next s 0 → word < 2 ^ 64 → Entered next s words → Entering next s word words
  entering_start s word is fits e = record {
    fits = fits;
    part = λ t i. rw is at i;
    long = e.long;
    each = λ t l. e.each t l ∙ rw is (same (bit (get_or next s 0) t) t refl);
  }
    where
      same : (b : Bool) (t : ℕ) → bit (get_or next s 0) t ≡ b → word_of s (leads next t) ≡ cond b (word_of s (leads next t)) (word_of (s + 1) (leads next t))
      same true t p = refl
      same false t p = rw (word_more, p) (sym (or_zero_r (word_of s (leads next t))))

  pub entering_turn : (s rest : ℕ) {words : List ℕ} → 0 < rest → Entering next s rest words
      → Entering next s (others_of rest) (set words (lowest_of rest) (bit_or (get_or words (lowest_of rest) 0) (2 ^ s)))
  entering_turn s rest {words} some e = record {
    fits = lt_of_le_of_lt (and_le_l rest _) e.fits;
    part = λ t i. e.part t ((and_says (bit rest t) _).0 (rw (bit_others rest some e.fits t) at i)).0;
    long = length-set words (lowest_of rest) _ ∙ e.long;
    each = λ t l. elim (ℕ_discrete t (lowest_of rest)) [
      | yes p ↦ rw p (here)
      | no d ↦ get_or-set_other words (lowest_of rest) t _ 0 d ∙ e.each t l ∙ rw (bit_others rest some e.fits t, ne_eqb t (lowest_of rest) d) (ap (λ (b : Bool). cond b (word_of s (leads next t)) (word_of (s + 1) (leads next t))) (keep (bit rest t)))
    ];
  }
    where
      low : lowest_of rest < 64
      low = lowest_lt rest some e.fits

      keep : (b : Bool) → b ≡ (b && true)
      keep true = refl
      keep false = refl

      none : (b : Bool) → (b && false) ≡ false
      none true = refl
      none false = refl

      here : get_or (set words (lowest_of rest) (bit_or (get_or words (lowest_of rest) 0) (2 ^ s))) (lowest_of rest) 0
          ≡ cond (bit (others_of rest) (lowest_of rest)) (word_of s (leads next (lowest_of rest))) (word_of (s + 1) (leads next (lowest_of rest)))
      here =
          let i = bit_lowest rest some e.fits in
          let old : get_or words (lowest_of rest) 0 ≡ word_of s (leads next (lowest_of rest)) = e.each (lowest_of rest) low ∙ rw i in
          let gone : bit (others_of rest) (lowest_of rest) ≡ false = bit_others rest some e.fits (lowest_of rest) ∙ rw (eq-eqb (lowest_of rest) (lowest_of rest) refl) (none (bit rest (lowest_of rest))) in
          get_or-set_same words (lowest_of rest) _ 0 (omega (arith, low, e.long)) ∙ rw (old, gone, word_more, e.part (lowest_of rest) i)

  pub entering_end : (s rest : ℕ) {words : List ℕ} → rest ≡ 0 → Entering next s rest words → Entered next (s + 1) words
  entering_end s rest none e = record { long = e.long; each = λ t l. e.each t l ∙ rw (none, bit_zero t) }

  pub entered_end : {words : List ℕ} → Entered next 64 words → Before next words
  entered_end e = record { each = λ s t ls lt. ap (λ (x : ℕ). bit x s) (e.each t lt) ∙ word_at_lem 64 (leads next t) s ls }

-- ---- the moves by it

module _ {next before : List ℕ} (b : Before next before) (leave enter : List ℕ) (count : ℕ) where
  -- a move by the table turned round is a move the other way
  pub turned_move : (x y : ℕ) → So (moves_of before enter leave count y x) ↔ So (moves_of next leave enter count x y)
  turned_move x y = (
    λ e. let m = move_of_lem before (from_in enter) (to_in leave) count y x e in
        of_move next (from_in leave) (to_in enter) count x y (record {
          from_low = m.to_low;
          to_low = m.from_low;
          leaves = m.enters;
          allowed = rw (← b.each (x % 64) (y % 64) (omega arith) (omega arith)) m.allowed;
          enters = m.leaves;
        }),
    λ e. let m = move_of_lem next (from_in leave) (to_in enter) count x y e in
        of_move before (from_in enter) (to_in leave) count y x (record {
          from_low = m.to_low;
          to_low = m.from_low;
          leaves = m.enters;
          allowed = rw (b.each (x % 64) (y % 64) (omega arith) (omega arith)) m.allowed;
          enters = m.leaves;
        }),
  )

-- ways turned round
pub turned_reach : {edge edge' : Edges} {Z : Nodes} → ((x y : ℕ) → So (edge x y) → So (edge' y x)) → {a c : ℕ} → Reach edge Z a c → Reach edge' Z c a
turned_reach {edge} {edge'} {Z} turn r = go r.1
  where
    go : {a c : ℕ} {xs : List ℕ} → Walk edge Z a xs c → Reach edge' Z c a
    go (done i) = stay i
    go (on {a} {b} i e w) = let r = go w in (_, walk_on r.1 (turn a b e) i)

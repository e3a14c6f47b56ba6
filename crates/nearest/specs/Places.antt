-- Loops over the valuations at which a set has pairs: those that join are worked out there, and dropped from the others.
use Rattle.std.specs.Prelude.{ℕ, ◌^◌, ◌≤◌, ◌<◌, ◌≡◌, refl, Bool, true, false, ◌&&◌, cond, List, eqb, ltb, length, set, replicate}
use Rattle.std.proofs.Common.{arith, ap, ◌∙◌, length-set, pow_pos, get_or-set_same, get_or-set_other, lt-ltb, le-ltb, ltb-true, eq-eqb, ne_eqb, eqb-true}
use Rattle.std.proofs.Math.Decide.{dec_lt, ℕ_discrete}
use Rattle.std.proofs.Math.Path.{sym}
use Rattle.std.proofs.Math.Bool.{So, not, and-true, and-false, or-false}
use Rattle.std.specs.Int.Bits.{bit_or}
use Rattle.std.proofs.Math.ListN.{get_or}
use Rattle.std.proofs.lemmas.List.{length-replicate}
use Rattle.std.proofs.lemmas.Bool.{not-false}
use Rattle.meaning.specs.Bit.{bit}
use Rattle.words.specs.Word.{without_of, only_of}
use Rattle.words.specs.Below.{words_below}
use Rattle.words.specs.Laws.{bit_or_lem, bit_zero, bit_only, bit_single, bit_left, same_bits}
use Rattle.words.specs.Lowest.{lowest_of, others_of, lowest_lt, bit_lowest, bit_others}
use Rattle.words.specs.Lists.{zeros, words_at, words_ext, length_words}
use Rattle.words.specs.Unions.{bit_word_of, word_at_lem, word_of_lt}
use Rattle.words.specs.Within.{members_below}
use Rattle.pairs.specs.Sets.{Words}
use Rattle.sweeps.specs.Sweeps.{without_set, movers_of}
use Rattle.sweeps.specs.Laws.{movers_words}
use Rattle.nearest.specs.Joining.{held_of}

-- below n the set has pairs at the members of the word only
pub record OnlyAt (n word : ℕ) (set : List ℕ) : Type 0 where
  pub none : (v : ℕ) → v < n → bit word v ≡ false → get_or set v 0 ≡ 0

pub held_low : (n : ℕ) (set : List ℕ) → held_of n set < 2 ^ n
unfolding held_of
held_low n set = word_of_lt n _

pub held_only : (n : ℕ) (set : List ℕ) → OnlyAt n (held_of n set) set
unfolding held_of
held_only n set = record { none = λ v l e. eqb-true (get_or set v 0) 0 (not-false (eqb (get_or set v 0) 0) (sym (word_at_lem n _ v l) ∙ e)) }

-- fewer pairs are at no more valuations
pub only_less : {n word : ℕ} {p : List ℕ} (q : List ℕ) → n ≤ 64 → OnlyAt n word p → OnlyAt n word (without_set p q)
unfolding without_set
only_less {n} {word} {p} q few h = record { none = λ v l e. words_at 64 _ v (omega arith) ∙ rw (lt-ltb v 64 (omega arith), h.none v l e) }

-- those that join are below count, so at those held only
pub movers_only : (next leave enter : List ℕ) (count : ℕ) (front others : List ℕ) {more : List ℕ} → more ≡ movers_of next leave enter count front others
    → OnlyAt 64 (held_of count more) more
movers_only next leave enter count front others {more} adds = record {
  none = λ v l e. elim (dec_lt v count) [
    | yes k ↦ (held_only count more).none v k e
    | no g ↦ rw (adds, ← movers_words next leave enter count front others) (words_at count _ v l ∙ rw (le-ltb v count (omega arith)))
  ];
}

-- ---- words f 0, f 1, .. f (n - 1), worked out where they may be more than 0

module _ (n : ℕ) (f : ℕ → ℕ) where
  -- all are there but those of the rest; `some` has those that are more than 0
  pub record Filling (rest some : ℕ) (words : List ℕ) : Type 0 where
    pub long : length words ≡ 64
    pub each : (v : ℕ) → get_or words v 0 ≡ only_of (ltb v n && not (bit rest v)) (f v)
    pub held : (v : ℕ) → bit some v ≡ not (eqb (get_or words v 0) 0)

  pub filling_start : (places : ℕ) → ((v : ℕ) → v < n → bit places v ≡ false → f v ≡ 0) → Filling places 0 (replicate 64 0)
  filling_start places h = record {
    long = length-replicate {A = ℕ} 64 0;
    each = λ v. zeros 64 v ∙ sym (none (ltb v n) (bit places v) (f v) (λ p e. h v (ltb-true v n p) e));
    held = λ v. bit_zero v ∙ rw (zeros 64 v);
  }
    where
      none : (a b : Bool) (x : ℕ) → (So a → b ≡ false → x ≡ 0) → only_of (a && not b) x ≡ 0
      none true true x e = refl
      none true false x e = e refl refl
      none false b x e = refl

  -- the lowest of the rest is worked out
  pub filling_turn : (rest held x : ℕ) (words : List ℕ) → n ≤ 64 → 0 < rest → rest < 2 ^ 64 → rest < 2 ^ n → x ≡ f (lowest_of rest) → Filling rest held words
      → Filling (others_of rest) (bit_or held (only_of (not (eqb x 0)) (2 ^ lowest_of rest))) (set words (lowest_of rest) x)
  filling_turn rest held x words few some fits short is k = record {
    long = length-set words l x ∙ k.long;
    each = λ v. elim (ℕ_discrete v l) [
      | yes e ↦ rw (e, bit_others rest some fits l, eq-eqb l l refl, and-false, lt-ltb l n low) (same ∙ is)
      | no d ↦ get_or-set_other words l v x 0 d ∙ k.each v ∙ rw (bit_others rest some fits v, ne_eqb v l d, and-true)
    ];
    held = λ v. elim (ℕ_discrete v l) [
      | yes e ↦ rw (e, bit_or_lem, bit_only, bit_single, eq-eqb l l refl, and-true, before, same)
      | no d ↦ rw (bit_or_lem, bit_only, bit_single, ne_eqb v l d, and-false, or-false, get_or-set_other words l v x 0 d) (k.held v)
    ];
  }
    where
      l : ℕ
      l = lowest_of rest

      low : l < n
      low = (members_below n rest).0 short l (bit_lowest rest some fits)

      same : get_or (set words l x) l 0 ≡ x
      same = get_or-set_same words l x 0 (omega (arith, k.long, low))

      before : bit held l ≡ false
      before = k.held l ∙ rw (k.each l, bit_lowest rest some fits, and-false)

  pub filling_end : (rest some : ℕ) (words : List ℕ) → rest ≡ 0 → Filling rest some words → (words ≡ words_below n f) × (some ≡ held_of n words)
  unfolding held_of
  filling_end rest some words done k = (
    words_ext words (words_below n f) k.long (length_words n f) (λ v l. at v ∙ sym (words_at n f v l)),
    same_bits some (held_of n words) (λ v. k.held v ∙ sym (bit_word_of n (λ v. not (eqb (get_or words v 0) 0)) v ∙ rw (at v) (below (ltb v n) (f v)))),
  )
    where
      at : (v : ℕ) → get_or words v 0 ≡ only_of (ltb v n) (f v)
      at v = k.each v ∙ rw (done, bit_zero, and-true)

      below : (b : Bool) (x : ℕ) → (b && not (eqb (only_of b x) 0)) ≡ not (eqb (only_of b x) 0)
      below true x = refl
      below false x = refl

-- ---- those that join are dropped

-- they are dropped but for those of the rest
pub record Dropping (old joining : List ℕ) (rest : ℕ) (now : List ℕ) : Type 0 where
  pub long : length now ≡ 64
  pub each : (v : ℕ) → v < 64 → get_or now v 0 ≡ cond (bit rest v) (get_or old v 0) (without_of (get_or old v 0) (get_or joining v 0))

module _ (old joining : List ℕ) where
  pub dropping_start : (held : ℕ) → Words old → OnlyAt 64 held joining → Dropping old joining held old
  dropping_start held words h = record { long = words.long; each = λ v l. by_test v l (bit held v) refl }
    where
      by_test : (v : ℕ) → v < 64 → (b : Bool) → bit held v ≡ b → get_or old v 0 ≡ cond b (get_or old v 0) (without_of (get_or old v 0) (get_or joining v 0))
      by_test v l true e = refl
      by_test v l false e = rw (h.none v l e) (same_bits _ _ λ k. sym (bit_left (get_or old v 0) 0 (words.fits v l) (pow_pos 64) k ∙ rw (bit_zero, and-true)))

  -- the lowest of the rest
  pub dropping_turn : (rest : ℕ) (now : List ℕ) → 0 < rest → rest < 2 ^ 64 → Dropping old joining rest now
      → Dropping old joining (others_of rest) (set now (lowest_of rest) (without_of (get_or now (lowest_of rest) 0) (get_or joining (lowest_of rest) 0)))
  dropping_turn rest now some fits k = record {
    long = length-set now l left ∙ k.long;
    each = λ v h. elim (ℕ_discrete v l) [
      | yes e ↦ rw (e, bit_others rest some fits l, eq-eqb l l refl, and-false) (get_or-set_same now l left 0 (omega (arith, k.long, low)) ∙ ap (λ (x : ℕ). without_of x (get_or joining l 0)) before)
      | no d ↦ get_or-set_other now l v left 0 d ∙ k.each v h ∙ rw (bit_others rest some fits v, ne_eqb v l d, and-true)
    ];
  }
    where
      l : ℕ
      l = lowest_of rest

      left : ℕ
      left = without_of (get_or now l 0) (get_or joining l 0)

      low : l < 64
      low = lowest_lt rest some fits

      before : get_or now l 0 ≡ get_or old l 0
      before = k.each l low ∙ rw (bit_lowest rest some fits)

  pub dropping_end : (rest : ℕ) (now : List ℕ) → rest ≡ 0 → Dropping old joining rest now → now ≡ without_set old joining
  unfolding without_set
  dropping_end rest now done k =
      words_ext now _ k.long (length_words 64 _) (λ v l. k.each v l ∙ rw (done, bit_zero) (sym (words_at 64 _ v l ∙ rw (lt-ltb v 64 l))))

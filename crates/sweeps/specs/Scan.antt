-- The scan for moves, word by word: from the states still without a move those are dropped that have one into the word at hand.
use Rattle.std.specs.Prelude.{ℕ, ◌+◌, ◌-◌, ◌^◌, ◌≤◌, ◌<◌, ◌≡◌, refl, Bool, true, false, ◌&&◌, ◌||◌, not, List, eqb, get_or}
use Rattle.std.proofs.Common.{arith, lt_of_le_of_lt, sym, ap, ◌∙◌, eqb-true, ne_eqb}
use Rattle.std.proofs.Math.Bool.{So}
use Rattle.std.proofs.lemmas.Bool.{false≢true, not-false}
use Rattle.std.specs.Int.Bits.{bit_and}
use Rattle.std.proofs.lemmas.Nat.{and_le_l}
use Rattle.std.proofs.Math.Pow.{pow-lt}
use Rattle.meaning.specs.Bit.{bit}
use Rattle.words.specs.Word.{without_of, only_of}
use Rattle.words.specs.Below.{union_below}
use Rattle.words.specs.Laws.{bit_and_lem, bit_or_lem, bit_zero, bit_only, bit_single, bit_left, same_bits}
use Rattle.words.specs.Lowest.{lowest_of, others_of, lowest_lt, bit_lowest, bit_others}
use Rattle.words.specs.Folds.{any_found, any_of}
use Rattle.words.specs.Unions.{union_more, bit_union}
use Rattle.words.specs.Truth.{so_ext, not_so, so_not_not, and_says}
use Rattle.moves.specs.Back.{meets, pre_of, bit_pre, pre_none}

-- `rest` is what of `within` is not gone
pub record Left (within gone rest : ℕ) : Type 0 where
  pub fits : rest < 2 ^ 64
  pub is : (k : ℕ) → bit rest k ≡ (bit within k && not (bit gone k))

-- and `rest` will be, once those of `tried` with a move into the target are dropped
pub record Trying (next : List ℕ) (target within gone rest tried : ℕ) : Type 0 where
  pub fits : rest < 2 ^ 64
  pub short : tried < 2 ^ 64
  pub is : (k : ℕ) → (bit rest k && not (bit tried k && bit (pre_of next target) k)) ≡ (bit within k && not (bit gone k))

-- before the scan
pub left_start : (within : ℕ) (f : ℕ → ℕ) → within < 2 ^ 64 → Left within (union_below 0 f) within
unfolding union_below
left_start within f h = record { fits = h; is = λ k. rw bit_zero (sym (keep (bit within k))) }
  where
    keep : (b : Bool) → (b && not false) ≡ b
    keep true = refl
    keep false = refl

-- a word at hand: the states left that may go are tried, but none where the target is empty
pub trying_start : (next : List ℕ) (within w : ℕ) (f : ℕ → ℕ) (rest target aim src door tried : ℕ) → f w ≡ bit_and (pre_of next aim) door
    → target ≡ aim → src ≡ door → tried ≡ only_of (not (eqb target 0)) (bit_and rest src) → tried < 2 ^ 64
    → Left within (union_below w f) rest → Trying next target within (union_below (w + 1) f) rest tried
trying_start next within w f rest target aim src door tried e same wide is short l = record {
  fits = l.fits;
  short = short;
  is = λ k. rw (union_more, bit_or_lem, e, ← same, ← wide, bit_and_lem, is, bit_only, bit_and_lem, l.is k)
      (table (bit within k) (bit (union_below w f) k) (not (eqb target 0)) (bit src k) (bit (pre_of next target) k) (none k));
}
  where
    none : (k : ℕ) → not (eqb target 0) ≡ false → bit (pre_of next target) k ≡ false
    none k h = ap (λ (x : ℕ). bit (pre_of next x) k) (eqb-true target 0 (not-false (eqb target 0) h)) ∙ ap (λ (x : ℕ). bit x k) (sym (pre_none next)) ∙ bit_zero k

    table : (a u t s p : Bool) → (t ≡ false → p ≡ false) → ((a && not u) && not ((t && ((a && not u) && s)) && p)) ≡ (a && not (u || (p && s)))
    table false u t s p h = refl
    table true true t s p h = refl
    table true false true true true h = refl
    table true false true true false h = refl
    table true false true false true h = refl
    table true false true false false h = refl
    table true false false s true h = absurd (false≢true (sym (h refl)))
    table true false false s false h = refl

-- one state tried: it has a move into the target, and is dropped; or it has none, and stays
module _ (next : List ℕ) (target within gone rest tried : ℕ) (some : 0 < tried) (t : Trying next target within gone rest tried) where
  abbrev low : ℕ
  low = lowest_of tried

  others_short : others_of tried < 2 ^ 64
  others_short = lt_of_le_of_lt (and_le_l tried (tried - 1)) t.short

  at_low : (k : ℕ) → So (eqb k low) → So (bit tried k)
  at_low k e = rw (eqb-true k low e) (bit_lowest tried some t.short)

  hit : So (meets next target low) → Trying next target within gone (without_of rest (2 ^ low)) (others_of tried)
  hit m = record {
    fits = lt_of_le_of_lt (and_le_l rest (2 ^ 64 - 1 - 2 ^ low)) t.fits;
    short = others_short;
    is = λ k. rw (bit_left rest (2 ^ low) t.fits (pow-lt (lowest_lt tried some t.short)) k, bit_single, bit_others tried some t.short k)
        (table (bit rest k) (bit tried k) (bit (pre_of next target) k) (eqb k low) (λ e. (at_low k e, rw (eqb-true k low e, bit_pre) m))) ∙ t.is k;
  }
    where
      table : (r t p e : Bool) → (So e → So t × So p) → ((r && not e) && not ((t && not e) && p)) ≡ (r && not (t && p))
      table false t p e h = refl
      table true t p true h = let (a, b) = h refl in rw (a, b)
      table true true p false h = refl
      table true false p false h = refl

  miss : meets next target low ≡ false → Trying next target within gone rest (others_of tried)
  miss m = record {
    fits = t.fits;
    short = others_short;
    is = λ k. rw (bit_others tried some t.short k)
        (table (bit rest k) (bit tried k) (bit (pre_of next target) k) (eqb k low) (λ e. rw (eqb-true k low e, bit_pre) m)) ∙ t.is k;
  }
    where
      table : (r t p e : Bool) → (So e → p ≡ false) → (r && not ((t && not e) && p)) ≡ (r && not (t && p))
      table false t p e h = refl
      table true true p true h = rw (h refl)
      table true true p false h = refl
      table true false p e h = refl

  -- the same, as the loop has it
  module _ (s x others : ℕ) (at : s ≡ low) (reads : x ≡ get_or next s 0) (on : others ≡ others_of tried) where
    pub trying_hit : (one less : ℕ) → (bit_and x target ≡ 0 → ⊥) → one ≡ 2 ^ s → less ≡ without_of rest one → Trying next target within gone less others
    trying_hit one less m e d = rw (d, e, at, on) (hit (rw (← at, ← reads, ne_eqb (bit_and x target) 0 m)))

    pub trying_miss : bit_and x target ≡ 0 → Trying next target within gone rest others
    trying_miss m = rw on (miss (rw (← at, ← reads, m)))

-- all tried
pub trying_end : (next : List ℕ) (target within gone rest tried : ℕ) → tried ≡ 0 → Trying next target within gone rest tried → Left within gone rest
trying_end next target within gone rest tried e t = record {
  fits = t.fits;
  is = λ k. sym (keep (bit rest k) (bit tried k) (bit (pre_of next target) k) (rw e (bit_zero k))) ∙ t.is k;
}
  where
    keep : (r t p : Bool) → t ≡ false → (r && not (t && p)) ≡ r
    keep true t p h = rw h
    keep false t p h = refl

-- all words scanned: what is not left has a move
pub left_done : (within : ℕ) (f : ℕ → ℕ) (w n rest : ℕ) → within < 2 ^ 64 → w ≡ n → Left within (union_below w f) rest
    → without_of within rest ≡ bit_and within (union_below n f)
left_done within f w n rest h e l = rw (← e) (same_bits _ _ λ k.
    bit_left within rest h l.fits k ∙ rw (l.is k) (twice (bit within k) (bit (union_below w f) k)) ∙ sym (bit_and_lem within (union_below w f) k))
  where
    twice : (a g : Bool) → (a && not (a && not g)) ≡ (a && g)
    twice true true = refl
    twice true false = refl
    twice false g = refl

-- none left before the last word: all have one
pub left_none : (next : List ℕ) (target within : ℕ) (f : ℕ → ℕ) (w n rest tried : ℕ) → within < 2 ^ 64 → w ≤ n → rest ≡ 0
    → Trying next target within (union_below w f) rest tried → without_of within rest ≡ bit_and within (union_below n f)
left_none next target within f w n rest tried h le e t = same_bits _ _ λ k.
    bit_left within rest h t.fits k
    ∙ so_ext (bit within k && not (bit rest k)) (bit within k && bit (union_below n f) k)
    (λ i. let a = ((and_says (bit within k) (not (bit rest k))).0 i).0 in (and_says (bit within k) (bit (union_below n f) k)).1 (a, later k (gone k a)))
    (λ i. (and_says (bit within k) (not (bit rest k))).1 (((and_says (bit within k) (bit (union_below n f) k)).0 i).0, rw (empty k)))
    ∙ sym (bit_and_lem within (union_below n f) k)
  where
    empty : (k : ℕ) → bit rest k ≡ false
    empty k = rw e (bit_zero k)

    gone : (k : ℕ) → So (bit within k) → So (bit (union_below w f) k)
    gone k a = so_not_not (bit (union_below w f) k) (λ o. false≢true (rw (empty k, a, not_so (bit (union_below w f) k) o) at (t.is k)))

    later : (k : ℕ) → So (bit (union_below w f) k) → So (bit (union_below n f) k)
    later k i =
        let (j, l, b) = any_found w (λ j. bit (f j) k) (rw bit_union at i) in
        rw bit_union (any_of n (λ j. bit (f j) k) j (omega arith) b)

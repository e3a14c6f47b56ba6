-- The pairs with a move into a front, found by its valuations alone.
use Rattle.std.specs.Prelude.{ℕ, ◌^◌, ◌≤◌, ◌<◌, ◌≡◌, refl, Bool, true, false, ◌&&◌, ◌||◌, not, List, eqb, ltb, length, get_or}
use Rattle.std.proofs.Common.{arith, sym, ap, ◌∙◌}
use Rattle.std.proofs.Math.Decide.{dec_lt}
use Rattle.std.proofs.Math.Bool.{So}
use Rattle.std.proofs.lemmas.Bool.{false≢true}
use Rattle.std.specs.Int.Bits.{bit_and, bit_or}
use borrow.Author.Tests.{lt-ltb, ltb-true, eqb-true, not-false}
use Rattle.meaning.specs.Bit.{bit}
use Rattle.words.specs.Word.{without_of, only_of}
use Rattle.words.specs.Below.{any_below, list_below, word_of}
use Rattle.words.specs.Laws.{bit_and_lem, bit_or_lem, bit_zero, bit_only, bit_single, bit_above, bit_without, same_bits}
use Rattle.words.specs.Lowest.{lowest_of, others_of, lowest_lt, bit_lowest, bit_others}
use Rattle.words.specs.Lists.{list_at, length_list}
use Rattle.words.specs.Folds.{any_found, any_of}
use Rattle.words.specs.Unions.{bit_union, bit_word_of, some_member, member_some}
use Rattle.words.specs.Truth.{so_ext, and_says}
use Rattle.pairs.specs.Post.{post_of, bit_post, post_turn}
use Rattle.moves.specs.Back.{meets, pre_of, bit_pre, pre_none}
use Rattle.moves.specs.Leading.{leading_at}
use Rattle.leads.specs.Halves.{from_in, to_in}
use Rattle.sweeps.specs.Sweeps.{via_at, movers_at}

-- the valuations below n at which the set has pairs
unfoldable pub held_of : ℕ → List ℕ → ℕ
held_of n set = word_of n (λ v. not (eqb (get_or set v 0) 0))

-- ---- the states with a move into a target, one after another

-- into an empty target there is no move
pub moving_none : (next : List ℕ) (target tried : ℕ) → bit_and (only_of (not (eqb target 0)) tried) (pre_of next target) ≡ bit_and tried (pre_of next target)
moving_none next target tried = same_bits _ _ λ k.
    bit_and_lem (only_of (not (eqb target 0)) tried) (pre_of next target) k ∙ rw bit_only (table (not (eqb target 0)) (bit tried k) (bit (pre_of next target) k) (none k)) ∙ sym (bit_and_lem tried (pre_of next target) k)
  where
    none : (k : ℕ) → not (eqb target 0) ≡ false → bit (pre_of next target) k ≡ false
    none k h = ap (λ (x : ℕ). bit (pre_of next x) k) (eqb-true target 0 (not-false (eqb target 0) h)) ∙ ap (λ (x : ℕ). bit x k) (sym (pre_none next)) ∙ bit_zero k

    table : (t x p : Bool) → (t ≡ false → p ≡ false) → ((t && x) && p) ≡ (x && p)
    table true x p h = refl
    table false true true h = absurd (false≢true (sym (h refl)))
    table false true false h = refl
    table false false p h = refl

-- a turn: the lowest of those left is found where it has a move
pub moving_turn : (next : List ℕ) (target found x : ℕ) → 0 < x → x < 2 ^ 64
    → bit_or (bit_or found (only_of (meets next target (lowest_of x)) (2 ^ lowest_of x))) (bit_and (others_of x) (pre_of next target))
    ≡ bit_or found (bit_and x (pre_of next target))
moving_turn next target found x some fits = same_bits _ _ λ k.
    rw (bit_or_lem, bit_or_lem, bit_only, bit_single, bit_and_lem, bit_others x some fits k, bit_or_lem, bit_and_lem)
    (table (bit found k) (meets next target (lowest_of x)) (eqb k (lowest_of x)) (bit x k) (bit (pre_of next target) k)
    (λ e. (rw (eqb-true k (lowest_of x) e) (bit_lowest x some fits), rw (eqb-true k (lowest_of x) e) (bit_pre next target (lowest_of x)))))
  where
    table : (f m e x p : Bool) → (So e → So x × (p ≡ m)) → ((f || (m && e)) || ((x && not e) && p)) ≡ (f || (x && p))
    table true m e x p h = refl
    table false true true x p h = let (a, b) = h refl in rw (a, b)
    table false false true x p h = let (a, b) = h refl in rw (a, b)
    table false true false true p h = refl
    table false true false false p h = refl
    table false false false true p h = refl
    table false false false false p h = refl

-- ---- the members of a word with a move into the front, valuation by valuation

-- what was found need not be tried again
again : (found others src pre : ℕ) → others < 2 ^ 64 → found < 2 ^ 64
    → bit_or found (bit_and (bit_and (without_of others found) src) pre) ≡ bit_or found (bit_and others (bit_and pre src))
again found others src pre wide short = same_bits _ _ λ k.
    rw (bit_or_lem, bit_and_lem, bit_and_lem, without k, bit_or_lem, bit_and_lem, bit_and_lem) (table (bit found k) (bit others k) (bit src k) (bit pre k))
  where
    without : (k : ℕ) → bit (without_of others found) k ≡ (bit others k && not (bit found k))
    without k = go (dec_lt k 64)
      where
        go : Dec (k < 64) → bit (without_of others found) k ≡ (bit others k && not (bit found k))
        go (yes l) = bit_without others short k l
        go (no h) = rw (bit_and_lem, bit_above 64 {x = others} {k = k} wide (omega arith))

    table : (f o s p : Bool) → (f || (((o && not f) && s) && p)) ≡ (f || (o && (p && s)))
    table true o s p = refl
    table false false s p = refl
    table false true true true = refl
    table false true true false = refl
    table false true false true = refl
    table false true false false = refl

module _ (next leave enter : List ℕ) (count : ℕ) (front : List ℕ) (others v : ℕ) where
  abbrev via : ℕ → ℕ
  via w = via_at next leave enter count front v w

  -- what of the word has a move into the front at w
  unfoldable pub joins_by : List ℕ
  joins_by = list_below 64 (λ w. bit_and others (via w))

  -- where a move leads into the front at w, the front has pairs there
  held : (k w : ℕ) → So (bit (via w) k) → So (not (eqb (get_or front w 0) 0))
  held k w m =
      let target = bit_and (get_or front w 0) (to_in enter v w) in
      let (p, _) = (and_says (bit (pre_of next target) k) (bit (from_in leave v w) k)).0 (rw bit_and_lem at m) in
      let (t, b) = some_member (bit_and (get_or next k 0) target) (rw bit_pre at p) in
      let (_, c) = (and_says (bit (get_or next k 0) t) (bit target t)).0 (rw bit_and_lem at b) in
      member_some (get_or front w 0) t ((and_says (bit (get_or front w 0) t) (bit (to_in enter v w) t)).0 (rw bit_and_lem at c)).0

  -- at the valuations of the front all are found
  pub joins_all : count ≤ 64 → post_of joins_by (held_of count front) ≡ movers_at next leave enter count front others v
  unfolding joins_by held_of movers_at leading_at
  joins_all few = same_bits _ _ λ k.
      bit_post joins_by (held_of count front) k ∙ rw (bit_and_lem, bit_union) (so_ext _ _ (found k) (of k))
    where
      found : (k : ℕ) → So (any_below (length joins_by) (λ w. bit (held_of count front) w && bit (get_or joins_by w 0) k)) → So (bit others k && any_below count (λ w. bit (via w) k))
      found k a =
          let (w, l, b) = any_found (length joins_by) (λ w. bit (held_of count front) w && bit (get_or joins_by w 0) k) a in
          let (h, j) = (and_says (bit (held_of count front) w) (bit (get_or joins_by w 0) k)).0 b in
          let (low, _) = (and_says (ltb w count) (not (eqb (get_or front w 0) 0))).0 (rw bit_word_of at h) in
          let lw = ltb-true w count low in
          let (o, m) = (and_says (bit others k) (bit (via w) k)).0 (rw (list_at 64 (λ w. bit_and others (via w)) w (omega arith), bit_and_lem) at j) in
          (and_says (bit others k) _).1 (o, any_of count (λ w. bit (via w) k) w lw m)

      of : (k : ℕ) → So (bit others k && any_below count (λ w. bit (via w) k)) → So (any_below (length joins_by) (λ w. bit (held_of count front) w && bit (get_or joins_by w 0) k))
      of k a =
          let (o, some) = (and_says (bit others k) _).0 a in
          let (w, lw, m) = any_found count (λ w. bit (via w) k) some in
          any_of (length joins_by) (λ w. bit (held_of count front) w && bit (get_or joins_by w 0) k) w (rw length_list (omega arith))
          ((and_says (bit (held_of count front) w) (bit (get_or joins_by w 0) k)).1 (
            rw (bit_word_of, lt-ltb w count lw) (held k w m),
            rw (list_at 64 (λ w. bit_and others (via w)) w (omega arith), bit_and_lem) ((and_says (bit others k) (bit (via w) k)).1 (o, m)),
          ))

  joins_at : (found left src door w : ℕ) → others < 2 ^ 64 → found < 2 ^ 64 → w < 64 → left ≡ without_of others found → src ≡ from_in leave v w → door ≡ to_in enter v w
      → bit_or found (bit_and (bit_and left src) (pre_of next (bit_and (get_or front w 0) door))) ≡ bit_or found (get_or joins_by w 0)
  unfolding joins_by
  joins_at found left src door w wide short low is leaves enters =
      rw (is, leaves, enters, list_at 64 (λ w. bit_and others (via w)) w low) (again found others (from_in leave v w) (pre_of next (bit_and (get_or front w 0) (to_in enter v w))) wide short)

  -- a turn
  pub joins_turn : (found left src door w added rest : ℕ) → others < 2 ^ 64 → found < 2 ^ 64 → 0 < rest → rest < 2 ^ 64 → w ≡ lowest_of rest
      → left ≡ without_of others found → src ≡ from_in leave v w → door ≡ to_in enter v w → added ≡ bit_and (bit_and left src) (pre_of next (bit_and (get_or front w 0) door))
      → bit_or (bit_or found added) (post_of joins_by (others_of rest)) ≡ bit_or found (post_of joins_by rest)
  joins_turn found left src door w added rest wide short some fits at is leaves enters adds =
      let low : w < 64 = rw at (lowest_lt rest some fits) in
      let here : bit_or found added ≡ bit_or found (get_or joins_by (lowest_of rest) 0) = rw (adds, ← at) (joins_at found left src door w wide short low is leaves enters) in
      rw here (post_turn joins_by found rest some fits)

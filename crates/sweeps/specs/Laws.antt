-- A sweep adds pairs until it adds none; then all that reach the goal are found.
use Rattle.std.specs.Prelude.{ℕ, ◌-◌, ◌^◌, ◌<◌, ◌≡◌, refl, Bool, true, false, ◌||◌, not, List, ltb, length}
use Rattle.std.proofs.Common.{arith, sym, ap, ◌∙◌, inr}
use Rattle.std.proofs.Math.Logic.{⊎_elim}
use Rattle.std.proofs.Math.Bool.{So, false≢true, or-false}
use Rattle.std.specs.Int.Bits.{bit_and, and_zero_r}
use Rattle.std.proofs.Math.ListN.{get_or}
use borrow.Author.Tests.{lt-ltb, ltb-true}
use Rattle.meaning.specs.Bit.{bit}
use Rattle.words.specs.Word.{without_of, only_of}
use Rattle.words.specs.Below.{words_below, count_below}
use Rattle.words.specs.Laws.{bit_and_lem, bit_not}
use Rattle.words.specs.Lists.{words_at, words_ext, length_words, entry_inside}
use Rattle.words.specs.Folds.{count_le}
use Rattle.words.specs.Truth.{not_so, and_says, or_says, not_says}
use Rattle.pairs.specs.Sets.{Fit, Words, inside, inside_words, inside_join, join_of, length_join, empty_of, occupied, occupant, pairs_ext, same_of, same_equal, equal_same}
use Rattle.moves.specs.Leading.{leading_at, leading_of}
use Rattle.graphs.specs.Count.{count_lt}
use Rattle.theory.specs.Node.{node, state_of, values_of}
use Rattle.model.specs.Sets.{nodes_of, at_node}
use Rattle.model.specs.LiveSet.{meet_of, enough}
use Rattle.model.specs.Reaching.{meet_says}
use Rattle.leads.specs.Halves.{from_in, to_in}
use Rattle.model.specs.Settle.{settle_keeps, Settling, settling_start, settling_more, settling_end}
use Rattle.sweeps.specs.Sweeps.{without_set, movers_at, movers_of, sweep_of, reaching_of}

-- the pairs with a move, word by word
pub movers_words : (next leave enter : List ℕ) (count : ℕ) (set within : List ℕ)
    → words_below count (λ u. movers_at next leave enter count set (get_or within u 0) u) ≡ movers_of next leave enter count set within
unfolding movers_at movers_of meet_of leading_of
movers_words next leave enter count set within = words_ext _ _ (length_words count _) (length_words 64 _)
    (λ v h. words_at count _ v h
    ∙ sym (words_at 64 _ v h ∙ rw (lt-ltb v 64 h, words_at count (leading_at next (from_in leave) (to_in enter) count set) v h)
    (push (ltb v count) (get_or within v 0) (leading_at next (from_in leave) (to_in enter) count set v))))
  where
    push : (b : Bool) (x y : ℕ) → bit_and x (only_of b y) ≡ only_of b (bit_and x y)
    push true x y = refl
    push false x y = and_zero_r x

-- ---- sets without others

module _ (p q : List ℕ) (fits : Fit q) (s v : ℕ) where
  -- a pair of p that is not in q
  pub without_inside : So (inside (without_set p q) s v) → (v < 64) × (s < 64) × So (inside p s v) × (So (inside q s v) → ⊥)
  unfolding without_set
  without_inside i =
      let (b, m) = (and_says (ltb v 64) (bit (without_of (get_or p v 0) (get_or q v 0)) s)).0 (rw (inside_words 64 (λ v. without_of (get_or p v 0) (get_or q v 0)) (omega arith) s v) at i) in
      let l = ltb-true v 64 b in
      let (x, y) = (and_says (bit (get_or p v 0) s) (bit (2 ^ 64 - 1 - get_or q v 0) s)).0 (rw bit_and_lem at m) in
      let (z, n) = (and_says (ltb s 64) (not (inside q s v))).0 (rw (bit_not 64 (fits v l) s) at y) in
      (l, ltb-true s 64 z, x, (not_says (inside q s v)).0 n)

  pub inside_without : v < 64 → s < 64 → So (inside p s v) → (So (inside q s v) → ⊥) → So (inside (without_set p q) s v)
  unfolding without_set
  inside_without lv ls i o = rw (inside_words 64 (λ v. without_of (get_or p v 0) (get_or q v 0)) (omega arith) s v, bit_and_lem, bit_not 64 (fits v lv) s, lt-ltb v 64 lv, lt-ltb s 64 ls, i, not_so (inside q s v) o)

-- ---- one sweep

-- how many pairs a set has
abbrev pub pairs_in : List ℕ → ℕ
pairs_in B = count_below 4096 (nodes_of B)

-- a set beside others
join_more : (p q : List ℕ) → length p ≡ 64 → (s v : ℕ) → So (inside p s v) → So (inside (join_of p q) s v)
join_more p q long s v i = rw (inside_join p q s v, lt-ltb v 64 (let h = entry_inside p v s i in omega arith), i)

module _ (next leave enter : List ℕ) (count : ℕ) (within set : List ℕ) (long : length set ≡ 64) where
  abbrev added : List ℕ
  added = movers_of next leave enter count set (without_set within set)

  -- nothing is added
  pub sweep_stays : empty_of added ≡ true → same_of (sweep_of next leave enter count within set) set ≡ true
  unfolding sweep_of
  sweep_stays e = rw (pairs_ext (join_of set added) set (length_join set added) long
      (λ s v l. inside_join set added s v ∙ rw (lt-ltb v 64 l, not_so (inside added s v) (λ i. false≢true (sym (occupied added s v l i) ∙ e))) (or-false (inside set s v))))
      (equal_same set)

  -- a pair is added
  pub sweep_grows : Fit set → empty_of added ≡ false → pairs_in set < pairs_in (sweep_of next leave enter count within set)
  unfolding sweep_of movers_of
  sweep_grows fits e =
      let (s, v, lv, i) = occupant added e in
      let (_, (w, _)) = (meet_says (without_set within set) (leading_of next (from_in leave) (to_in enter) count set) s v).0 i in
      let (_, ls, _, out) = without_inside within set fits s v w in
      count_lt 4096 (λ x. join_more set added long (state_of x) (values_of x)) (node s v) (omega arith) (λ h. out (rw (at_node set s v ls) at h))
      (rw (at_node (join_of set added) s v ls) (rw (inside_join set added s v, lt-ltb v 64 lv) ((or_says (inside set s v) (inside added s v)).1 (inr i))))

  sweep_long : length (sweep_of next leave enter count within set) ≡ 64
  unfolding sweep_of
  sweep_long = length_join set added

  pub sweep_changes : Fit set → empty_of added ≡ false → same_of (sweep_of next leave enter count within set) set ≡ false
  sweep_changes fits e = not_so _ (λ h.
      let same = same_equal (sweep_of next leave enter count within set) set sweep_long long h in
      let less = sweep_grows fits e in
      let more : pairs_in (sweep_of next leave enter count within set) ≡ pairs_in set = ap pairs_in same in omega arith)

-- ---- the loop of sweeps

module _ (next leave enter : List ℕ) (count : ℕ) (within goal : List ℕ) where
  abbrev pub Sweeping : List ℕ → Type 0
  Sweeping = Settling (sweep_of next leave enter count within) same_of pairs_in 4096 enough (meet_of within goal)

  pub sweeping_start : Sweeping (meet_of within goal)
  sweeping_start = settling_start _ _ _ 4096 enough (meet_of within goal) (omega arith)

  -- what the loop has: the set, the pairs beside it, and those that are added
  module _ (set others more : List ℕ) (words : Words set) (beside : others ≡ without_set within set)
      (adds : more ≡ movers_of next leave enter count set others) where
    is_added : more ≡ movers_of next leave enter count set (without_set within set)
    is_added = rw (adds, beside)

    is_swept : join_of set more ≡ sweep_of next leave enter count within set
    unfolding sweep_of
    is_swept = rw is_added

    pub sweeping_less : empty_of more ≡ false → 4096 - pairs_in (join_of set more) < 4096 - pairs_in set
    sweeping_less e =
        let less = sweep_grows next leave enter count within set words.long words.fits (rw is_added at e) in
        rw is_swept (omega (arith, count_le 4096 (nodes_of (sweep_of next leave enter count within set))))

    pub sweeping_more : empty_of more ≡ false → Sweeping set → Sweeping (join_of set more)
    sweeping_more e k =
        rw is_swept (settling_more _ _ _ _ _ _ set k (count_le 4096 (nodes_of set)) (sweep_changes next leave enter count within set words.long words.fits (rw is_added at e))
        (sweep_grows next leave enter count within set words.long words.fits (rw is_added at e)))

    pub sweeping_end : empty_of more ≡ true → Sweeping set → set ≡ reaching_of next leave enter count within goal
    unfolding reaching_of
    sweeping_end e k = settling_end _ _ _ _ _ _ set k (count_le 4096 (nodes_of set)) (sweep_stays next leave enter count within set words.long (rw is_added at e))

  -- what is found is within
  abbrev Inside : List ℕ → Type 0
  Inside B = (s v : ℕ) → So (inside B s v) → So (inside within s v)

  swept_inside : (B : List ℕ) → Inside B → Inside (sweep_of next leave enter count within B)
  unfolding sweep_of movers_of without_set
  swept_inside B h s v i =
      let added = movers_of next leave enter count B (without_set within B) in
      ⊎_elim (h s v)
      (λ a. let (l, (w, _)) = (meet_says (without_set within B) (leading_of next (from_in leave) (to_in enter) count B) s v).0 a in
      ((and_says (inside within s v) (bit (2 ^ 64 - 1 - get_or B v 0) s)).0
      (rw (inside_words 64 (λ v. without_of (get_or within v 0) (get_or B v 0)) (omega arith) s v, lt-ltb v 64 l, bit_and_lem) at w)).0)
      ((or_says (inside B s v) (inside added s v)).0 ((and_says (ltb v 64) (inside B s v || inside added s v)).0 (rw (inside_join B added s v) at i)).1)

  pub reaching_inside : Inside (reaching_of next leave enter count within goal)
  unfolding reaching_of
  reaching_inside =
      settle_keeps (sweep_of next leave enter count within) same_of Inside swept_inside enough (meet_of within goal) (λ s v i. ((meet_says within goal s v).0 i).1.0)

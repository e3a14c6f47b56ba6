-- Sets of pairs as lists of 64 words: state s with valuation v is in the set where word v has the member s.
use Rattle.std.specs.Prelude.{ℕ, ◌^◌, ◌≤◌, ◌<◌, ◌≡◌, Bool, true, false, ◌&&◌, ◌||◌, List, eqb, ltb, length, get_or}
use Rattle.std.proofs.Common.{arith, sym, ◌∙◌, le-ltb, eq-eqb, eqb-true}
use Rattle.std.proofs.Math.Decide.{dec_lt}
use Rattle.std.proofs.Math.Bool.{So}
use Rattle.std.specs.Int.Bits.{bit_or, bit_xor, xor_add_and, xor_self}
use Rattle.std.proofs.lemmas.Nat.{and_le_l, and_le_r}
use Rattle.std.proofs.Math.ListN.{get_or-eq_default}
use Rattle.std.proofs.lemmas.Bool.{not-true}
use Rattle.meaning.specs.Bit.{bit}
use Rattle.words.specs.Folds.{any_same, any_or, any_found, any_of, count_same}
use Rattle.words.specs.Unions.{bit_union, union_none, none_union, member_some, some_member}
use Rattle.words.specs.Lists.{words_at, words_ext, length_words}
use Rattle.words.specs.Laws.{bit_zero, bit_only, bit_or_lem, same_bits}
use Rattle.words.specs.Below.{any_below, count_below, union_below, words_below}

-- the pair of state s and valuation v is in the set
abbrev pub inside : List ℕ → ℕ → ℕ → Bool
inside p s v = bit (get_or p v 0) s

abbrev pub joined_at : List ℕ → List ℕ → ℕ → ℕ
joined_at p q v = bit_or (get_or p v 0) (get_or q v 0)

-- the union of two sets of pairs
unfoldable pub join_of : List ℕ → List ℕ → List ℕ
join_of p q = words_below 64 (joined_at p q)

abbrev pub word_at : List ℕ → ℕ → ℕ
word_at p v = get_or p v 0

-- the states that occur in a set of pairs
unfoldable pub states_of : List ℕ → ℕ
states_of p = union_below 64 (word_at p)

-- whether the state s occurs in one of two sets of pairs
abbrev pub occurs_in : List ℕ → List ℕ → ℕ → Bool
occurs_in p q s = any_below 64 (λ v. bit (joined_at p q v) s)

-- how many states occur in two sets of pairs
unfoldable pub left_of : List ℕ → List ℕ → ℕ
left_of p q = count_below 64 (occurs_in p q)

-- no pair is in the set
abbrev pub empty_of : List ℕ → Bool
empty_of p = eqb (states_of p) 0

abbrev pub differ_at : List ℕ → List ℕ → ℕ → ℕ
differ_at p q v = bit_xor (get_or p v 0) (get_or q v 0)

-- two sets have the same pairs: no word differs
unfoldable pub same_of : List ℕ → List ℕ → Bool
same_of p q = eqb (union_below 64 (differ_at p q)) 0

-- each of the 64 words is one of 64 bits
abbrev pub Fit : List ℕ → Type 0
Fit p = (v : ℕ) → v < 64 → get_or p v 0 < 2 ^ 64

-- 64 words, as code holds a set
pub record Words (p : List ℕ) : Type 0 where
  pub long : length p ≡ 64
  pub fits : Fit p

-- ---- what they mean

pub bit_states : (p : List ℕ) (s : ℕ) → bit (states_of p) s ≡ any_below 64 (λ v. inside p s v)
unfolding states_of
bit_states p s = bit_union 64 (word_at p) s

-- a set is empty where no pair is in it
pub occupied : (p : List ℕ) (s v : ℕ) → v < 64 → So (inside p s v) → empty_of p ≡ false
occupied p s v h i = not-true (empty_of p) (member_some (states_of p) s (rw bit_states (any_of 64 (λ v. inside p s v) v h i)))

pub occupant : (p : List ℕ) → empty_of p ≡ false → (s : ℕ) × (v : ℕ) × (v < 64) × So (inside p s v)
occupant p e =
    let m = some_member (states_of p) (rw e) in
    let w = any_found 64 (λ v. inside p m.0 v) (rw bit_states at m.1) in
    (m.0, w.0, w.1, w.2)

-- the states that occur are counted a word at a time
pub left_ones : (p q : List ℕ) → count_below 64 (bit (bit_or (states_of p) (states_of q))) ≡ left_of p q
unfolding left_of
left_ones p q = count_same 64 (bit (bit_or (states_of p) (states_of q))) (occurs_in p q) (λ s _. both s)
  where
    both : (s : ℕ) → bit (bit_or (states_of p) (states_of q)) s ≡ occurs_in p q s
    both s =
        rw (bit_or_lem, bit_states p, bit_states q)
        (sym (any_same 64 (λ v. bit (joined_at p q v) s) (λ v. inside p s v || inside q s v) (λ v _. bit_or_lem (get_or p v 0) (get_or q v 0) s)
        ∙ any_or 64 (λ v. inside p s v) (λ v. inside q s v)))

-- a pair is in the words that a loop below n makes
pub inside_words : (n : ℕ) (f : ℕ → ℕ) → n ≤ 64 → (s v : ℕ) → inside (words_below n f) s v ≡ (ltb v n && bit (f v) s)
inside_words n f few s v = go (dec_lt v 64)
  where
    go : Dec (v < 64) → inside (words_below n f) s v ≡ (ltb v n && bit (f v) s)
    go (yes l) = rw (words_at n f v l) (bit_only (ltb v n) (f v) s)
    go (no g) = rw (
      get_or-eq_default (words_below n f) 0 {n = v} (rw length_words (omega arith)),
      le-ltb v n (omega arith),
    ) (bit_zero s)

pub length_join : (p q : List ℕ) → length (join_of p q) ≡ 64
unfolding join_of
length_join p q = length_words 64 (joined_at p q)

-- a pair is in the union where it is in one of the two
pub inside_join : (p q : List ℕ) (s v : ℕ) → inside (join_of p q) s v ≡ (ltb v 64 && (inside p s v || inside q s v))
unfolding join_of
inside_join p q s v = rw (inside_words 64 (joined_at p q) (omega arith) s v, bit_or_lem)

-- sets with the same pairs are equal
pub pairs_ext : (p q : List ℕ) → length p ≡ 64 → length q ≡ 64 → ((s v : ℕ) → v < 64 → inside p s v ≡ inside q s v) → p ≡ q
pairs_ext p q hp hq e = words_ext p q hp hq (λ v h. same_bits (get_or p v 0) (get_or q v 0) (λ s. e s v h))

-- the test of sameness tells equal sets from others
pub same_equal : (p q : List ℕ) → length p ≡ 64 → length q ≡ 64 → same_of p q ≡ true → p ≡ q
unfolding same_of
same_equal p q hp hq e =
    words_ext p q hp hq
    (λ v h. alike (get_or p v 0) (get_or q v 0) (union_none 64 (differ_at p q) (eqb-true (union_below 64 (differ_at p q)) 0 e) v h))
  where
    alike : (a b : ℕ) → bit_xor a b ≡ 0 → a ≡ b
    alike a b z = omega (arith, xor_add_and a b, and_le_l a b, and_le_r a b)

pub equal_same : (p : List ℕ) → same_of p p ≡ true
unfolding same_of
equal_same p = eq-eqb (union_below 64 (differ_at p p)) 0 (none_union 64 (differ_at p p) (λ v _. xor_self (get_or p v 0)))

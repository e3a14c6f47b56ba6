-- The states that a set's members lead to.
use Rattle.std.specs.Prelude.{ℕ, ◌<◌, ◌^◌, ◌≡◌, Bool, ◌&&◌, ◌||◌, not, eqb, List, length, get_or}
use Rattle.std.proofs.Common.{sym, ap, ◌∙◌, ⊎_elim, inl, inr, ne_eqb}
use Rattle.std.proofs.Math.Bool.{So}
use Rattle.std.proofs.Math.Decide.{ℕ_discrete}
use Rattle.std.specs.Int.Bits.{bit_or}
use Rattle.meaning.specs.Bit.{bit}
use Rattle.words.specs.Word.{only_of}
use Rattle.words.specs.Below.{any_below, union_below}
use Rattle.words.specs.Laws.{bit_only, bit_zero, bit_or_lem, same_bits, or_assoc}
use Rattle.words.specs.Lowest.{lowest_of, others_of, bit_lowest, bit_others}
use Rattle.words.specs.Truth.{so_ext, and_says, or_says}
use Rattle.words.specs.Folds.{any_same, any_found, any_of}
use Rattle.words.specs.Lists.{entry_inside}
use Rattle.words.specs.Unions.{bit_union, none_union}

-- what state s adds
abbrev pub added_by : List ℕ → ℕ → ℕ → ℕ
added_by next set s = only_of (bit set s) (get_or next s 0)

-- the union of next s for each member s of the set
unfoldable pub post_of : List ℕ → ℕ → ℕ
post_of next set = union_below (length next) (added_by next set)

pub bit_post : (next : List ℕ) (set k : ℕ) → bit (post_of next set) k ≡ any_below (length next) (λ s. bit set s && bit (get_or next s 0) k)
unfolding post_of
bit_post next set k =
    bit_union (length next) (added_by next set) k
    ∙ any_same (length next) (λ s. bit (added_by next set s) k) (λ s. bit set s && bit (get_or next s 0) k)
    (λ s _. bit_only (bit set s) (get_or next s 0) k)

pub post_none : (next : List ℕ) → post_of next 0 ≡ 0
unfolding post_of
post_none next = none_union (length next) (added_by next 0) (λ s _. rw (bit_zero s))

-- where a set leads is where its lowest member leads, and where the others lead
pub post_lowest : (next : List ℕ) (x : ℕ) → 0 < x → x < 2 ^ 64
    → post_of next x ≡ bit_or (get_or next (lowest_of x) 0) (post_of next (others_of x))
post_lowest next x p h =
    same_bits (post_of next x) (bit_or (get_or next (lowest_of x) 0) (post_of next (others_of x)))
    (λ j. rw (bit_or_lem, bit_post next x, bit_post next (others_of x))
    (so_ext (any_below (length next) (all j)) (bit (get_or next (lowest_of x) 0) j || any_below (length next) (rest j)) (split j) (merge j)))
  where
    -- a member leads to j; a member but the lowest does
    all : ℕ → ℕ → Bool
    all j s = bit x s && bit (get_or next s 0) j

    rest : ℕ → ℕ → Bool
    rest j s = bit (others_of x) s && bit (get_or next s 0) j

    split : (j : ℕ) → So (any_below (length next) (all j)) → So (bit (get_or next (lowest_of x) 0) j || any_below (length next) (rest j))
    split j a =
        let w = any_found (length next) (all j) a in
        let b = (and_says (bit x w.0) (bit (get_or next w.0 0) j)).0 w.2 in
        (or_says (bit (get_or next (lowest_of x) 0) j) (any_below (length next) (rest j))).1 (elim (ℕ_discrete w.0 (lowest_of x)) [
          | yes e ↦ inl (rw (← e) b.1)
          | no d ↦ inr (any_of (length next) (rest j) w.0 w.1 (rw (bit_others x p h w.0, b.0, b.1, ne_eqb w.0 (lowest_of x) d)))
        ])

    merge : (j : ℕ) → So (bit (get_or next (lowest_of x) 0) j || any_below (length next) (rest j)) → So (any_below (length next) (all j))
    merge j a =
        ⊎_elim
        (λ q. any_of (length next) (all j) (lowest_of x) (entry_inside next (lowest_of x) j q) (rw (bit_lowest x p h, q)))
        (λ r.
        let w = any_found (length next) (rest j) r in
        let b = (and_says (bit (others_of x) w.0) (bit (get_or next w.0 0) j)).0 w.2 in
        let m = (and_says (bit x w.0) (not (eqb w.0 (lowest_of x)))).0 (rw (bit_others x p h w.0) at b.0) in
        any_of (length next) (all j) w.0 w.1 (rw (m.0, b.1)))
        ((or_says (bit (get_or next (lowest_of x) 0) j) (any_below (length next) (rest j))).0 a)

-- a turn of a loop over the members
pub post_turn : (next : List ℕ) (reached x : ℕ) → 0 < x → x < 2 ^ 64
    → bit_or (bit_or reached (get_or next (lowest_of x) 0)) (post_of next (others_of x)) ≡ bit_or reached (post_of next x)
post_turn next reached x p h =
    or_assoc reached (get_or next (lowest_of x) 0) (post_of next (others_of x)) ∙ ap (bit_or reached) (sym (post_lowest next x p h))

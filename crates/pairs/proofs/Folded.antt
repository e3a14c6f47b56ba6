-- The calls on sets of pairs, as the library's iterators make them.
use Rattle.std.proofs.Common.{◌≡◌, ◌<◌, ◌^◌, ℕ, List, Bool, true, false, length, get_or, fold, bit_or, sym, refl, ◌∙◌, ap}
use Rattle.std.specs.Int.Bits.{or_zero_r}
use lib.Bits.{or_zero_l}
use Rattle.words.specs.MemberList.{members_of}
use Rattle.words.proofs.Made.{union_by_fold}
use Rattle.words.proofs.MemberLaws.{fold_members}
use Rattle.pairs.specs.Post.{post_of, post_none, post_turn}
use Rattle.pairs.specs.Sets.{states_of, same_of, same_equal, equal_same}

pub states_by_fold : (p : List ℕ) → length p ≡ 64 → fold bit_or 0 p ≡ states_of p
unfolding states_of
states_by_fold p e = union_by_fold p 64 e

pub post_by_fold : (next : List ℕ) (set : ℕ) → set < 2 ^ 64 → fold (λ r s. bit_or r (get_or next s 0)) 0 (members_of set) ≡ post_of next set
post_by_fold next set h =
    fold_members (λ r s. bit_or r (get_or next s 0)) (λ r x. bit_or r (post_of next x))
    (λ r. ap (bit_or r) (post_none next) ∙ or_zero_r r) (post_turn next) 0 set h ∙ or_zero_l (post_of next set)

pub same_by_equal : (p q : List ℕ) (b : Bool) → length p ≡ 64 → length q ≡ 64 → (b ≡ true → p ≡ q) → (p ≡ q → b ≡ true) → b ≡ same_of p q
same_by_equal p q true hp hq to from = rw (to refl) (sym (equal_same q))
same_by_equal p q false hp hq to from = differ (same_of p q) refl
  where
    differ : (s : Bool) → same_of p q ≡ s → false ≡ s
    differ false e = refl
    differ true e = from (same_equal p q hp hq e)

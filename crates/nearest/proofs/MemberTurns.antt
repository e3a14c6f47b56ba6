-- A `for` over the members of a set, in the words of Lowest: at each turn the iterator gives the lowest member of what is left, and keeps the others.
-- So an invariant of such a loop speaks of the word that is left, `l.s-iterator.0`, and says that it is below 2 ^ 64.
use Rattle.std.proofs.Common.{◌≡◌, refl, sym, ap, ◌∙◌, ℕ, zero, suc, ◌-◌, ◌/◌, ◌%◌, ◌<◌, ◌≤◌, ◌^◌, ◌⊎◌, inl, inr, ⊎_elim, true, ◌&&◌, not, eqb, [], ◌∷◌, arith, ne_eqb}
use Rattle.std.proofs.Math.Bool.{and_self, and-true}
use Rattle.std.proofs.Math.Decide.{ℕ_discrete}
use Rattle.std.proofs.Math.Dec.{eqb-suc-zero, eqb-suc-suc}
use Rattle.std.proofs.lemmas.Nat.{and_le_r}
use Rattle.std.specs.Int.Bits.{bit_and}
use Rattle.std.specs.Int.Count.{count_trailing_zeros, under}
use Rattle.meaning.specs.Bit.{bit}
use Rattle.words.specs.Laws.{bit_and_lem, bit_low, bit_half, same_bits}
use Rattle.words.specs.Lowest.{lowest_of, others_of, lowest_lt}
use Rattle.words.specs.MemberList.{members_by, members_of}
use Rattle.words.proofs.MemberLaws.{members_more}

-- ---- the laws of Lowest, of a number of any size whose lowest member is below n

even_or_odd : (x : ℕ) → (x % 2 ≡ 0) ⊎ (x % 2 ≡ 1)
even_or_odd x = low (x % 2) (omega arith)
  where
    low : (d : ℕ) → d < 2 → (d ≡ 0) ⊎ (d ≡ 1)
    low zero h = inl refl
    low (suc zero) h = inr refl
    low (suc (suc d)) h = absurd (omega arith)

member : (n x : ℕ) → count_trailing_zeros n x < n → bit x (count_trailing_zeros n x) ≡ true
unfolding count_trailing_zeros
member zero x h = absurd (omega arith)
member (suc n) x h = ⊎_elim
    (λ e. rw e (sym (bit_half x (count_trailing_zeros n (x / 2))) ∙ member n (x / 2) (let l = rw e at h in omega arith)))
    (λ e. rw e (bit_low x ∙ rw e))
    (even_or_odd x)

left : (n x : ℕ) → count_trailing_zeros n x < n → (k : ℕ) → (bit x k && bit (x - 1) k) ≡ (bit x k && not (eqb k (count_trailing_zeros n x)))
unfolding count_trailing_zeros
left zero x h k = absurd (omega arith)
left (suc n) x h k =
    ⊎_elim (λ e. even (left n (x / 2) (let l = rw e at h in omega arith)) k e) (odd k) (even_or_odd x)
  where
    even : ((j : ℕ) → (bit (x / 2) j && bit (x / 2 - 1) j) ≡ (bit (x / 2) j && not (eqb j (count_trailing_zeros n (x / 2)))))
        → (k : ℕ) → x % 2 ≡ 0 → (bit x k && bit (x - 1) k) ≡ (bit x k && not (eqb k (under (x % 2) (count_trailing_zeros n (x / 2)))))
    even ih zero e = rw (bit_low x, e)
    even ih (suc k) e =
        let half : (x - 1) / 2 ≡ x / 2 - 1 = omega arith in
        rw (e, ← bit_half x, ← bit_half (x - 1), half, eqb-suc-suc) (ih k)

    odd : (k : ℕ) → x % 2 ≡ 1 → (bit x k && bit (x - 1) k) ≡ (bit x k && not (eqb k (under (x % 2) (count_trailing_zeros n (x / 2)))))
    odd zero e = let low : (x - 1) % 2 ≡ 0 = omega arith in rw (e, bit_low (x - 1), low)
    odd (suc k) e =
        let half : (x - 1) / 2 ≡ x / 2 = omega arith in
        rw (e, ← bit_half (x - 1), half, ← bit_half x, eqb-suc-zero) (and_self (bit (x / 2) k) ∙ sym (and-true (bit (x / 2) k)))

-- two words with the same lowest member and the same others are one
same_word : (x y : ℕ) → lowest_of x < 64 → lowest_of x ≡ lowest_of y → others_of x ≡ others_of y → x ≡ y
same_word x y low l o = same_bits x y λ k. elim (ℕ_discrete k (lowest_of x)) [
  | yes e ↦ rw (e, member 64 x low) (sym (rw l (member 64 y (rw (← l) low))))
  | no d ↦ away x k low d ∙ ap (λ (z : ℕ). bit z k) o ∙ sym (away y k (rw (← l) low) (rw (← l) d))
]
  where
    away : (z k : ℕ) → lowest_of z < 64 → (k ≡ lowest_of z → ⊥) → bit z k ≡ bit (others_of z) k
    away z k h d = sym (bit_and_lem z (z - 1) k ∙ left 64 z h k ∙ rw (ne_eqb k (lowest_of z) d, and-true))

others_suc : (x : ℕ) → others_of (suc x) ≡ bit_and (suc x) x
others_suc x = let e : suc x - 1 ≡ x = omega arith in ap (bit_and (suc x)) e

-- so a word is known by the list of its members
none_by : (n : ℕ) → members_by n 0 ≡ []
none_by zero = refl
none_by (suc n) = refl

same_members : (m n x y : ℕ) → x ≤ m → y ≤ n → x < 2 ^ 64 → members_by m x ≡ members_by n y → x ≡ y
same_members m n zero zero a b h e = refl
same_members m zero zero (suc y) a b h e = absurd (omega arith)
same_members m (suc n) zero (suc y) a b h e = absurd (let none = none_by m in cc)
same_members zero n (suc x) y a b h e = absurd (omega arith)
same_members (suc m) n (suc x) zero a b h e = absurd (let none = none_by n in cc)
same_members (suc m) zero (suc x) (suc y) a b h e = absurd (omega arith)
same_members (suc m) (suc n) (suc x) (suc y) a b h e =
    let less : bit_and (suc x) x ≤ x = and_le_r (suc x) x in
    let less' : bit_and (suc y) y ≤ y = and_le_r (suc y) y in
    let first : lowest_of (suc x) ≡ lowest_of (suc y) = cc in
    let rest : members_by m (bit_and (suc x) x) ≡ members_by n (bit_and (suc y) y) = cc in
    same_word (suc x) (suc y) (lowest_lt (suc x) (omega arith) h) first
    (others_suc x ∙ same_members m n (bit_and (suc x) x) (bit_and (suc y) y) (omega arith) (omega arith) (omega arith) rest ∙ sym (others_suc y))

-- ---- what a turn gives

-- x was left, s is given, and y is left then
pub record Turn (x s y : ℕ) : Type 0 where
  pub some : 0 < x
  pub lowest : s ≡ lowest_of x
  pub low : s < 64
  pub others : y ≡ others_of x
  pub fits : y < 2 ^ 64

turned : (x s y : ℕ) → x < 2 ^ 64 → members_of x ≡ s ∷ members_of y → Turn x s y
unfolding members_of
turned zero s y h e = absurd cc
turned (suc x) s y h e =
    let some : 0 < suc x = omega arith in
    let more = members_more (suc x) some in
    let less : others_of (suc x) ≤ x = rw (others_suc x) (and_le_r (suc x) x) in
    let first : s ≡ lowest_of (suc x) = cc in
    let rest : members_of (others_of (suc x)) ≡ members_of y = cc in
    let is : others_of (suc x) ≡ y = same_members _ _ (others_of (suc x)) y (omega arith) (omega arith) (omega arith) rest in
    record { some = some; lowest = first; low = rw first (lowest_lt (suc x) some h); others = sym is; fits = omega arith }

ended : (x : ℕ) → members_of x ≡ [] → x ≡ 0
ended zero e = refl
ended (suc x) e = absurd (let more = members_more (suc x) (omega arith) in cc)

pub member_turn : {x s y : ℕ} → x < 2 ^ 64 → members_of x ≡ s ∷ members_of y → Turn x s y
member_turn = turned _ _ _

-- and at the end nothing is left
pub member_end : {x : ℕ} → members_of x ≡ [] → x ≡ 0
member_end = ended _

-- the number given indexes 64 words; the equation stands first, so that `grind` finds x, s and y
pub turn_low : (x s y : ℕ) → x < 2 ^ 64 → members_of x ≡ s ∷ members_of y → (members_of x ≡ s ∷ members_of y) × (s < 64)
turn_low x s y h e = (e, (turned x s y h e).low)

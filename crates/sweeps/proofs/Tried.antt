-- The scan for moves by an iterator over the states tried: the members that are left are those of a word.
use Rattle.std.proofs.Common.{◌≡◌, refl, sym, ◌∙◌, ℕ, zero, suc, ◌+◌, ◌^◌, ◌<◌, List, [], ◌∷◌, get_or, bit_and, arith}
use Rattle.words.specs.Word.{without_of}
use Rattle.words.specs.Below.{union_below}
use Rattle.words.specs.Lowest.{lowest_of, others_of, lowest_lt}
use Rattle.words.specs.MemberList.{members_of}
use Rattle.words.proofs.MemberLaws.{members_none, members_more}
use Rattle.sweeps.specs.Scan.{Left, Trying, trying_hit, trying_miss, trying_end, left_none}

-- the members of m are those of a word whose members are still to be tried
pub record TryingMembers (next : List ℕ) (target within gone rest m : ℕ) : Type 0 where
  pub tried : ℕ
  pub same : members_of m ≡ members_of tried
  pub trying : Trying next target within gone rest tried

-- a member taken is the lowest, and the others are left
record Lowest (s : ℕ) (others : List ℕ) (tried : ℕ) : Type 0 where
  pub some : 0 < tried
  pub at : s ≡ lowest_of tried
  pub left : others ≡ members_of (others_of tried)

lowest_taken : (tried s : ℕ) (others : List ℕ) → members_of tried ≡ s ∷ others → Lowest s others tried
lowest_taken zero s others e = let none = members_none in absurd (cc)
lowest_taken (suc x) s others e =
    let some : 0 < suc x = omega arith in
    let more = members_more (suc x) some in
    record { some = some; at = cc; left = cc }

none_taken : (tried : ℕ) → members_of tried ≡ [] → tried ≡ 0
none_taken zero e = refl
none_taken (suc x) e = let more = members_more (suc x) (omega arith) in absurd (cc)

module _ (next : List ℕ) (target within gone rest m s n : ℕ) (t : TryingMembers next target within gone rest m) (e : members_of m ≡ s ∷ members_of n) where
  taken : Lowest s (members_of n) t.tried
  taken = lowest_taken t.tried s (members_of n) (sym t.same ∙ e)

  pub member_lt : s < 64
  member_lt = let low = lowest_lt t.tried taken.some t.trying.short in rw taken.at low

  module _ (x : ℕ) (reads : x ≡ get_or next s 0) where
    hit : (one less : ℕ) → (bit_and x target ≡ 0 → ⊥) → one ≡ 2 ^ s → less ≡ without_of rest one → Trying next target within gone less (others_of t.tried)
    hit one less h o d = trying_hit next target within gone rest t.tried taken.some t.trying s x (others_of t.tried) taken.at reads refl one less h o d

    pub member_hit : (one less : ℕ) → (bit_and x target ≡ 0 → ⊥) → one ≡ 2 ^ s → less ≡ without_of rest one → TryingMembers next target within gone less n
    member_hit one less h o d = record { tried = others_of t.tried; same = taken.left; trying = hit one less h o d }

    pub member_miss : bit_and x target ≡ 0 → TryingMembers next target within gone rest n
    member_miss h = record {
      tried = others_of t.tried;
      same = taken.left;
      trying = trying_miss next target within gone rest t.tried taken.some t.trying s x (others_of t.tried) taken.at reads refl h;
    }

-- all tried
pub members_end : (next : List ℕ) (target within gone rest m : ℕ) → TryingMembers next target within gone rest m → members_of m ≡ [] → Left within gone rest
members_end next target within gone rest m t e = trying_end next target within gone rest t.tried (none_taken t.tried (sym t.same ∙ e)) t.trying

-- none left before the last word
pub members_done : (next : List ℕ) (target within : ℕ) (f : ℕ → ℕ) (w n rest m : ℕ) → within < 2 ^ 64 → w < n → rest ≡ 0
    → TryingMembers next target within (union_below (w + 1) f) rest m → without_of within rest ≡ bit_and within (union_below n f)
members_done next target within f w n rest m h l e t = left_none next target within f (w + 1) n rest t.tried h (omega arith) e t.trying

-- The members of a set are its lowest and those of the others.
use Rattle.std.proofs.Common.{◌≡◌, refl, sym, ap, ◌∙◌, ℕ, zero, suc, ◌-◌, ◌<◌, ◌≤◌, ◌^◌, [], ◌∷◌, fold, subst, arith, bit_and}
use Rattle.std.proofs.lemmas.Nat.{and_le_r}
use Rattle.words.specs.Lowest.{lowest_of, others_of}
use Rattle.words.specs.MemberList.{members_by, members_of}

none_by : (n : ℕ) → members_by n 0 ≡ []
none_by zero = refl
none_by (suc n) = refl

-- more turns than members give no more
enough : (m n x : ℕ) → x ≤ m → x ≤ n → members_by m x ≡ members_by n x
enough zero n zero a b = sym (none_by n)
enough (suc m) n zero a b = sym (none_by n)
enough zero n (suc x) a b = absurd (omega arith)
enough (suc m) zero (suc x) a b = absurd (omega arith)
enough (suc m) (suc n) (suc x) a b =
    let less : bit_and (suc x) x ≤ x = and_le_r (suc x) x in
    ap (λ l. lowest_of (suc x) ∷ l) (enough m n (bit_and (suc x) x) (omega (arith, less)) (omega (arith, less)))

pub members_none : members_of 0 ≡ []
unfolding members_of
members_none = refl

next_of : (x : ℕ) → members_of (suc x) ≡ lowest_of (suc x) ∷ members_of (bit_and (suc x) x)
unfolding members_of
next_of x =
    let less : bit_and (suc x) x ≤ x = and_le_r (suc x) x in
    ap (λ l. lowest_of (suc x) ∷ l) (enough x (bit_and (suc x) x) (bit_and (suc x) x) (omega (arith, less)) (omega arith))

pub members_more : (x : ℕ) → 0 < x → members_of x ≡ lowest_of x ∷ members_of (others_of x)
members_more zero p = absurd (omega arith)
members_more (suc x) p = let e : suc x - 1 ≡ x = omega arith in rw e (next_of x)

-- a fold over the members is `after`, where a set without members changes nothing and the lowest is one step
module _ {A : Type 0} (step : A → ℕ → A) (after : A → ℕ → A) (none : (a : A) → after a 0 ≡ a)
    (more : (a : A) (x : ℕ) → 0 < x → x < 2 ^ 64 → after (step a (lowest_of x)) (others_of x) ≡ after a x) where
  turns : (n x : ℕ) (a : A) → x ≤ n → x < 2 ^ 64 → fold step a (members_by n x) ≡ after a x
  turns zero zero a h b = sym (none a)
  turns zero (suc x) a h b = absurd (omega arith)
  turns (suc n) zero a h b = sym (none a)
  turns (suc n) (suc x) a h b =
      let less : bit_and (suc x) x ≤ x = and_le_r (suc x) x in
      let e : suc x - 1 ≡ x = omega arith in
      turns n (bit_and (suc x) x) (step a (lowest_of (suc x))) (omega (arith, less)) (omega (arith, less))
      ∙ subst (λ (p : ℕ). after (step a (lowest_of (suc x))) (bit_and (suc x) p) ≡ after a (suc x)) e (more a (suc x) (omega arith) b)

  pub fold_members : (a : A) (x : ℕ) → x < 2 ^ 64 → fold step a (members_of x) ≡ after a x
  unfolding members_of
  fold_members a x b = turns x x a (omega arith) b

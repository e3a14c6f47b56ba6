-- A rule without propositions is never inconclusive: it holds everywhere or nowhere.
use Rattle.std.specs.Prelude.{ℕ, suc, refl, ◌⊎◌}
use Rattle.std.proofs.Common.{le_refl, arith, inl, inr, ⊎_elim}
use Rattle.std.proofs.Math.Logic.{⊎_map}
use Rattle.meaning.specs.Formula.{Formula, never, always, prop, neg, next, finally, globally, until, release, and, or, implies, Word, Holds}
use Rattle.meaning.specs.Run.{Plant}
use Rattle.meaning.specs.Event.{History}
use Rattle.meaning.specs.Verdict.{Right}
use Rattle.within.specs.Seen.{Uses}

-- some proposition occurs in the rule
abbrev pub UsesSome : Formula → Type 0
UsesSome f = (p : ℕ) × Uses p f

-- or none does
abbrev Plain : Formula → Type 0
Plain f = (p : ℕ) → Uses p f → ⊥

both : (a b : Formula) → UsesSome a ⊎ Plain a → UsesSome b ⊎ Plain b → ((p : ℕ) × (Uses p a ⊎ Uses p b)) ⊎ ((p : ℕ) → Uses p a ⊎ Uses p b → ⊥)
both a b (inl (p, u)) y = inl (p, inl u)
both a b (inr x) (inl (p, u)) = inl (p, inr u)
both a b (inr x) (inr y) = inr (λ p. ⊎_elim (x p) (y p))

some_or_none : (f : Formula) → UsesSome f ⊎ Plain f
unfolding Uses
some_or_none never = inr (λ p u. u)
some_or_none always = inr (λ p u. u)
some_or_none (prop k) = inl (k, refl)
some_or_none (neg a) = some_or_none a
some_or_none (next a) = some_or_none a
some_or_none (finally a) = some_or_none a
some_or_none (globally a) = some_or_none a
some_or_none (until a b) = both a b (some_or_none a) (some_or_none b)
some_or_none (release a b) = both a b (some_or_none a) (some_or_none b)
some_or_none (and a b) = both a b (some_or_none a) (some_or_none b)
some_or_none (or a b) = both a b (some_or_none a) (some_or_none b)
some_or_none (implies a b) = both a b (some_or_none a) (some_or_none b)

-- a rule without propositions holds at one position of one word if it does at another of another
abbrev Anywhere : Formula → Type 0
Anywhere f = (w w' : Word) (i j : ℕ) → Holds w f i → Holds w' f j

anywhere : (f : Formula) → Plain f → Anywhere f
unfolding Uses Holds
anywhere never u w w' i j h = h
anywhere always u w w' i j h = h
anywhere (prop k) u w w' i j h = absurd (u k refl)
anywhere (neg a) u w w' i j h = λ g. h (anywhere a u w' w j i g)
anywhere (next a) u w w' i j h = anywhere a u w w' (suc i) (suc j) h
anywhere (finally a) u w w' i j (k, le, h) = (j, le_refl j, anywhere a u w w' k j h)
anywhere (globally a) u w w' i j h = λ k le. anywhere a u w w' i k (h i (le_refl i))
anywhere (until a b) u w w' i j (k, le, h, g) = (j, le_refl j, anywhere b (λ p x. u p (inr x)) w w' k j h, λ m from to. absurd (omega arith))
anywhere (release a b) u w w' i j h =
    λ k le. ⊎_elim (λ x. inl (anywhere b (λ p x. u p (inr x)) w w' i k x)) (λ (m, from, to, x). absurd (omega arith)) (h i (le_refl i))
anywhere (and a b) u w w' i j (h, g) = (anywhere a (λ p x. u p (inl x)) w w' i j h, anywhere b (λ p x. u p (inr x)) w w' i j g)
anywhere (or a b) u w w' i j h = ⊎_map (anywhere a (λ p x. u p (inl x)) w w' i j) (anywhere b (λ p x. u p (inr x)) w w' i j) h
anywhere (implies a b) u w w' i j h = λ g. anywhere b (λ p x. u p (inr x)) w w' i j (h (anywhere a (λ p x. u p (inl x)) w' w j i g))

-- A RULE THAT IS INCONCLUSIVE SPEAKS OF SOME PROPOSITION
pub uses_some : (T : Plant) (f : Formula) (h : History) → Right T f h 0 → UsesSome f
uses_some T f h right = ⊎_elim (λ x. x) (λ u. absurd (clash u)) (some_or_none f)
  where
    clash : Plain f → ⊥
    clash u =
        let (keeping, breaking) = right.inconclusive.0 refl in
        breaking.1.judged (anywhere f u _ _ _ _ keeping.1.judged)

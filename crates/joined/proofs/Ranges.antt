-- What the library's `find` and `all` over the numbers below n give, in the words of Below. The closure changes nothing and tests P.
use Rattle.std.proofs.Common.{◌≡◌, refl, sym, ◌∙◌, ℕ, ◌+◌, ◌<◌, ◌≤◌, List, length, Bool, true, false, Bor, Option, None, Some, arith, zero-add}
use Rattle.std.proofs.lemmas.Bool.{false≢true}
use Rattle.std.proofs.lemmas.Iterator.{first_from_Range, cases_from_all, YieldsList-from_range}
use Rattle.std.proofs.lemmas.List.FromFn.{length-range_with_len, get_or-range_with_len}
use Rattle.std.proofs.iter.Yields.{nat_range_steps}
use Rattle.std.specs.Bool.{⊤, MatchBool}
use Rattle.std.specs.Fn.{Called, CalledAt}
use Rattle.std.specs.Iterator.{YieldsThen}
use Rattle.std.specs.List.{range_with_len, FoldsTo, AllWithin, HoldsAt}
use Rattle.std.specs.Option.{MatchOption, unwrap_or}
use Rattle.std.specs.declared.ops.Range.{Range}
use denote.Param.Members.{Mut}
use Rattle.words.specs.Below.{all_below, first_below}
use Rattle.words.specs.Folds.{all_of}
use Rattle.machines.specs.First.{first_is, first_one, all_fails}

-- the first of them
told_first : (n : ℕ) (P : ℕ → Bool) (r : Option ℕ)
    → MatchOption r ((k : ℕ) → 0 ≤ k → k < n → P k ≡ false) (λ i. (0 ≤ i) × (i < n) × (P i ≡ true) × ((k : ℕ) → 0 ≤ k → k < i → P k ≡ false))
    → (unwrap_or r n ≡ first_below n P) × (unwrap_or r n ≤ n)
told_first n P None none = (first_one (record { bound = omega arith; found = λ l. absurd (omega arith); before = λ k l s. false≢true (sym (none k (omega arith) l) ∙ s) }) (first_is n P), omega arith)
told_first n P (Some i) (low, in', here, before) = (first_one (record { bound = omega (arith, in'); found = λ l. here; before = λ k l s. false≢true (sym (before k (omega arith) l) ∙ s) }) (first_is n P), omega (arith, in'))

pub first_found_by : {F : Type 0} {g : Mut F (Bor ℕ × Unit {0}) Bool} (n : ℕ) (u : Range ℕ) (f : F) (r : Option ℕ) {x : ℕ} (P : ℕ → Bool)
    → (xs : List ℕ) × (j : F) × YieldsThen nat_range_steps (record { start = 0; end = n }) xs r u × FoldsTo (λ p x q. CalledAt g p x false q) f xs j × MatchOption r ⊤ (λ x. (h : F) × CalledAt g j x true h)
    → ((k : ℕ) (b : Bool) (q : F) → CalledAt g f k b q → (b ≡ P k) × (q ≡ f)) → x ≡ unwrap_or r n → (x ≡ first_below n P) × (x ≤ n)
first_found_by n u f r P ran step e = rw e (told_first n P r (first_from_Range _ _ _ _ (λ k. P k ≡ true) (λ k. P k ≡ false) ran
    (λ k q call. sym (step k true q call).0) (λ k q call. ((step k false q call).1, sym (step k false q call).0))))

-- and whether all pass
told_all : (n : ℕ) (P : ℕ → Bool) (r : Bool)
    → MatchBool r (AllWithin (λ k. P k ≡ true) (range_with_len 0 n) 0 (length (range_with_len 0 n))) ((k : ℕ) × (k < length (range_with_len 0 n)) × HoldsAt (λ k. P k ≡ false) (range_with_len 0 n) k)
    → r ≡ all_below n P
told_all n P true all = sym (all_of n P (λ k l. let here : P (0 + k) ≡ true = rw (get_or-range_with_len 0 n k 0 l) at (all k 0 (omega arith) (omega (arith, length-range_with_len 0 n))) in rw zero-add at here))
told_all n P false (k, l, fails) = let l' : k < n = omega (arith, length-range_with_len 0 n) in sym (all_fails n P k l' (rw (get_or-range_with_len 0 n k 0 l', zero-add) at (fails 0)))

pub all_found_by : {F : Type 0} {g : Mut F (ℕ × Unit {0}) Bool} (n : ℕ) (u : Range ℕ) (f : F) (r : Bool) (P : ℕ → Bool)
    → (xs : List ℕ) × (o : Option ℕ) × (j : F) × YieldsThen nat_range_steps (record { start = 0; end = n }) xs o u × FoldsTo (λ p x q. Called g p (x, tt) true q) f xs j × MatchOption o (r ≡ true) (λ x. (r ≡ false) × ((h : F) × Called g j (x, tt) false h))
    → ((k : ℕ) (b : Bool) (q : F) → Called g f (k, tt) b q → (b ≡ P k) × (q ≡ f)) → r ≡ all_below n P
all_found_by n u f r P ran step = told_all n P r (cases_from_all _ _ _ (λ k. P k ≡ true) (λ k. P k ≡ false) ran (YieldsList-from_range 0 n n refl (omega arith))
    (λ k q call. ((step k true q call).1, sym (step k true q call).0)) (λ k q call. sym (step k false q call).0))

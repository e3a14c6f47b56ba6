-- A search among the first n numbers of a list.
use Rattle.std.proofs.Common.{◌≡◌, refl, sym, ap, ◌∙◌, ℕ, zero, suc, ◌<◌, ◌≤◌, List, length, take, get_or, arith, Bool, true, false, not, Option, position, lt-ltb, le-ltb, length-take-le}
use Rattle.std.specs.List.{position_or_len}
use Rattle.std.specs.Option.{unwrap_or}
use Rattle.std.proofs.lemmas.List.{get_or-take}
use Rattle.std.proofs.lemmas.List.Sums.{prefix_len-le-length, prefix_len_passes, prefix_len_stops}
use Rattle.std.proofs.Math.Decide.{dec_lt}
use Rattle.words.specs.Below.{any_below, first_below}
use Rattle.words.specs.Folds.{first_none, first_found}

none_below : (P : ℕ → Bool) (n : ℕ) → ((k : ℕ) → k < n → P k ≡ false) → any_below n P ≡ false
unfolding any_below
none_below P zero h = refl
none_below P (suc n) h = rw (none_below P n (λ k b. h k (omega arith)), h n (omega arith))

not_of : (b c : Bool) → not b ≡ c → b ≡ not c
not_of true c e = rw (← e)
not_of false c e = rw (← e)

module _ (p : ℕ → Bool) (xs : List ℕ) (n : ℕ) (few : n ≤ length xs) where
  abbrev at : ℕ
  at = position_or_len p (take n xs)

  long : length (take n xs) ≡ n
  long = length-take-le n xs few

  passed : (k : ℕ) → k < at → p (get_or xs k 0) ≡ false
  passed k h =
      let le : at ≤ n = omega (arith, prefix_len-le-length (λ x. not (p x)) (take n xs), long) in
      ap p (sym (get_or-take n xs k 0 (omega arith))) ∙ not_of _ true (prefix_len_passes (λ x. not (p x)) (take n xs) k 0 h)

  hit : at < n → p (get_or xs at 0) ≡ true
  hit h = ap p (sym (get_or-take n xs at 0 h)) ∙ not_of _ false (prefix_len_stops (λ x. not (p x)) (take n xs) 0 (omega (arith, long)))

  pub found_first : (r : Option ℕ) → r ≡ position p (take n xs) → unwrap_or r n ≡ first_below n (λ k. p (get_or xs k 0))
  found_first r e = elim (dec_lt at n) [
    | yes h ↦ rw (e, long, lt-ltb at n h) (sym (first_found n (λ k. p (get_or xs k 0)) at h (none_below _ at passed) (hit h)))
    | no h ↦ rw (e, long, le-ltb at n (omega arith)) (sym (first_none n (λ k. p (get_or xs k 0)) (none_below _ n (λ k b. passed k (omega arith)))))
  ]

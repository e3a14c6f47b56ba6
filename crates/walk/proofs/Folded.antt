-- What the folds of rests.rt gather, in the words of Below.
use Rattle.std.proofs.Common.{◌≡◌, refl, sym, ap, ◌∙◌, ℕ, zero, suc, ◌+◌, ◌-◌, ◌*◌, ◌^◌, ◌≤◌, List, length, take, drop, get_or, fold, bit_and, bit_or, arith, add-one, length-take-le, length-drop}
use Rattle.std.proofs.Math.Seq.{take-length}
use Rattle.std.proofs.lemmas.List.Sums.{fold_more}
use Rattle.std.proofs.lemmas.List.{get_or-take, get_or-drop}
use Rattle.std.proofs.lemmas.List.FromFn.{length-range_with_len, get_or-range_with_len}
use Rattle.std.specs.List.{range_with_len, slice_range}
use Rattle.words.specs.Below.{union_below, shared_below}
use Rattle.words.specs.Unions.{shared_same}
use Rattle.moves.specs.Fit.{entry}
use Rattle.walk.specs.Rests.{stays_of, fair_of, settles_of}

shared_taken : (x : ℕ) (sets : List ℕ) (n : ℕ) → n ≤ length sets → fold bit_and x (take n sets) ≡ shared_below x n (λ k. get_or sets k 0)
unfolding shared_below
shared_taken x sets zero h = refl
shared_taken x sets (suc n) h = rw (← add-one, fold_more bit_and x sets n 0 (omega arith), shared_taken x sets n (omega arith)) refl

-- a fold over all sets is what they share
shared_by_fold : (x : ℕ) (sets : List ℕ) (n : ℕ) → length sets ≡ n → fold bit_and x sets ≡ shared_below x n (λ k. get_or sets k 0)
shared_by_fold x sets n e = ap (fold bit_and x) (sym (take-length sets)) ∙ rw e (shared_taken x sets n (omega (arith, e)))

pub fair_by_fold : (fair : List ℕ) → fold bit_and (2 ^ 64 - 1) fair ≡ fair_of fair
unfolding fair_of
fair_by_fold fair = shared_by_fold (2 ^ 64 - 1) fair (length fair) refl

-- a fold over a row's first entries is what these share
pub settles_by_fold : (settled : List ℕ) (parts v : ℕ) → v * 6 + parts ≤ length settled
    → fold bit_and (2 ^ 64 - 1) (slice_range settled (v * 6) (v * 6 + parts)) ≡ settles_of settled parts v
unfolding settles_of
settles_by_fold settled parts v h =
    let room : parts ≤ length (drop (v * 6) settled) = omega (arith, length-drop (v * 6) settled) in
    let n : v * 6 + parts - v * 6 ≡ parts = omega arith in
    rw n (shared_by_fold (2 ^ 64 - 1) (take parts (drop (v * 6) settled)) parts (length-take-le parts (drop (v * 6) settled) room)
    ∙ shared_same (2 ^ 64 - 1) parts _ (entry settled v) (λ k l. get_or-take parts (drop (v * 6) settled) k 0 l ∙ get_or-drop (v * 6) settled k 0))

-- a fold over the first numbers is the union of what is put in at each
range_taken : (f : ℕ → ℕ) (n m : ℕ) → m ≤ n → fold (λ r s. bit_or r (f s)) 0 (take m (range_with_len 0 n)) ≡ union_below m f
unfolding union_below
range_taken f n zero h = refl
range_taken f n (suc m) h =
    let at : get_or (range_with_len 0 n) m 0 ≡ m = get_or-range_with_len 0 n m 0 (omega arith) ∙ omega arith in
    rw (← add-one, fold_more (λ r s. bit_or r (f s)) 0 (range_with_len 0 n) m 0 (omega (arith, length-range_with_len 0 n)), at, range_taken f n m (omega arith)) refl

union_by_range : (f : ℕ → ℕ) (n : ℕ) → fold (λ r s. bit_or r (f s)) 0 (range_with_len 0 n) ≡ union_below n f
union_by_range f n =
    ap (fold (λ r s. bit_or r (f s)) 0) (sym (take-length (range_with_len 0 n))) ∙ rw (length-range_with_len 0 n) (range_taken f n n (omega arith))

pub stays_by_fold : (next : List ℕ) → fold (λ r s. bit_or r (bit_and (get_or next s 0) (2 ^ s))) 0 (range_with_len 0 64) ≡ stays_of next
unfolding stays_of
stays_by_fold next = union_by_range (λ s. bit_and (get_or next s 0) (2 ^ s)) 64

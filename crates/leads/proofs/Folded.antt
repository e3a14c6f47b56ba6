-- A fold over a range, and over the words from the first on, in the words of Below.
use Rattle.std.proofs.Common.{◌≡◌, refl, sym, ap, ap₂, ◌∙◌, ℕ, zero, suc, ◌+◌, ◌<◌, ◌≤◌, List, [], ◌∷◌, length, take, get_or, fold, bit_and, bit_or, arith, length-take-le}
use Rattle.std.proofs.lemmas.List.{get_or-take}
use Rattle.std.specs.List.{range_with_len, enumerate_from}
use Rattle.words.specs.Below.{shared_below, union_below}
use Rattle.words.specs.Unions.{shared_more, union_more}

-- from any turn on
shared_from : (x first : ℕ) (f : ℕ → ℕ) (i n r : ℕ) → r ≡ shared_below x i (λ j. f (first + j))
    → fold (λ (s k : ℕ). bit_and s (f k)) r (range_with_len (first + i) n) ≡ shared_below x (i + n) (λ j. f (first + j))
shared_from x first f i zero r e = e ∙ ap (λ (m : ℕ). shared_below x m (λ j. f (first + j))) (let z : i ≡ i + 0 = omega arith in z)
shared_from x first f i (suc n) r e =
    ap (λ (a : ℕ). fold (λ (s k : ℕ). bit_and s (f k)) (bit_and r (f (first + i))) (range_with_len a n)) (let z : first + i + 1 ≡ first + (i + 1) = omega arith in z)
    ∙ shared_from x first f (i + 1) n (bit_and r (f (first + i))) (ap (λ (s : ℕ). bit_and s (f (first + i))) e ∙ sym (shared_more x i (λ j. f (first + j))))
    ∙ ap (λ (m : ℕ). shared_below x m (λ j. f (first + j))) (let z : i + 1 + n ≡ i + suc n = omega arith in z)

pub shared_by_fold : (x first n : ℕ) (f : ℕ → ℕ) → fold (λ (s k : ℕ). bit_and s (f k)) x (range_with_len first n) ≡ shared_below x n (λ j. f (first + j))
unfolding shared_below
shared_by_fold x first n f =
    ap (λ (a : ℕ). fold (λ (s k : ℕ). bit_and s (f k)) x (range_with_len a n)) (let z : first ≡ first + 0 = omega arith in z)
    ∙ shared_from x first f 0 n x refl ∙ ap (λ (m : ℕ). shared_below x m (λ j. f (first + j))) (let z : 0 + n ≡ n = omega arith in z)

-- from any number on
union_range : (f : ℕ → ℕ) (i n r : ℕ) → r ≡ union_below i f → fold (λ (s k : ℕ). bit_or s (f k)) r (range_with_len i n) ≡ union_below (i + n) f
union_range f i zero r e = e ∙ ap (λ (m : ℕ). union_below m f) (let z : i ≡ i + 0 = omega arith in z)
union_range f i (suc n) r e =
    union_range f (i + 1) n (bit_or r (f i)) (ap (λ (s : ℕ). bit_or s (f i)) e ∙ sym (union_more i f))
    ∙ ap (λ (m : ℕ). union_below m f) (let z : i + 1 + n ≡ i + suc n = omega arith in z)

pub union_by_range : (f : ℕ → ℕ) (n : ℕ) → fold (λ (s k : ℕ). bit_or s (f k)) 0 (range_with_len 0 n) ≡ union_below n f
unfolding union_below
union_by_range f n = union_range f 0 n 0 refl ∙ ap (λ (m : ℕ). union_below m f) (let z : 0 + n ≡ n = omega arith in z)

-- each word with its place
module _ (f : ℕ → ℕ → ℕ) (old : List ℕ) where
  abbrev at : ℕ → ℕ
  at v = f v (get_or old v 0)

  -- the words xs stand from i on
  union_from : (i r : ℕ) (xs : List ℕ) → r ≡ union_below i at → ((k : ℕ) → k < length xs → get_or xs k 0 ≡ get_or old (i + k) 0)
      → fold (λ (s : ℕ) (x : ℕ × ℕ). bit_or s (f x.0 x.1)) r (enumerate_from i xs) ≡ union_below (i + length xs) at
  union_from i r [] e h = e ∙ ap (λ (m : ℕ). union_below m at) (let z : i ≡ i + 0 = omega arith in z)
  union_from i r (x ∷ xs) e h =
      let here : x ≡ get_or old i 0 = h 0 (omega arith) ∙ ap (λ (k : ℕ). get_or old k 0) (let z : i + 0 ≡ i = omega arith in z) in
      union_from (i + 1) (bit_or r (f i x)) xs
      (ap₂ (λ (s y : ℕ). bit_or s (f i y)) e here ∙ sym (union_more i at))
      (λ k l. h (suc k) (omega arith) ∙ ap (λ (j : ℕ). get_or old j 0) (let z : i + suc k ≡ i + 1 + k = omega arith in z))
      ∙ ap (λ (m : ℕ). union_below m at) (let z : i + 1 + length xs ≡ i + suc (length xs) = omega arith in z)

  pub union_by_places : (n : ℕ) → n ≤ length old → fold (λ (s : ℕ) (x : ℕ × ℕ). bit_or s (f x.0 x.1)) 0 (enumerate_from 0 (take n old)) ≡ union_below n at
  unfolding union_below
  union_by_places n h =
      let long : length (take n old) ≡ n = length-take-le n old h in
      union_from 0 0 (take n old) refl (λ k l. get_or-take n old k 0 (omega (arith, long)) ∙ ap (λ (j : ℕ). get_or old j 0) (let z : k ≡ 0 + k = omega arith in z))
      ∙ ap (λ (m : ℕ). union_below m at) (let z : 0 + length (take n old) ≡ n = omega (arith, long) in z)

-- What the library's fold and `all`, and an array made by a closure, give in the words of Below.
use Rattle.std.proofs.Common.{lt-ltb, ◌-◌, ◌++◌, drop, get_or-drop, rules, le-ltb, length-take-le, ◌≡◌, refl, sym, ap, ◌∙◌, ℕ, zero, suc, ◌+◌, ◌<◌, ◌≤◌, Bool, true, false, ◌&&◌, List, [], ◌∷◌, length, take, get_or, fold, bit_or, subst, arith, add-one}
use Rattle.std.proofs.Math.Decide.{ℕ_discrete, dec_lt}
use Rattle.std.proofs.Math.ListN.{get_or-append}
use Rattle.std.proofs.lemmas.List.{places, get_or-append_right}
use borrow.Rule.Slice.PartMut.{put_mid, post_of}
use Rattle.std.proofs.Math.Arith.{lt_of_le-ne}
use Rattle.std.proofs.Math.Bool.{and_assoc}
use Rattle.std.proofs.Math.Seq.{take-length}
use Rattle.std.proofs.lemmas.List.Sums.{fold_more}
use Rattle.std.proofs.lemmas.List.FromFn.{length-enumerate_from, get_or-enumerate_from}
use Rattle.std.specs.Array.{IsFromFnResult, IsFromFnResultFrom}
use Rattle.std.specs.Fn.{Called}
use Rattle.std.specs.List.{list_all, enumerate_from}
use denote.Param.Members.{Mut}
use Rattle.words.specs.Below.{all_below, union_below, list_below, filled, words_below}
use Rattle.words.specs.Folds.{all_same}
use Rattle.words.specs.Lists.{filled_all, of_list, list_at, list_of, length_list}
use Rattle.words.specs.Spliced.{spliced_at}

union_taken : (xs : List ℕ) (n : ℕ) → n ≤ length xs → fold bit_or 0 (take n xs) ≡ union_below n (λ v. get_or xs v 0)
unfolding union_below
union_taken xs zero h = refl
union_taken xs (suc n) h = rw (← add-one, fold_more bit_or 0 xs n 0 (omega arith), union_taken xs n (omega arith)) refl

-- a fold over all words is their union
pub union_by_fold : (xs : List ℕ) (n : ℕ) → length xs ≡ n → fold bit_or 0 xs ≡ union_below n (λ v. get_or xs v 0)
union_by_fold xs n e = ap (fold bit_or 0) (sym (take-length xs)) ∙ rw e (union_taken xs n (omega (arith, e)))

-- an array made by a closure that changes nothing: each entry is what the call at its place gives
module _ {A F : Type 0} (g : Mut F (ℕ × Unit {0}) A) (f : F) (v : ℕ → A) (d : A) (step : (k : ℕ) (y : A) (q : F) → Called g f (k, tt) y q → (y ≡ v k) × (q ≡ f)) where
  made_from : (ys : List A) (i n : ℕ) → IsFromFnResultFrom g f ys i n → (k : ℕ) → i ≤ k → k < i + n → get_or ys k d ≡ v k
  made_from ys i zero all k lo hi = absurd (omega arith)
  made_from ys i (suc n) (q, y, here, call, rest) k lo hi =
      let s = step i y q call in
      elim (ℕ_discrete i k) [
        | yes e ↦ rw (← e) (here.1 d ∙ s.0)
        | no n' ↦ made_from ys (i + 1) n (subst (λ p. IsFromFnResultFrom g p ys (i + 1) n) s.1 rest) k (omega (arith, lt_of_le-ne lo n')) (omega arith)
      ]

  pub list_made : (m : ℕ) (ys : List A) → IsFromFnResult g f ys m → ys ≡ list_below m v
  list_made m ys r = sym (of_list d m v ys r.long (λ k h. sym (made_from ys 0 m r.each k (omega arith) (omega arith))))

-- the same of numbers
module _ {F : Type 0} (g : Mut F (ℕ × Unit {0}) ℕ) (f : F) (v : ℕ → ℕ) (step : (k y : ℕ) (q : F) → Called g f (k, tt) y q → (y ≡ v k) × (q ≡ f)) where
  pub filled_made : (m : ℕ) (ys : List ℕ) → IsFromFnResult g f ys m → ys ≡ filled m m v
  filled_made m ys r = list_made g f v 0 step m ys r ∙ sym (filled_all m v)

  pub words_made : (ys : List ℕ) → IsFromFnResult g f ys 64 → ys ≡ words_below 64 v
  unfolding words_below
  words_made ys r = filled_made 64 ys r

-- the first of so many tests
first_of_all : (n : ℕ) (P : ℕ → Bool) → all_below (suc n) P ≡ (P 0 && all_below n (λ k. P (suc k)))
unfolding all_below
first_of_all zero P = by (P 0)
  where
    by : (b : Bool) → (true && b) ≡ (b && true)
    by true = refl
    by false = refl
first_of_all (suc n) P = ap (λ (b : Bool). b && P (suc n)) (first_of_all n P) ∙ and_assoc (P 0) (all_below n (λ k. P (suc k))) (P (suc n))

-- a test of each entry of a list
pub all_listed : {A : Type 0} (t : A → Bool) (d : A) (xs : List A) → list_all t xs ≡ all_below (length xs) (λ k. t (get_or xs k d))
unfolding all_below
all_listed t d [] = refl
all_listed t d (x ∷ xs) = ap (λ (b : Bool). t x && b) (all_listed t d xs) ∙ sym (first_of_all (length xs) (λ k. t (get_or (x ∷ xs) k d)))

-- and of each entry with its place
pub all_numbered : {A : Type 0} (t : ℕ → A → Bool) (d : A) (xs : List A) → list_all (λ p. t p.0 p.1) (enumerate_from 0 xs) ≡ all_below (length xs) (λ k. t k (get_or xs k d))
all_numbered {A} t d xs =
    all_listed (λ (p : ℕ × A). t p.0 p.1) (0, d) (enumerate_from 0 xs)
    ∙ ap (λ n. all_below n (λ k. t (get_or (enumerate_from 0 xs) k (0, d)).0 (get_or (enumerate_from 0 xs) k (0, d)).1)) (length-enumerate_from 0 xs)
    ∙ all_same (length xs) _ _
    (λ k h. let z : 0 + k ≡ k = omega arith in ap (λ (p : ℕ × A). t p.0 p.1) (get_or-enumerate_from 0 xs k (0, d) h) ∙ ap (λ i. t i (get_or xs k d)) z)

-- entries laid over those of a list, from a place on
pub laid_over : (w ys : List ℕ) (b n m : ℕ) (f : ℕ → ℕ) → length w ≡ m → b + n ≤ m → ys ≡ list_below n f → put_mid b n w ys ≡ list_below m (spliced_at w b f n)
laid_over w ys b n m f full h is = sym (list_of m (spliced_at w b f n) (put_mid b n w ys) long (λ p l. sym (at p l)))
  where
    width : length ys ≡ n
    width = ap length is ∙ length_list n f

    long : length (put_mid b n w ys) ≡ m
    long = search (rules, places, width)

    at : (p : ℕ) → p < m → get_or (put_mid b n w ys) p 0 ≡ spliced_at w b f n p
    at p l = elim (dec_lt p b) [
      | yes low ↦ rw (lt-ltb p b low) (search (rules, places))
      | no high ↦ elim (dec_lt p (b + n)) [
        | yes low ↦
            rw (le-ltb p b (omega arith), lt-ltb p (b + n) low)
            (get_or-append_right (take b w) (ys ++ post_of b n w) b p 0 (length-take-le b w (omega arith)) (omega arith)
            ∙ get_or-append ys (post_of b n w) 0 (p - b) (omega (arith, width)) ∙ ap (λ k. get_or k (p - b) 0) is ∙ list_at n f (p - b) (omega arith))
        | no far ↦
            let back : b + (n + (p - b - n)) ≡ p = omega arith in
            rw (le-ltb p b (omega arith), le-ltb p (b + n) (omega arith))
            (get_or-append_right (take b w) (ys ++ post_of b n w) b p 0 (length-take-le b w (omega arith)) (omega arith)
            ∙ get_or-append_right ys (post_of b n w) n (p - b) 0 width (omega arith) ∙ get_or-drop n (drop b w) (p - b - n) 0 ∙ get_or-drop b w (n + (p - b - n)) 0
            ∙ ap (λ k. get_or w k 0) back)
      ]
    ]

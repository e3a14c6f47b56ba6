-- What the library's iterators give, in the words of Below: `all` over the numbers below n and over a list, `any` over a list without its front, and the last restart's position by a fold.
use Rattle.std.specs.Prelude.{ℕ, zero, suc, ◌+◌, ◌≤◌, ◌≡◌, refl, Bool, ◌&&◌, ◌||◌, List, [], ◌∷◌, ◌++◌, leb, length, get_or, take, drop}
use Rattle.std.specs.List.{list_all, list_any, range_with_len}
use Rattle.std.proofs.Common.{sym, ap, ◌∙◌, arith, add-one, length-take-le, take-suc, fold}
use Rattle.std.proofs.Math.Bool.{and-true, or-false, and_assoc}
use Rattle.std.proofs.Math.Decide.{dec_lt}
use Rattle.std.proofs.Math.Seq.{take-length}
use Rattle.std.proofs.lemmas.Bool.{lt-leb}
use Rattle.std.proofs.lemmas.List.{drop_all}
use Rattle.std.proofs.lemmas.List.Folds.{list_all-append, list_any-append}
use borrow.Author.Tests.{le-leb}
use Rattle.words.specs.Below.{all_below, any_below}
use Rattle.event_log.specs.declared.Event.{Event}
use Rattle.shown.specs.Positions.{later_of, position_at, mark_of}

-- ---- all

all_from : (P : ℕ → Bool) (i n : ℕ) → (all_below i P && list_all P (range_with_len i n)) ≡ all_below (i + n) P
unfolding all_below
all_from P i zero = and-true (all_below i P) ∙ ap (λ (m : ℕ). all_below m P) (let z : i ≡ i + 0 = omega arith in z)
all_from P i (suc n) =
    sym (and_assoc (all_below i P) (P i) (list_all P (range_with_len (i + 1) n)))
    ∙ ap (λ b. b && list_all P (range_with_len (i + 1) n)) (ap (λ (m : ℕ). all_below m P) (sym (add-one i)))
    ∙ all_from P (i + 1) n ∙ ap (λ (m : ℕ). all_below m P) (let z : i + 1 + n ≡ i + suc n = omega arith in z)

pub all_range : (n : ℕ) (P : ℕ → Bool) → list_all P (range_with_len 0 n) ≡ all_below n P
unfolding all_below
all_range n P = all_from P 0 n ∙ ap (λ (m : ℕ). all_below m P) (let z : 0 + n ≡ n = omega arith in z)

all_taken : (p : ℕ → Bool) (xs : List ℕ) (n : ℕ) → n ≤ length xs → list_all p (take n xs) ≡ all_below n (λ j. p (get_or xs j 0))
unfolding all_below
all_taken p xs zero h = refl
all_taken p xs (suc n) h =
    ap (list_all p) (take-suc xs n 0 (omega arith)) ∙ list_all-append p (take n xs) (get_or xs n 0 ∷ [])
    ∙ ap (λ b. list_all p (take n xs) && b) (and-true (p (get_or xs n 0))) ∙ ap (λ b. b && p (get_or xs n 0)) (all_taken p xs n (omega arith))

pub all_list : (p : ℕ → Bool) (xs : List ℕ) → list_all p xs ≡ all_below (length xs) (λ j. p (get_or xs j 0))
all_list p xs = ap (list_all p) (sym (take-length xs)) ∙ all_taken p xs (length xs) (omega arith)

-- ---- any

pushed : (s : ℕ) (xs : List ℕ) (x : ℕ) → s ≤ length xs → drop s (xs ++ x ∷ []) ≡ drop s xs ++ x ∷ []
pushed zero xs x h = refl
pushed (suc s) [] x h = absurd (omega arith)
pushed (suc s) (y ∷ xs) x h = pushed s xs x (omega arith)

module _ (p : ℕ → Bool) (s : ℕ) (xs : List ℕ) where
  abbrev here : ℕ → Bool
  here i = leb s i && p (get_or xs i 0)

  any_taken : (n : ℕ) → n ≤ length xs → list_any p (drop s (take n xs)) ≡ any_below n here
  unfolding any_below
  any_taken zero h = ap (list_any p) (drop_all s [] (omega arith))
  any_taken (suc n) h = elim (dec_lt n s) [
    | yes l ↦
        let long = length-take-le (suc n) xs h in
        let short = length-take-le n xs (omega arith) in
        ap (list_any p) (drop_all s (take (suc n) xs) (omega (arith, long))) ∙ sym (ap (list_any p) (drop_all s (take n xs) (omega (arith, short))))
        ∙ any_taken n (omega arith) ∙ sym (or-false (any_below n here)) ∙ ap (λ b. any_below n here || (b && p (get_or xs n 0))) (sym (lt-leb s n l))
    | no l ↦
        let short = length-take-le n xs (omega arith) in
        ap (λ ys. list_any p (drop s ys)) (take-suc xs n 0 (omega arith)) ∙ ap (list_any p) (pushed s (take n xs) (get_or xs n 0) (omega (arith, short)))
        ∙ list_any-append p (drop s (take n xs)) (get_or xs n 0 ∷ []) ∙ ap (λ b. list_any p (drop s (take n xs)) || b) (or-false (p (get_or xs n 0)))
        ∙ ap (λ b. b || p (get_or xs n 0)) (any_taken n (omega arith)) ∙ ap (λ b. any_below n here || (b && p (get_or xs n 0))) (sym (le-leb s n (omega arith)))
  ]

  pub any_behind : list_any p (drop s xs) ≡ any_below (length xs) here
  any_behind = ap (λ ys. list_any p (drop s ys)) (sym (take-length xs)) ∙ any_taken (length xs) (omega arith)

-- ---- the mark

abbrev pub marked : (ℕ → Event) → ℕ → ℕ → ℕ
marked event mark n = later_of (event n).new (position_at event n) mark

mark_from : (event : ℕ → Event) (i n : ℕ) → fold (marked event) (mark_of event i) (range_with_len i n) ≡ mark_of event (i + n)
unfolding mark_of
mark_from event i zero = ap (mark_of event) (let z : i ≡ i + 0 = omega arith in z)
mark_from event i (suc n) =
    ap (λ m. fold (marked event) m (range_with_len (i + 1) n)) (ap (mark_of event) (sym (add-one i)))
    ∙ mark_from event (i + 1) n ∙ ap (mark_of event) (let z : i + 1 + n ≡ i + suc n = omega arith in z)

pub mark_range : (event : ℕ → Event) (n : ℕ) → fold (marked event) 0 (range_with_len 0 n) ≡ mark_of event n
unfolding mark_of
mark_range event n = mark_from event 0 n ∙ ap (mark_of event) (let z : 0 + n ≡ n = omega arith in z)

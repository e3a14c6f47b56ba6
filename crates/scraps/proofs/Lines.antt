-- The line ends of a scrap, counted by the library.
use Rattle.std.proofs.Common.{ℕ, ◌+◌, ◌≡◌, refl, sym, ◌∙◌, Bool, true, false, cond, List, ◌∷◌, length, get_or, eqb, arith}
use Rattle.std.specs.List.{count_by}
use Rattle.std.proofs.lemmas.List.Recursion.{is_count_by}
use Rattle.words.specs.Word.{digit}
use Rattle.words.specs.Below.{count_below}
use Rattle.words.specs.Folds.{count_first}
use Rattle.scraps.specs.Calls.{lines_in}

one : (b : Bool) (n : ℕ) → digit b + n ≡ cond b (1 + n) n
one true n = refl
one false n = omega arith

pub lines_by_count : (s : List ℕ) → count_by (λ b. eqb b 10) s ≡ lines_in s
unfolding lines_in count_below
lines_by_count s = sym (is_count_by lines_in (λ b. eqb b 10) refl
    (λ x xs. count_first (length xs) (λ i. eqb (get_or (x ∷ xs) i 0) 10) ∙ one (eqb x 10) (lines_in xs)) s)

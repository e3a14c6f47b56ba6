-- `nearest::held_at`: bit by bit.
use Rattle.std.proofs.Common.{rules, tests, ◌≡◌, refl, ap, ap₂, ◌∙◌, sym, ℕ, zero, suc, ◌≤◌, ◌^◌, not, eqb, List, length, get_or, fold, bit_or, take, arith, add-one, length-take-le}
use Rattle.std.proofs.Math.Seq.{take-length}
use Rattle.std.proofs.lemmas.Iterator.{YieldsList-from_slice}
use Rattle.std.proofs.lemmas.Iterator.Consumers.{fold_from_yields_List, YieldsList-from_enumerate}
use Rattle.std.proofs.lemmas.List.{get_or-take}
use Rattle.std.proofs.lemmas.List.FromFn.{length-enumerate_from, get_or-enumerate_from}
use Rattle.std.proofs.lemmas.List.Sums.{fold_more}
use Rattle.std.specs.List.{enumerate_from}
use Rattle.words.specs.Word.{only_of}
use Rattle.words.specs.Below.{word_of}
use Rattle.words.specs.Unions.{word_none, word_more}
use Rattle.nearest.specs.Joining.{held_of}
use Rattle.nearest.proofs.held_at.Goals as goal

-- a place with its word: it is put in where the word has members
abbrev put_in : ℕ → ℕ × ℕ → ℕ
put_in r p = bit_or r (only_of (not (eqb p.1 0)) (2 ^ p.0))

taken : (set : List ℕ) (n m : ℕ) → n ≤ length set → m ≤ n
    → fold put_in 0 (take m (enumerate_from 0 (take n set))) ≡ word_of m (λ v. not (eqb (get_or set v 0) 0))
taken set n zero l h = word_none _
taken set n (suc m) l h =
    let long : length (enumerate_from 0 (take n set)) ≡ n = length-enumerate_from 0 (take n set) ∙ length-take-le n set l in
    let at : get_or (enumerate_from 0 (take n set)) m (0, 0) ≡ (m, get_or set m 0) =
    get_or-enumerate_from 0 (take n set) m (0, 0) (omega (arith, length-take-le n set l)) ∙ ap₂ (λ a x. (a, x)) (omega arith) (get_or-take n set m 0 (omega arith)) in
    rw (← add-one, fold_more put_in 0 (enumerate_from 0 (take n set)) m (0, 0) (omega (arith, long)), at, word_more, taken set n m l (omega arith)) refl

whole : (set : List ℕ) (n : ℕ) → n ≤ length set
    → fold put_in 0 (enumerate_from 0 (take n set)) ≡ word_of n (λ v. not (eqb (get_or set v 0) 0))
whole set n l =
    let long : length (enumerate_from 0 (take n set)) ≡ n = length-enumerate_from 0 (take n set) ∙ length-take-le n set l in
    ap (fold put_in 0) (sym (take-length (enumerate_from 0 (take n set)))) ∙ rw long (taken set n n l (omega arith))

pub returns : goal.returns
unfolding held_of
returns c =
    let set = c.args.set.now in
    let n = c.args.count in
    fold_from_yields_List _ put_in 0 _ c.fold.ensures.ran
    (YieldsList-from_enumerate (YieldsList-from_slice (take n set) (cc)) (cc)) (λ a x b q k. search (rules, tests))
    ∙ whole set n (omega (arith, c.told-set))

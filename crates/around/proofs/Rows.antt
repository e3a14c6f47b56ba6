-- Each node has its truth along the lasso.
use mathlib.Core.Logic.Iff
use Rattle.std.specs.Prelude.{ℕ, suc, ◌-◌, ◌<◌, ◌≡◌, Bool}
use Prim.{Unit, tt}
use Rattle.std.proofs.Common.{sym, ◌∙◌, arith}
use Rattle.std.proofs.Math.Path.{subst}
use Rattle.std.proofs.Math.Bool.{true, false}
use Rattle.meaning.specs.Says.{Says}
use Rattle.meaning.specs.Formula.{Formula, Holds}
use Rattle.words.specs.Truth.{says_not, says_and, says_or, says_implies, says_true, says_false}
use Rattle.syntax.specs.declared.Op.{Op}
use Rattle.syntax.specs.Grammar.{Level, Side, Atom, is_false, is_true, is_prop, Unary, is_not, is_next_lem, is_finally, is_globally, Binary, is_implies, is_or, is_and, is_until, is_release}
use Rattle.theory.specs.Until.{finally_until, globally_release}
use Rattle.node_value.specs.Unfold.{guess_of}
use Rattle.node_value.specs.Back.{back}
use Rattle.node_value.proofs.Rows.{Truths, hands_on, row_of, Tells, Rows}
use Rattle.around.specs.Around.{place}
use Rattle.around.proofs.Places.{place_below}
use Rattle.around.proofs.Round.{Step, round, hands, until_step, release_step, hands_next, hands_unfold, until_round, release_round}

-- the truth of a node at each position: first once round the loop, then over all positions
abbrev pub row : (ℕ → ℕ) → ℕ → ℕ → Op → Truths → Truths → Truths
row label s n op x y = row_of label n op x y (round s n (hands_on label op x y) (guess_of op))

-- going one position further back is one step
back_step : (n : ℕ) (step : Step) (end : Bool) (i : ℕ) → i < n → step i (back step end (n - suc i) (suc i)) ≡ back step end (n - i) i
unfolding back
back_step n step end i l = let e : n - i ≡ suc (n - suc i) = omega arith in rw e

module _ (label : ℕ → ℕ) (s n : ℕ) (loops : s < n) where
  -- the labels along the lasso
  abbrev word : ℕ → ℕ
  word i = label (place s n i)

  abbrev pub Told : Truths → Formula → Type 0
  Told = Tells (Holds word) (λ i. Unit {0}) (place s n)

  -- what a position hands on is its own step on what the next one hands on
  says_step : (step : Step) (guess : Bool) (i : ℕ) (A : Type 0) → Says (hands s n step guess (place s n i)) A
      → Says (step (place s n i) (back step (round s n step guess) (n - suc (place s n i)) (suc (place s n i)))) A
  says_step step guess i A h = subst (λ (b : Bool). Says b A) (sym (back_step n step (round s n step guess) (place s n i) (place_below s n loops i))) h

  -- X hands on its operand
  next_is : (y : Truths) (i : ℕ) → hands s n (λ j ahead. y j) false (suc (place s n i)) ≡ y (place s n (suc i))
  next_is y i = hands_next s n loops (λ j ahead. y j) (λ j a b h z. z) false i ∙ hands_unfold s n loops (λ j ahead. y j) (λ j a b h z. z) false (suc i)

  leaf_row : {o : Op} {f : Formula} → Atom o f → (x y : Truths) → Told (row label s n o x y) f
  unfolding Holds
  leaf_row is_false x y = record { says = λ i _. says_false }
  leaf_row is_true x y = record { says = λ i _. says_true }
  leaf_row (is_prop k) x y = record { says = λ i _. Iff.rfl }

  one_row : {o : Op} {u : Formula → Formula} → Unary o u → (a : Formula) (x y : Truths) → Told y a → Told (row label s n o x y) (u a)
  unfolding Holds
  one_row is_not a x y t = record { says = λ i _. says_not (t.says i tt) }
  one_row is_next_lem a x y t = record { says = λ i _. subst (λ (b : Bool). Says b (Holds word a (suc i))) (sym (next_is y i)) (t.says (suc i) tt) }
  one_row is_finally a x y t = record {
    says = λ i _. says_step (until_step (λ _. true) y) false i _
        (Iff.trans (until_round s n loops (λ _. true) y (λ _. says_true) (λ i. t.says i tt) i) finally_until);
  }
  one_row is_globally a x y t = record {
    says = λ i _. says_step (release_step (λ _. false) y) true i _
        (Iff.trans (release_round s n loops (λ _. false) y (λ _. says_false) (λ i. t.says i tt) i) globally_release);
  }

  two_row : {l : Level} {d : Side} {o : Op} {j : Formula → Formula → Formula} → Binary l d o j → (a b : Formula) (x y : Truths)
      → Told x a → Told y b → Told (row label s n o x y) (j a b)
  unfolding Holds
  two_row is_implies a b x y r t = record { says = λ i _. says_implies (r.says i tt) (t.says i tt) }
  two_row is_or a b x y r t = record { says = λ i _. says_or (r.says i tt) (t.says i tt) }
  two_row is_and a b x y r t = record { says = λ i _. says_and (r.says i tt) (t.says i tt) }
  two_row is_until a b x y r t = record {
    says = λ i _. says_step (until_step x y) false i _ (until_round s n loops x y (λ i. r.says i tt) (λ i. t.says i tt) i);
  }
  two_row is_release a b x y r t = record {
    says = λ i _. says_step (release_step x y) true i _ (release_round s n loops x y (λ i. r.says i tt) (λ i. t.says i tt) i);
  }

  pub rows_right : Rows (Holds word) (λ i. Unit {0}) (place s n) (row label s n)
  rows_right = record { leaf = leaf_row; one = one_row; two = two_row }

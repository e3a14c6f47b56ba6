-- Going backward over the events from guesses behind the last one gives each node its truth on the finite trace.
use mathlib.Core.Logic.Iff
use Prim.Native.Nat.{ℕ, zero, suc, ◌+◌, ◌-◌, ◌≤◌, ◌<◌}
use Prim.{Unit, tt}
use Rattle.std.specs.Prelude.{◌≡◌, refl, ◌↔◌, ◌⊎◌, true, false, ◌&&◌, ◌||◌}
use Rattle.std.proofs.Math.Logic.{inl, ⊎_map}
use Rattle.std.proofs.lemmas.Bool.{false≢true}
use native.Mathlib.Omega.{arith}
use Rattle.std.proofs.Math.Decide.{dec_lt}
use Rattle.meaning.specs.Says.{Says}
use Rattle.meaning.specs.Formula.{Formula}
use Rattle.words.specs.Truth.{says_not, says_and, says_or, says_implies, says_true, says_false, says_dec}
use Rattle.syntax.specs.declared.Op.{Op}
use Rattle.syntax.specs.Grammar.{Level, Side, Atom, is_false, is_true, is_prop, Unary, is_not, is_next_lem, is_finally, is_globally, Binary, is_implies, is_or, is_and, is_until, is_release}
use Rattle.theory.specs.Until.{Until, Release, until_unfold, release_unfold, globally_release}
use Rattle.node_value.specs.Unfold.{guess_of}
use Rattle.node_value.specs.Back.{back}
use Rattle.node_value.proofs.Rows.{Truths, row_of, Tells, Rows}
use Rattle.within.specs.Within.{HoldsWithin}

-- x and y have the truth of P and Q at each of the n events
module _ (n : ℕ) {P Q : ℕ → Type 0} (x y : Truths) (p : (i : ℕ) → i < n → Says (x i) (P i)) (q : (i : ℕ) → i < n → Says (y i) (Q i)) where
  -- until, within the events
  until_back : (d i : ℕ) → i + d ≡ n → Says (back (λ j ahead. y j || (x j && ahead)) false d i) (Until P (λ j. (j < n) × Q j) i)
  unfolding back
  until_back zero i e = (λ s. absurd (false≢true s), λ u. absurd (omega (arith, u.1, u.2.0)))
  until_back (suc d) i e =
      let lt : i < n = omega arith in
      let now : Says (y i) ((i < n) × Q i) = (λ s. (lt, (q i lt).0 s), λ z. (q i lt).1 z.1) in
      Iff.trans (says_or now (says_and (p i lt) (until_back d (suc i) (omega arith)))) until_unfold

  -- release, up to the last event
  release_back : (d i : ℕ) → i + d ≡ n → Says (back (λ j ahead. y j && (x j || ahead)) true d i) (Release P (λ j. j < n → Q j) i)
  unfolding back
  release_back zero i e = (λ _ j le. inl (λ lt. absurd (omega arith)), λ _. refl)
  release_back (suc d) i e =
      let lt : i < n = omega arith in
      let now : Says (y i) (i < n → Q i) = (λ s _. (q i lt).0 s, λ h. (q i lt).1 (h lt)) in
      Iff.trans (says_and now (says_or (p i lt) (release_back d (suc i) (omega arith)))) (release_unfold (says_dec (p i lt)))

-- X, where there is a next event
next_back : (n : ℕ) {Q : ℕ → Type 0} (y : Truths) → ((i : ℕ) → i < n → Says (y i) (Q i))
    → (d i : ℕ) → suc i + d ≡ n → Says (back (λ j ahead. y j) false d (suc i)) ((suc i < n) × Q (suc i))
unfolding back
next_back n y q zero i e = (λ s. absurd (false≢true s), λ z. absurd (omega (arith, z.0)))
next_back n y q (suc d) i e = let lt : suc i < n = omega arith in (λ s. (lt, (q (suc i) lt).0 s), λ z. (q (suc i) lt).1 z.1)

-- as the definition puts them down
module _ {n : ℕ} {P Q : ℕ → Type 0} {i : ℕ} where
  until_within : Until P (λ j. (j < n) × Q j) i ↔ ((j : ℕ) × (i ≤ j) × (j < n) × Q j × ((k : ℕ) → i ≤ k → k < j → P k))
  until_within = (λ (j, le, (lt, h), g). (j, le, lt, h, g), λ (j, le, lt, h, g). (j, le, (lt, h), g))

  release_within : Release P (λ j. j < n → Q j) i ↔ ((j : ℕ) → i ≤ j → j < n → Q j ⊎ ((k : ℕ) × (i ≤ k) × (k < j) × P k))
  release_within = (λ r j le lt. ⊎_map (λ h. h lt) (λ k. k) (r j le), λ r j le. pick r j le (dec_lt j n))
    where
      pick : ((j : ℕ) → i ≤ j → j < n → Q j ⊎ ((k : ℕ) × (i ≤ k) × (k < j) × P k)) → (j : ℕ) → i ≤ j → Dec (j < n)
          → (j < n → Q j) ⊎ ((k : ℕ) × (i ≤ k) × (k < j) × P k)
      pick r j le (yes lt) = ⊎_map (λ h _. h) (λ k. k) (r j le lt)
      pick r j le (no far) = inl (λ lt. absurd (far lt))

module _ {n : ℕ} {Q : ℕ → Type 0} {i : ℕ} where
  finally_within : Until (λ _. Unit {0}) (λ j. (j < n) × Q j) i ↔ ((j : ℕ) × (i ≤ j) × (j < n) × Q j)
  finally_within = (λ (j, le, (lt, h), g). (j, le, lt, h), λ (j, le, lt, h). (j, le, (lt, h), λ _ _ _. tt))

  globally_within : Release (λ _. ⊥) (λ j. j < n → Q j) i ↔ ((j : ℕ) → i ≤ j → j < n → Q j)
  globally_within = (λ r. globally_release.0 r, λ g. globally_release.1 g)

module _ (label : ℕ → ℕ) (n : ℕ) where
  -- the truth of a node at each event
  abbrev pub row : Op → Truths → Truths → Truths
  row op x y = row_of label n op x y (guess_of op)

  abbrev pub Told : Truths → Formula → Type 0
  Told = Tells (HoldsWithin n label) (λ i. i < n) (λ i. i)

  leaf_row : {o : Op} {f : Formula} → Atom o f → (x y : Truths) → Told (row o x y) f
  unfolding HoldsWithin
  leaf_row is_false x y = record { says = λ i lt. says_false }
  leaf_row is_true x y = record { says = λ i lt. says_true }
  leaf_row (is_prop k) x y = record { says = λ i lt. Iff.rfl }

  one_row : {o : Op} {u : Formula → Formula} → Unary o u → (a : Formula) (x y : Truths) → Told y a → Told (row o x y) (u a)
  unfolding HoldsWithin back
  one_row is_not a x y t = record { says = λ i lt. says_not (t.says i lt) }
  one_row is_next_lem a x y t = record { says = λ i lt. next_back n y t.says (n - suc i) i (omega arith) }
  one_row is_finally a x y t = record {
    says = λ i lt. Iff.trans
        (until_back n (λ _. true) y (λ _ _. says_true) t.says (suc (n - suc i)) i (omega arith)) finally_within;
  }
  one_row is_globally a x y t = record {
    says = λ i lt. Iff.trans
        (release_back n (λ _. false) y (λ _ _. says_false) t.says (suc (n - suc i)) i (omega arith)) globally_within;
  }

  two_row : {l : Level} {s : Side} {o : Op} {j : Formula → Formula → Formula} → Binary l s o j → (a b : Formula) (x y : Truths)
      → Told x a → Told y b → Told (row o x y) (j a b)
  unfolding HoldsWithin back
  two_row is_implies a b x y s t = record { says = λ i lt. says_implies (s.says i lt) (t.says i lt) }
  two_row is_or a b x y s t = record { says = λ i lt. says_or (s.says i lt) (t.says i lt) }
  two_row is_and a b x y s t = record { says = λ i lt. says_and (s.says i lt) (t.says i lt) }
  two_row is_until a b x y s t = record {
    says = λ i lt. Iff.trans
        (until_back n x y s.says t.says (suc (n - suc i)) i (omega arith)) until_within;
  }
  two_row is_release a b x y s t = record {
    says = λ i lt. Iff.trans
        (release_back n x y s.says t.says (suc (n - suc i)) i (omega arith)) release_within;
  }

  pub rows_right : Rows (HoldsWithin n label) (λ i. i < n) (λ i. i) row
  rows_right = record { leaf = leaf_row; one = one_row; two = two_row }

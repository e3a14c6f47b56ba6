-- A machine that is made of what steps has no more rows than states are reached: words that lead to different rows lead to different states.
use Rattle.std.specs.Prelude.{ℕ, ◌≤◌, ◌<◌, ◌≡◌}
use Rattle.std.proofs.Math.Path.{refl}
use Rattle.std.proofs.Common.{sym, ap, subst, ◌∙◌, arith}
use mathlib.Core.List.{List, [], ◌∷◌, ◌++◌}
use Rattle.std.proofs.Math.Decide.{dec_lt}
use Rattle.machines.specs.Machine.{Machine, run, Columns, none, more, Same}
use Rattle.machines.specs.Alike.{numbered_reached}
use Rattle.machines.specs.Explored.{MoreThan}
use Rattle.machines.specs.Follow.{stepped}
use Rattle.machines.specs.Made as machines

module _ {S : Type 0} {c : ℕ} {step : S → ℕ → S} {answer : S → ℕ} {opening : S} {m : Machine} (is : machines.Made c step answer opening m) where
  -- one word behind another
  columns_append : {v w : List ℕ} → Columns c v → Columns c w → Columns c (v ++ w)
  columns_append none h = h
  columns_append (more l g) h = more l (columns_append g h)

  run_append : (r : ℕ) (v w : List ℕ) → run m r (v ++ w) ≡ run m (run m r v) w
  unfolding run
  run_append r [] w = refl
  run_append r (k ∷ v) w = run_append (m.next r k) v w

  stepped_append : (s : S) (v w : List ℕ) → stepped step s (v ++ w) ≡ stepped step (stepped step s v) w
  unfolding stepped
  stepped_append s [] w = refl
  stepped_append s (k ∷ v) w = stepped_append (step s k) v w

  -- words that lead to one state lead to rows that nothing tells apart
  state_same : {v w : List ℕ} → Columns c v → Columns c w → stepped step opening v ≡ stepped step opening w → Same c m (run m 0 v) (run m 0 w)
  state_same {v} {w} g h e = record {
    after = λ u k.
        ap m.output (sym (run_append 0 v u)) ∙ is.agrees (v ++ u) (columns_append g k) ∙ ap answer (stepped_append opening v u)
        ∙ ap (λ (s : S). answer (stepped step s u)) e
        ∙ sym (ap m.output (sym (run_append 0 w u)) ∙ is.agrees (w ++ u) (columns_append h k) ∙ ap answer (stepped_append opening w u));
  }

  -- a word to each row
  word_to : (r : ℕ) → Dec (r < m.rows) → List ℕ
  word_to r (yes l) = (numbered_reached is.canonical.numbered r l).0
  word_to r (no _) = []

  word_columns : (r : ℕ) (d : Dec (r < m.rows)) → Columns c (word_to r d)
  unfolding word_to
  word_columns r (yes l) = (numbered_reached is.canonical.numbered r l).1
  word_columns r (no _) = none

  word_leads : (r : ℕ) (d : Dec (r < m.rows)) → r < m.rows → run m 0 (word_to r d) ≡ r
  unfolding word_to
  word_leads r (yes l) h = (numbered_reached is.canonical.numbered r l).2
  word_leads r (no d) h = absurd (d h)

  -- so no more rows than that
  pub rows_few : (bound : ℕ) → (MoreThan c step opening bound → ⊥) → m.rows ≤ bound
  rows_few bound few = elim (dec_lt bound m.rows) [ yes l ↦ absurd (few (many l)) | no d ↦ omega arith ]
    where
      many : bound < m.rows → MoreThan c step opening bound
      many l = record {
        word = λ i. word_to i (dec_lt i m.rows);
        good = λ i h. word_columns i (dec_lt i m.rows);
        apart = λ i j h k e.
            let a : i < m.rows = omega arith in
            let b : j < m.rows = omega arith in
            is.canonical.distinct i j a b (
            subst (λ (r : ℕ). Same c m r j) (word_leads i (dec_lt i m.rows) a)
            (subst (λ (r : ℕ). Same c m (run m 0 (word_to i (dec_lt i m.rows))) r) (word_leads j (dec_lt j m.rows) b)
            (state_same (word_columns i (dec_lt i m.rows)) (word_columns j (dec_lt j m.rows)) e))
            );
      }

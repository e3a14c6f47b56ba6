-- More of specs/Rounds. Rows told apart by words of at most so many columns, round by round; after as many rounds as there are rows, by any word.
use Prim.Native.Nat.{ℕ, zero, suc, ◌≤◌, ◌<◌}
use Rattle.std.specs.Prelude.{◌≡◌, refl, Bool, not, ◌⊎◌, eqb, length}
use Rattle.std.proofs.Math.Path.{sym}
use Rattle.std.proofs.Common.{◌∙◌, inl, inr, arith}
use Rattle.std.proofs.Math.Bool.{So}
use mathlib.Core.List.{List, [], ◌∷◌}
use Rattle.std.proofs.Math.Decide.{ℕ_discrete}
use Rattle.meaning.specs.Says.{Says}
use Rattle.words.specs.Below.{all_below, count_below}
use Rattle.words.specs.Folds.{all_at, all_of, any_says, count_le}
use Rattle.words.specs.Tests.{eq_says}
use Rattle.words.specs.Truth.{and_says, says_dec, says_not}
use Rattle.graphs.specs.Count.{comes_to_rest}
use Rattle.machines.specs.Machine.{Machine, run, Columns, none, more, Same, Proper}
use Rattle.machines.specs.Leader.{Sorts, lead, leads, leaders_more, leaders_stay}
use Rattle.machines.specs.Rounds.{agree, steady_same}
use Rattle.machines.specs.Rounds as of_rounds

module _ (c : ℕ) (m : Machine) where
  abbrev EqualAfter : ℕ → ℕ → List ℕ → Type 0
  EqualAfter = of_rounds.EqualAfter c m

  abbrev onward : ℕ → ℕ → ℕ → ℕ → Bool
  onward = of_rounds.onward c m

  -- rows that agree are told apart by no such word
  agree_told : (i r s : ℕ) → So (agree c m i r s) → {w : List ℕ} → Columns c w → length w ≤ i → EqualAfter r s w
  unfolding agree of_rounds.EqualAfter run of_rounds.onward
  agree_told zero r s a none l = (eq_says (m.output r) (m.output s)).0 a
  agree_told zero r s a (more h ws) l = absurd (omega arith)
  agree_told (suc i) r s a none l = agree_told i r s ((and_says (agree c m i r s) (all_below c (onward i r s))).0 a).0 none (omega arith)
  agree_told (suc i) r s a (more {k} h ws) l =
      agree_told i (m.next r k) (m.next s k) (all_at c (onward i r s) ((and_says (agree c m i r s) (all_below c (onward i r s))).0 a).1 k h) ws (omega arith)

  -- and rows that none tells apart agree
  agree_of : (i r s : ℕ) → ((w : List ℕ) → Columns c w → length w ≤ i → EqualAfter r s w) → So (agree c m i r s)
  unfolding agree of_rounds.EqualAfter run of_rounds.onward
  agree_of zero r s f = (eq_says (m.output r) (m.output s)).1 (f [] none (omega arith))
  agree_of (suc i) r s f = (and_says (agree c m i r s) (all_below c (onward i r s))).1 (
    agree_of i r s (λ w ws l. f w ws (omega arith)),
    all_of c (onward i r s) (λ k h. agree_of i (m.next r k) (m.next s k) (λ w ws l. f (k ∷ w) (more h ws) (omega arith))),
  )

  -- what the rounds say
  pub agree_says : (i r s : ℕ) → Says (agree c m i r s) ((w : List ℕ) → Columns c w → length w ≤ i → m.output (run m r w) ≡ m.output (run m s w))
  unfolding of_rounds.EqualAfter
  agree_says i r s = (λ a w. agree_told i r s a, agree_of i r s)

  -- each round sorts rows into classes
  pub agree_sorts : (i : ℕ) → Sorts (agree c m i)
  unfolding of_rounds.EqualAfter
  agree_sorts i = record {
    self = λ r. agree_of i r r (λ w ws l. refl);
    back = λ r s a. agree_of i s r (λ w ws l. sym (agree_told i r s a ws l));
    on = λ q r s a b. agree_of i q s (λ w ws l. agree_told i q r a ws l ∙ agree_told i r s b ws l);
  }

  -- a round more tells no less apart
  pub agree_less : (i r s : ℕ) → So (agree c m (suc i) r s) → So (agree c m i r s)
  unfolding agree
  agree_less i r s a = ((and_says (agree c m i r s) (all_below c (λ k. agree c m i (m.next r k) (m.next s k)))).0 a).0

  -- agreement goes on at each column
  pub agree_next : (i r s k : ℕ) → k < c → So (agree c m (suc i) r s) → So (agree c m i (m.next r k) (m.next s k))
  unfolding agree
  agree_next i r s k l a = all_at c (λ k. agree c m i (m.next r k) (m.next s k)) ((and_says (agree c m i r s) (all_below c (λ k. agree c m i (m.next r k) (m.next s k)))).0 a).1 k l

  -- what is the same agrees in every round
  pub same_agrees : (i r s : ℕ) → Same c m r s → So (agree c m i r s)
  unfolding of_rounds.EqualAfter
  same_agrees i r s a = agree_of i r s (λ w ws l. a.after w ws)

  abbrev Stable : ℕ → Type 0
  Stable = of_rounds.Stable c m

  -- a round that gives each row the leader that it had is the last
  pub leaders_stable : (i : ℕ) → ((r : ℕ) → r < m.rows → lead (agree c m i) r ≡ lead (agree c m (suc i)) r) → Stable i
  unfolding of_rounds.Stable
  leaders_stable i e = leaders_stay (agree_sorts i) (agree_sorts (suc i)) (agree_less i) m.rows e

  -- any other has more leaders
  pub leaders_grow : (i r : ℕ) → r < m.rows → (lead (agree c m i) r ≡ lead (agree c m (suc i)) r → ⊥)
      → count_below m.rows (leads (agree c m i)) < count_below m.rows (leads (agree c m (suc i)))
  leaders_grow i r l d = leaders_more (agree_sorts i) (agree_sorts (suc i)) (agree_less i) m.rows r l d

  module _ (proper : Proper c m) where
    -- rows that agree when the rounds stand still are the same
    pub stable_same : (i : ℕ) → Stable i → (r s : ℕ) → r < m.rows → s < m.rows → So (agree c m i r s) → Same c m r s
    unfolding of_rounds.Stable of_rounds.EqualAfter run
    stable_same i stable r s l h a = steady_same {m = m}
        (λ (r s : ℕ). (r < m.rows) × (s < m.rows) × So (agree c m i r s))
        (λ r s (_, _, a). agree_told i r s a none (omega arith))
        (λ r s k b (l, h, a). (proper.inside r k l b, proper.inside s k h b, agree_next i r s k b (stable r s l h a)))
        r s (l, h, a)

    -- rounds that stand still go on standing still
    stable_on : (i : ℕ) → Stable i → Stable (suc i)
    unfolding of_rounds.Stable
    stable_on i stable r s l h a = same_agrees (suc (suc i)) r s (stable_same i stable r s l h (agree_less i r s a))

    -- the rounds stand still, or there is a leader more
    round : (i : ℕ) → Stable i ⊎ (count_below m.rows (leads (agree c m i)) < count_below m.rows (leads (agree c m (suc i))))
    round i = elim (says_dec (any_says (λ r. not (eqb (lead (agree c m i) r) (lead (agree c m (suc i)) r))) _
        (λ r. says_not (eq_says (lead (agree c m i) r) (lead (agree c m (suc i)) r))) m.rows)) [
          | yes (r, l, d) ↦ inr (leaders_grow i r l d)
          | no d ↦ inl (leaders_stable i (λ r l. elim (ℕ_discrete (lead (agree c m i) r) (lead (agree c m (suc i)) r)) [ yes e ↦ e | no n ↦ absurd (d (r, l, n)) ]))
        ]

    -- as many rounds as there are rows are enough
    pub rounds_enough : Stable m.rows
    rounds_enough = comes_to_rest {Still = Stable} (λ i. count_below m.rows (leads (agree c m i))) m.rows
        round stable_on (λ i. count_le m.rows (leads (agree c m i))) m.rows (omega arith)

    -- they tell what is the same
    pub same_says : (r s : ℕ) → r < m.rows → s < m.rows → Says (agree c m m.rows r s) (Same c m r s)
    same_says r s l h = (stable_same m.rows rounds_enough r s l h, same_agrees m.rows r s)

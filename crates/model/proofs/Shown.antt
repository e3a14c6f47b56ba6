-- What is shown: the verdict is right, and left counts the states where an agreeing run can now be.
use mathlib.Core.Logic.Iff
use Rattle.std.specs.Prelude.{ℕ, ◌≤◌, ◌<◌, ◌≡◌, ◌⊎◌, Bool, true, false, not}
use native.Mathlib.Omega.{arith}
use Rattle.std.proofs.Common.{◌∙◌, ⊎_elim}
use Rattle.std.proofs.Math.Logic.{⊎_map}
use Rattle.std.proofs.Math.Bool.{So}
use Rattle.words.specs.Below.{count_below}
use Rattle.words.specs.Laws.{bit_or_lem}
use Rattle.words.specs.Folds.{count_same, count_beyond, any_says}
use Rattle.pairs.specs.Sets.{inside, empty_of, occurs_in, left_of, occupied, occupant}
use Rattle.std.proofs.lemmas.Bool.{not-true}
use Rattle.meaning.specs.Says.{Says, Kept}
use Rattle.meaning.specs.Formula.{Formula, Holds}
use Rattle.meaning.specs.Run.{Plant, Lasso, state_at, labels_along}
use Rattle.meaning.specs.Event.{History, now}
use Rattle.meaning.specs.Pair.{PairAt}
use Rattle.meaning.specs.Verdict.{Agreeing, At, Possible, CanBe, Right}
use Rattle.meaning.specs.Limits.{AcceptedTable, Small}
use Rattle.theory.specs.Values.{values_at, pair_of}
use Rattle.theory.specs.Verdict.{judged, verdict_right}
use Rattle.theory.proofs.Alive.{valuations_few}
use Rattle.model.specs.Monitor.{Monitor, side, verdict, left}
use Rattle.model.proofs.Means.{Means}
use Rattle.words.specs.Truth.{not_so, says_same, says_or, kept_or}

module _ (T : Plant) (f : Formula) (A : AcceptedTable T) (small : Small f) (m : Monitor) (h : History) (means : Means T f m h) where
  low : (b : Bool) (s v : ℕ) → So (inside (side m b) s v) → v < 64
  low b s v i = let k = ((means.sets b).range s v i).1 in let p = valuations_few f small in omega arith

  -- a set is occupied where a run of its kind is possible
  pub occupied_says : (b : Bool) → Says (not (empty_of (side m b))) (Possible T f h b)
  occupied_says b = (
    λ e. let (s, v, _, i) = occupant (side m b) (not-true _ e) in let a = (means.says b s v).0 i in (a.lasso, a.chosen),
    λ (L, c).
        let a : At T f b h (state_at L (now h)) (values_at T f L (now h)) = record { lasso = L; chosen = c; pair = pair_of T f L c.run.walk (now h) } in
        let i = (means.says b (state_at L (now h)) (values_at T f L (now h))).1 a in
        rw (occupied (side m b) (state_at L (now h)) (values_at T f L (now h)) (low b (state_at L (now h)) (values_at T f L (now h)) i) i),
  )

  pub verdict_means : Right T f h (verdict m)
  unfolding verdict
  verdict_means = verdict_right T f h (occupied_says true) (occupied_says false)

  -- a state occurs where an agreeing run can be
  pub occurs_says : (s : ℕ) → Says (occurs_in m.keeps m.breaks s) (CanBe T h s)
  occurs_says s = Iff.trans
      (any_says _ (λ v. At T f true h s v ⊎ At T f false h s v) (λ v. rw bit_or_lem (says_or (means.says true s v) (means.says false s v))) 64) (
        λ (v, _, o). ⊎_elim (of true v) (of false v) o,
        λ (L, ag, e).
            let p : PairAt T f L (now h) s (values_at T f L (now h)) = rw e at (pair_of T f L ag.0.walk (now h)) in
            let o = ⊎_map (at L ag p) (at L ag p) (kept_or true (judged T f h L ag.0)) in
            (values_at T f L (now h), (let k = p.small in let q = valuations_few f small in omega arith), o),
      )
    where
      of : (b : Bool) (v : ℕ) → At T f b h s v → CanBe T h s
      of b v a = (a.lasso, (a.chosen.run, a.chosen.agrees), a.pair.state)

      at : {b : Bool} (L : Lasso) → Agreeing T h L → PairAt T f L (now h) s (values_at T f L (now h)) → Kept b (Holds (labels_along T L) f h.mark)
          → At T f b h s (values_at T f L (now h))
      at L ag p k = record { lasso = L; chosen = record { run = ag.0; agrees = ag.1; judged = k }; pair = p }

  -- left is the number of the table's states that pass any test of that
  pub left_means : (t : ℕ → Bool) → ((s : ℕ) → Says (t s) (CanBe T h s)) → left m ≡ count_below T.states t
  unfolding left left_of
  left_means t says =
      count_same 64 (occurs_in m.keeps m.breaks) t (λ s _. says_same (occurs_says s) (says s))
      ∙ count_beyond t T.states 64 A.few_states (λ s le. not_so (t s) (λ i. none_beyond s le ((says s).0 i)))
    where
      none_beyond : (s : ℕ) → T.states ≤ s → CanBe T h s → ⊥
      none_beyond s le (L, ag, p) = let k : s < T.states = rw p at (ag.0.walk.within (now h)) in omega arith

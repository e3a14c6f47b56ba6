-- Where fewer runs agree, the lamp says at least as much: of two tables and histories, by the runs alone.
use Rattle.std.specs.Prelude.{ℕ, zero, suc, ◌≤◌, ◌<◌, ◌≡◌, refl, ◌⊎◌, Bool, true, false, not, length, Ok}
use Rattle.std.proofs.Common.{arith, sym, ap, subst, ◌∙◌, inl, inr}
use mathlib.Core.List.{List, Forall₂}
use Rattle.words.specs.Below.{count_below}
use Rattle.graphs.specs.Count.{count_subset}
use Rattle.meaning.specs.Says.{Kept}
use Rattle.meaning.specs.Formula.{Formula, Holds}
use Rattle.meaning.specs.Run.{Plant, Lasso, state_at, labels_along}
use Rattle.meaning.specs.Event.{Seen, History, seen_at}
use Rattle.meaning.specs.Verdict.{Agreeing, Possible, CanBe, Sure, Right}
use Rattle.theory.specs.Narrow.{Narrower, Finer, FinerHistory}
use Rattle.answers.specs.declared.Verdict.{Verdict}
use Rattle.answers.specs.declared.Verdict.TheVariants.{Inconclusive, True, False, OutOfModel}
use Rattle.answers.specs.declared.Lamp.{Lamp}
use Rattle.answers.specs.Paper.{Paper, verdict, refused, accepted, number_of}
use Rattle.promises.specs.Demand.{Lit}
use Rattle.front_door.proofs.OneOutput.{lit_right}
use Rattle.sensors.specs.Sensors.{Smaller, AsMuch}

-- a run that agrees with the second history on the second table does with the first on the first, is there now where it is here, and is judged alike
pub record Fewer (T T' : Plant) (h h' : History) : Type 0 where
  pub agreeing : (L : Lasso) → Agreeing T' h' L → Agreeing T h L
  pub mark : h.mark ≡ h'.mark
  pub long : length h.events ≡ length h'.events
  pub labels : T.label ≡ T'.label
  pub states : T.states ≡ T'.states

clash : (b : Bool) (A : Type 0) → Kept b A → Kept (not b) A → ⊥
clash true A k n = n k
clash false A k n = k n

module _ (T T' : Plant) (h h' : History) (fewer : Fewer T T' h h') (f : Formula) where
  -- runs of each kind are possible then only where they are now
  possible : (b : Bool) → Possible T' f h' b → Possible T f h b
  possible b (L, c) =
      let (run, agrees) = fewer.agreeing L (c.run, c.agrees) in
      (L, record { run = run; agrees = agrees; judged = rw (fewer.mark, fewer.labels) c.judged })

  -- where every run is of one kind, none is of the other
  none_other : (b : Bool) → Sure T f h b → Possible T' f h' (not b) → ⊥
  none_other b (some, all) p = let (L, c) = possible (not b) p in clash b (Holds (labels_along T L) f h.mark) (all L (c.run, c.agrees)) c.judged

  one_of : (b : Bool) → Sure T' f h' b → Possible T' f h' b
  one_of b ((L, (run, agrees)), all) = (L, record { run = run; agrees = agrees; judged = all L (run, agrees) })

  none_at_all : (b : Bool) → ((L : Lasso) → Agreeing T h L → ⊥) → Possible T' f h' b → ⊥
  none_at_all b none p = let (L, c) = possible b p in none L (c.run, c.agrees)

  -- so verdicts that are right narrow
  pub right_narrows : (v v' : Verdict) → Right T f h (number_of v) → Right T' f h' (number_of v') → Narrower (number_of v) (number_of v')
  right_narrows v v' r r' = record {
    from_true = λ e. from_true v' r' (r.sure_true.0 e);
    from_false = λ e. from_false v' r' (r.sure_false.0 e);
    from_out = λ e. from_out v' r' (r.out_of_model.0 e);
  }
    where
      from_true : (v' : Verdict) → Right T' f h' (number_of v') → Sure T f h true → (number_of v' ≡ 1) ⊎ (number_of v' ≡ 3)
      from_true Inconclusive r' sure = absurd (none_other true sure (r'.inconclusive.0 refl).1)
      from_true True r' sure = inl refl
      from_true False r' sure = absurd (none_other true sure (one_of false (r'.sure_false.0 refl)))
      from_true OutOfModel r' sure = inr refl

      from_false : (v' : Verdict) → Right T' f h' (number_of v') → Sure T f h false → (number_of v' ≡ 2) ⊎ (number_of v' ≡ 3)
      from_false Inconclusive r' sure = absurd (none_other false sure (r'.inconclusive.0 refl).0)
      from_false True r' sure = absurd (none_other false sure (one_of true (r'.sure_true.0 refl)))
      from_false False r' sure = inl refl
      from_false OutOfModel r' sure = inr refl

      from_out : (v' : Verdict) → Right T' f h' (number_of v') → ((L : Lasso) → Agreeing T h L → ⊥) → number_of v' ≡ 3
      from_out Inconclusive r' none = absurd (none_at_all true none (r'.inconclusive.0 refl).0)
      from_out True r' none = absurd (none_at_all true none (one_of true (r'.sure_true.0 refl)))
      from_out False r' none = absurd (none_at_all false none (one_of false (r'.sure_false.0 refl)))
      from_out OutOfModel r' none = refl

  -- and no more states are left
  can_be_lem : (s : ℕ) → CanBe T' h' s → CanBe T h s
  can_be_lem s (L, agreeing, is) = (L, fewer.agreeing L agreeing, rw fewer.long is)

  abbrev left_of_lem : Paper → ℕ
  left_of_lem (verdict n left) = left
  left_of_lem (refused n place) = 0
  left_of_lem (accepted l) = 0

  pub lit_narrows : (l l' : Lamp) → Lit T f h (Ok l) → Lit T' f h' (Ok l') → AsMuch l l'
  lit_narrows l l' lit lit' = record {
    verdict = right_narrows l.verdict l'.verdict (lit_right T f l lit) (lit_right T' f l' lit');
    left = subst (λ (n : ℕ). n ≤ l.left) (sym there) (subst (λ (n : ℕ). count_below T'.states lit'.counts.0 ≤ n) (sym here) counted);
  }
    where
      here : l.left ≡ count_below T.states lit.counts.0
      here = ap left_of_lem lit.shown ∙ lit.counts.2

      there : l'.left ≡ count_below T'.states lit'.counts.0
      there = ap left_of_lem lit'.shown ∙ lit'.counts.2

      counted : count_below T'.states lit'.counts.0 ≤ count_below T.states lit.counts.0
      counted = rw fewer.states (count_subset T'.states (λ s so. (lit.counts.1 s).1 (can_be_lem s ((lit'.counts.1 s).0 so))))

-- ---- a better sensor

finer_at : {es es' : List Seen} → Forall₂ Finer es es' → (i : ℕ) → i < length es → (i < length es') × Finer (seen_at es i) (seen_at es' i)
finer_at Forall₂.nil i lt = absurd (omega arith)
finer_at (Forall₂.cons k t) zero lt = (omega arith, k)
finer_at (Forall₂.cons k t) (suc i) lt = let r = finer_at t i (omega arith) in (omega arith, r.1)

as_long : {es es' : List Seen} → Forall₂ Finer es es' → length es ≡ length es'
as_long Forall₂.nil = refl
as_long (Forall₂.cons h t) = ap suc (as_long t)

pub finer_fewer : (T : Plant) (h h' : History) → FinerHistory h h' → Fewer T T h h'
finer_fewer T h h' (fine, same) = record {
  agreeing = λ L (run, agrees). (run, λ i lt. let (low, k) = finer_at fine i lt in λ q so. (k q so).1 ∙ agrees i low q (k q so).0);
  mark = same;
  long = as_long fine;
  labels = refl;
  states = refl;
}

-- ---- a smaller table

pub smaller_fewer : (T T' : Plant) (h : History) → Smaller T T' → Fewer T T' h h
smaller_fewer T T' h k = record {
  agreeing = λ L (run, agrees). (
    record {
      walk = record {
        loops = run.walk.loops;
        within = λ i. rw k.states (run.walk.within i);
        moves = λ i. k.next (state_at L i) (state_at L (suc i)) (run.walk.moves i);
        fair = rw k.fairs run.walk.fair;
      };
      starts = k.start (state_at L 0) run.starts;
    },
    rw k.labels agrees,
  );
  mark = refl;
  long = refl;
  labels = k.labels;
  states = k.states;
}

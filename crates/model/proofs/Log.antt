-- More of specs/Log: the sets, the verdict and the states left after any list of events mean what they should, and the verdict only narrows
-- with one more event, a better sensor or a smaller table.
use Rattle.std.specs.Prelude.{ℕ, ◌≡◌, Bool, true, false, not, length}
use Rattle.std.proofs.Common.{subst}
use Rattle.std.proofs.Math.Bool.{So}
use mathlib.Core.List.{List, [], ◌∷◌, ◌++◌}
use Rattle.words.specs.Below.{count_below}
use Rattle.pairs.specs.Sets.{inside, empty_of}
use Rattle.meaning.specs.Says.{Says}
use Rattle.meaning.specs.Formula.{Formula}
use Rattle.meaning.specs.Run.{Plant, Lasso}
use Rattle.meaning.specs.Event.{Event, History, more, now, grow, since}
use Rattle.meaning.specs.Verdict.{Agreeing, Chosen, At, Possible, CanBe, Right}
use Rattle.meaning.specs.Limits.{AcceptedTable, Small}
use Rattle.meaning.proofs.Sense.{since_grow, since_more}
use Rattle.theory.specs.Join.{walk_then}
use Rattle.theory.specs.Narrow.{Narrower, verdict_narrows, Smaller, finer_fewer, more_fewer, grow_agrees, smaller_fewer}
use Rattle.model.specs.Monitor.{side, verdict, left}
use Rattle.model.proofs.Means.{Means, means_run}
use Rattle.model.proofs.Shown.{occupied_says, verdict_means, left_means}
use Rattle.model.specs.Witness.{Witness}
use Rattle.model.proofs.Witness.{witness_joined}
use Rattle.model.specs.Log.{FinerLog, since_finer, watched}

-- fewer runs agree, so the verdict narrows
fewer_narrows : (T T' : Plant) (f : Formula) (es es' : List Event) → AcceptedTable T → AcceptedTable T' → Small f
    → ((b : Bool) → Possible T' f (since es') b → Possible T f (since es) b) → Narrower (verdict (watched T f es)) (verdict (watched T' f es'))
unfolding verdict
fewer_narrows T T' f es es' A A' small fewer = verdict_narrows (still true) (still false)
  where
    still : (b : Bool) → So (not (empty_of (side (watched T' f es') b))) → So (not (empty_of (side (watched T f es) b)))
    still b e = (occupied_says T f A small (watched T f es) (since es) (means_run T f A small es) b).1
        (fewer b ((occupied_says T' f A' small (watched T' f es') (since es') (means_run T' f A' small es') b).0 e))

module _ (T : Plant) (f : Formula) (A : AcceptedTable T) (small : Small f) where
  module _ (es : List Event) where
    -- demand 3: the two sets hold exactly the pairs where an agreeing run of their kind can now be
    pub log_means : Means T f (watched T f es) (since es)
    log_means = means_run T f A small es

    pub log_sets : (b : Bool) (s v : ℕ) → Says (inside (side (watched T f es) b) s v) (At T f b (since es) s v)
    log_sets = log_means.says

    -- the verdict is right
    pub log_right : Right T f (since es) (verdict (watched T f es))
    log_right = verdict_means T f A small (watched T f es) (since es) log_means

    -- left counts the states where an agreeing run can now be
    pub log_left : (t : ℕ → Bool) → ((s : ℕ) → Says (t s) (CanBe T (since es) s)) → left (watched T f es) ≡ count_below T.states t
    log_left = left_means T f A small (watched T f es) (since es) log_means

    -- a witness, joined with a walk that agrees with the events, is a run of the asked kind
    pub log_witness : (b : Bool) (L : Lasso) → Witness T f (side (watched T f es) b) L
        → (walk : List ℕ) × (length walk ≡ now (since es)) × Chosen T f b (since es) (walk_then walk L)
    log_witness = witness_joined T f A small (watched T f es) (since es) log_means

  -- without a restart the verdict only narrows
  pub log_narrows : (es : List Event) (e : Event) → e.new ≡ false → Narrower (verdict (watched T f es)) (verdict (watched T f (es ++ e ∷ [])))
  log_narrows es e old = fewer_narrows T T f es (es ++ e ∷ []) A A small
      (λ b p. more_fewer T f (since es) e.seen b (subst (λ (h : History). Possible T f h b) (since_more es e old) p))

  -- out-of-model stays, a restart or not
  pub log_out : (es : List Event) (e : Event) → verdict (watched T f es) ≡ 3 → verdict (watched T f (es ++ e ∷ [])) ≡ 3
  log_out es e out = (log_right (es ++ e ∷ [])).out_of_model.1
      (λ L ag. (log_right es).out_of_model.0 out L (grow_agrees T (since es) e L (subst (λ (h : History). Agreeing T h L) (since_grow es e) ag)))

  -- request m: a better sensor never hurts
  pub finer_narrows : (es es' : List Event) → FinerLog es es' → Narrower (verdict (watched T f es)) (verdict (watched T f es'))
  finer_narrows es es' k = fewer_narrows T T f es es' A A small (finer_fewer T f (since es) (since es') (since_finer es es' k))

-- nor does a smaller table
pub smaller_narrows : (T T' : Plant) (f : Formula) → AcceptedTable T → AcceptedTable T' → Small f → (es : List Event) → Smaller T' T
    → Narrower (verdict (watched T f es)) (verdict (watched T' f es))
smaller_narrows T T' f A A' small es k = fewer_narrows T T' f es es A A' small (smaller_fewer T' T f (since es) k)

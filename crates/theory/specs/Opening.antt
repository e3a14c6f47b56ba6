-- Where the runs that agree with what was seen can now be: before any event, and at the first.
use Rattle.std.specs.Prelude.{ℕ, ◌+◌, ◌≤◌, ◌<◌, ◌≡◌, ◌↔◌, Bool, List, [], ◌∷◌, ◌++◌, length}
use Rattle.std.proofs.Common.{arith, eq-or-lt_of_le, sym, ap, ⊎_elim, length-append}
use Rattle.std.proofs.Math.Bool.{So}
use Rattle.std.proofs.Math.ListN.{get_or-append}
use Rattle.std.proofs.Math.Seq.{get_or-append_seam}
use Rattle.meaning.specs.Bit.{bit}
use Rattle.meaning.specs.Formula.{Formula}
use Rattle.meaning.specs.Run.{Plant, Lasso, FairLasso, state_at, labels_along, label_of}
use Rattle.meaning.specs.Event.{Seen, Agrees, AgreesWith, seen_at, nothing, History, none, more, now}
use Rattle.meaning.specs.Step.{value}
use Rattle.meaning.specs.Pair.{PairAt, Live}
use Rattle.meaning.specs.Verdict.{Chosen, At}
use Rattle.theory.specs.Values.{values_at, pair_of}
use Rattle.theory.specs.Past.{same_past}
use Rattle.theory.specs.Along.{pair_says}
use Rattle.words.specs.Truth.{kept_value, kept_iff}

module _ (T : Plant) (L : Lasso) where
  agrees_none : AgreesWith T L []
  agrees_none i lt = absurd (omega arith)

  -- to agree with one more event
  pub agrees_more : (es : List Seen) (e : Seen)
      → AgreesWith T L (es ++ e ∷ []) ↔ (AgreesWith T L es × Agrees e (label_of T (state_at L (length es))))
  agrees_more es e = (
    λ h. (
      λ i lt. rw (get_or-append es (e ∷ []) nothing i lt) at (h i (rw length-append (omega arith))),
      rw (get_or-append_seam es e [] nothing) at (h (length es) (rw length-append (omega arith))),
    ),
    λ (hs, he) i lt. ⊎_elim (last he i) (before hs i) (eq-or-lt_of_le (short i lt)),
  )
    where
      Sees : ℕ → Type 0
      Sees i = Agrees (seen_at (es ++ e ∷ []) i) (label_of T (state_at L i))

      short : (i : ℕ) → i < length (es ++ e ∷ []) → i ≤ length es
      short i lt = let k : i < length es + 1 = rw length-append at lt in omega arith

      before : AgreesWith T L es → (i : ℕ) → i < length es → Sees i
      before hs i lt = rw (get_or-append es (e ∷ []) nothing i lt) (hs i lt)

      last : Agrees e (label_of T (state_at L (length es))) → (i : ℕ) → i ≡ length es → Sees i
      last he i eq = rw (eq, get_or-append_seam es e [] nothing) he

module _ (T : Plant) (f : Formula) (b : Bool) where
  -- with no event: the live pairs at starting states where the rule has the value b
  pub at_opening : (s v : ℕ) → At T f b none s v ↔ (Live T f s v × So (bit T.start s) × (value f 0 (label_of T s) v ≡ b))
  at_opening s v = (
    λ a. (
      record { lasso = a.lasso; walk = a.chosen.run.walk; pair = a.pair },
      rw a.pair.state at a.chosen.run.starts,
      (kept_value b (pair_says T f a.pair)).0 a.chosen.judged,
    ),
    λ (live, start, val). record {
      lasso = live.lasso;
      chosen = record {
        run = record { walk = live.walk; starts = rw live.pair.state start };
        agrees = agrees_none T live.lasso;
        judged = (kept_value b (pair_says T f live.pair)).1 val;
      };
      pair = live.pair;
    },
  )

  -- the first event: no move
  pub at_first : (e : Seen) (s v : ℕ) → At T f b (more none e) s v ↔ (At T f b none s v × Agrees e (label_of T s))
  at_first e s v = (
    λ a. let c = a.chosen in (
      record { lasso = a.lasso; chosen = record { run = c.run; agrees = agrees_none T a.lasso; judged = c.judged }; pair = a.pair },
      rw a.pair.state at ((agrees_more T a.lasso [] e).0 c.agrees).1,
    ),
    λ (a, ag). let c = a.chosen in
        record {
          lasso = a.lasso;
          pair = a.pair;
          chosen = record {
            run = c.run;
            judged = c.judged;
            agrees = (agrees_more T a.lasso [] e).1 (c.agrees, rw a.pair.state ag);
          };
        },
  )

  -- another fair walk with the same states so far and the same pair now is as good
  pub chosen_same : (h : History) (L J : Lasso) (s v : ℕ) → h.mark ≤ now h → Chosen T f b h L → FairLasso T J
      → ((i : ℕ) → i ≤ now h → state_at J i ≡ state_at L i) → PairAt T f L (now h) s v → PairAt T f J (now h) s v → Chosen T f b h J
  chosen_same h L J s v marked c walk same p q = record {
    run = record { walk = walk; starts = rw (same 0 (omega arith)) c.run.starts };
    agrees = λ i lt. rw (same i (omega arith)) (c.agrees i lt);
    judged = kept_iff b
        (same_past f (labels_along T L) (labels_along T J) (λ i. (values_at T f L i, (pair_of T f L c.run.walk i).gives)) (now h) v
        (λ i le. ap (label_of T) (sym (same i le))) p.gives q.gives h.mark marked)
        c.judged;
  }

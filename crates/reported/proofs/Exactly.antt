-- Behind events that are all accepted, a report is accepted exactly if it is right: no wrong one is, and no right one is turned away.
use mathlib.Core.Logic.Iff
use Prim.Native.Nat.{ℕ, zero, suc, ◌+◌, ◌≤◌, ◌<◌, zero-le}
use native.Mathlib.Omega.{arith}
use Rattle.std.specs.Prelude.{◌≡◌, ◌↔◌, Bool, ◌||◌, cond, List, ◌++◌, ltb, get_or, drop, replicate, Ok, Err, Result}
use Rattle.std.proofs.Math.Path.{refl}
use Rattle.std.proofs.Common.{sym, ap, subst, ◌∙◌, length-append}
use Rattle.std.proofs.Math.Bool.{true, false, So}
use Rattle.std.proofs.lemmas.Bool.{false≢true}
use Rattle.std.proofs.Math.ListN.{length}
use Rattle.std.proofs.Math.Seq.{take-append_seam, drop-append_seam}
use borrow.Author.Tests.{ltb-true, ltb-false, le-ltb, eqb-true, eq-eqb}
use Rattle.meaning.specs.Says.{Kept}
use Rattle.meaning.specs.Formula.{Formula, Holds}
use Rattle.meaning.specs.Run as run
use Rattle.meaning.specs.Run.{Lasso, labels_along}
use Rattle.meaning.specs.Event.{History, since}
use Rattle.meaning.specs.Verdict.{Chosen, Right}
use Rattle.answers.specs.declared.Kind.TheVariants.{Value, RunLength}
use Rattle.answers.specs.declared.Verdict.{Verdict}
use Rattle.answers.specs.Results.{Outcome}
use Rattle.answers.specs.Paper.{number_of, refused_at}
use Rattle.answers.specs.Chain.{is_accepted}
use Rattle.plant.specs.declared.Plant.{Plant}
use Rattle.plant.specs.Table.{plant_of}
use Rattle.syntax.specs.declared.Rule.{Rule}
use Rattle.syntax.specs.Value.{rule_of}
use Rattle.event_log.specs.declared.Event.{Event}
use Rattle.event_log.specs.Log.{nothing}
use Rattle.event_log.specs.Promises.{AllWritable}
use Rattle.watching.specs.Filled.{filled, InTurnAt}
use Rattle.around.specs.Along.{lasso_of}
use Rattle.shown.specs.declared.Failing.{Failing}
use Rattle.shown.specs.Positions.{mark_of}
use Rattle.shown.specs.Shown.{Starts, MovesOn, FairOn, AgreesAll, FirstFailing}
use Rattle.shown.specs.Tests.{checked_of}
use Rattle.shown.proofs.Right.{run_is, checked_means}
use Rattle.neighbour.specs.declared.sent.ShownRun.{ShownRun}
use Rattle.neighbour.specs.declared.Judged.{Judged}
use Rattle.neighbour.specs.declared.Judged.TheVariants.{Accepted, WrongRun, WrongVerdict, Stopped, Refused}
use Rattle.neighbour.specs.Report.{no_run, joined_of, shown_of, needs_of, too_long, report_checked, report_of}
use Rattle.neighbour.specs.Judged.{confirmed_by, decided_of, looked_at, report_judged, unless_refused, judged_at}
use Rattle.sides.specs.declared.Monitor.{Monitor}
use Rattle.sides.specs.Held.{model_of, lamp_in}
use Rattle.reported.specs.Placed.{mark_is, agrees_exactly}
use Rattle.reported.specs.Correct.{lasso, IsShown, CorrectReport}

-- ---- the answer, by what was found

abbrev accepts : Judged → Bool
accepts Accepted = true
accepts (WrongRun f) = false
accepts WrongVerdict = false
accepts (Stopped s) = false
accepts (Refused r) = false

abbrev is_correct : Result (Unit {0}) Failing → Bool
is_correct (Ok _) = true
is_correct (Err x) = false

decided_exactly : (claim : ℕ) (v : Verdict) (x y : Result (Unit {0}) Failing) → (decided_of claim v x y ≡ Accepted) ↔ ((x ≡ Ok tt) × (y ≡ Ok tt) × So (confirmed_by claim v))
decided_exactly claim v (Err x) y = (λ e. absurd (false≢true (ap accepts e)), λ h. absurd (false≢true (ap is_correct h.0)))
decided_exactly claim v (Ok _) (Err y) = (λ e. absurd (false≢true (ap accepts e)), λ h. absurd (false≢true (ap is_correct h.1)))
decided_exactly claim v (Ok _) (Ok _) = by (confirmed_by claim v)
  where
    by : (b : Bool) → (cond b Accepted WrongVerdict ≡ Accepted) ↔ ((◌≡◌ {A = Result (Unit {0}) Failing} (Ok tt) (Ok tt)) × (◌≡◌ {A = Result (Unit {0}) Failing} (Ok tt) (Ok tt)) × So b)
    by true = (λ e. (refl, refl, refl), λ h. refl)
    by false = (λ e. absurd (false≢true (ap accepts e)), λ h. absurd (false≢true h.2))

behind_check : (o : Outcome) (j : Judged) → (unless_refused o j ≡ Accepted) ↔ ((o ≡ Ok tt) × (j ≡ Accepted))
behind_check (Ok _) j = (λ e. (refl, e), λ h. h.1)
behind_check (Err r) j = (λ e. absurd (false≢true (ap accepts e)), λ h. absurd (false≢true (ap is_accepted h.0)))

pub checked_exactly : (claim : ℕ) (k b : Bool) → (report_checked claim k b ≡ Ok tt) ↔ ((claim ≤ 3) × (too_long claim k b ≡ false))
unfolding report_checked
checked_exactly claim k b = by (ltb 3 claim) refl (too_long claim k b)
  where
    by : (x : Bool) → ltb 3 claim ≡ x → (y : Bool)
        → ◌≡◌ {A = Outcome} (cond x (Err (refused_at Value 0)) (cond y (Err (refused_at RunLength 0)) (Ok tt))) (Ok tt) ↔ ((claim ≤ 3) × (y ≡ false))
    by true e y = (λ g. absurd (false≢true (ap is_accepted g)), λ h. absurd (omega (arith, ltb-true 3 claim e, h.0)))
    by false e true = (λ g. absurd (false≢true (ap is_accepted g)), λ h. absurd (false≢true (sym h.1)))
    by false e false = (λ g. (ltb-false 3 claim e, refl), λ h. refl)

pub or-false : (a b : Bool) → (a || b) ≡ false → (a ≡ false) × (b ≡ false)
or-false true b e = absurd (false≢true (sym e))
or-false false b e = (refl, e)

pub both_false : (a b : Bool) → a ≡ false → b ≡ false → (a || b) ≡ false
both_false a b x y = rw (x, y) refl

-- a run is too long exactly if it says so
pub long_is : (stem turn : List ℕ) → (shown_of stem turn).long ≡ ltb 4096 (length stem + length turn)
unfolding shown_of
long_is stem turn = by (ltb 4096 (length stem + length turn))
  where
    by : (b : Bool) → (cond b no_run (joined_of stem turn)).long ≡ b
    by true = refl
    by false = refl

-- ---- behind events that are all accepted

module _ (p : Plant) (fair label next : List ℕ) (rule : Rule) (f : Formula) (is : rule ≡ rule_of f) (short : rule.len ≤ 32) (w : ℕ) (es : List Event) (event : ℕ → Event)
    (same : (k : ℕ) → event k ≡ get_or es k nothing) (writable : AllWritable w es) (turns : (k : ℕ) → k < length es → InTurnAt es k) where
  abbrev T : run.Plant
  T = plant_of p fair label next

  -- all events, with the unseen ones put in, and the last restart
  abbrev h : History
  h = since (filled es)

  abbrev n : ℕ
  n = length es

  abbrev looked : ℕ → Bool → ShownRun → Result (Unit {0}) Failing
  looked claim b r = looked_at p fair label next rule event n (mark_of event n) claim b r

  -- the check finds nothing exactly if the run is of the kind
  run_exactly : (b : Bool) (stem turn : List ℕ) → length stem + length turn ≤ 4096
      → (checked_of p fair label next rule event n (mark_of event n) b (stem ++ turn) (length stem) ≡ Ok tt) ↔ Chosen T f b h (lasso stem turn)
  run_exactly b stem turn few =
      subst (λ (x : Lasso). (checked_of p fair label next rule event n (mark_of event n) b states s ≡ Ok tt) ↔ Chosen T f b h x) whole (Iff.trans first.correct (to, from))
    where
      states : List ℕ
      states = stem ++ turn

      s : ℕ
      s = length stem

      L : Lasso
      L = lasso_of (stem ++ turn) (length stem)

      whole : lasso_of (stem ++ turn) (length stem) ≡ lasso stem turn
      whole = λ i. record { stem = take-append_seam stem turn i; loop = drop-append_seam stem turn i }

      mark : h.mark ≡ mark_of event n
      mark = mark_is T L w es event same writable turns

      first : FirstFailing T f b event n (mark_of event n) states s (checked_of p fair label next rule event n (mark_of event n) b states s)
      first =
          (checked_means p fair label next rule event n (mark_of event n) b states s (checked_of p fair label next rule event n (mark_of event n) b states s)
          (short, omega (arith, length-append stem turn)) refl).says f is

      to : (Starts T states × MovesOn T states s × FairOn T states s × AgreesAll T L event n × Kept b (Holds (labels_along T L) f (mark_of event n))) → Chosen T f b h L
      to (st, m, fa, a, k) = record {
        run = (run_is T states s).0 (st, m, fa);
        agrees = (agrees_exactly T L w es event same writable turns).1 a;
        judged = subst (λ (x : ℕ). Kept b (Holds (labels_along T L) f x)) (sym mark) k;
      }

      from : Chosen T f b h L → Starts T states × MovesOn T states s × FairOn T states s × AgreesAll T L event n × Kept b (Holds (labels_along T L) f (mark_of event n))
      from c =
          let (st, m, fa) = (run_is T states s).1 c.run in
          (st, m, fa, (agrees_exactly T L w es event same writable turns).0 c.agrees, subst (λ (x : ℕ). Kept b (Holds (labels_along T L) f x)) mark c.judged)

  -- so it is with a run that the claim needs and that is short enough
  looked_exactly : (claim : ℕ) (b : Bool) (stem turn : List ℕ) → needs_of claim b ≡ true → ltb 4096 (length stem + length turn) ≡ false
      → (looked claim b (shown_of stem turn) ≡ Ok tt) ↔ Chosen T f b h (lasso stem turn)
  unfolding looked_at shown_of
  looked_exactly claim b stem turn need fits =
      rw (need, fits, take-append_seam (stem ++ turn) (drop (length (stem ++ turn)) (replicate 4096 0))) (run_exactly b stem turn (ltb-false 4096 (length stem + length turn) fits))

  -- any other is not looked at
  pub looked_other : (claim : ℕ) (b : Bool) (r : ShownRun) → needs_of claim b ≡ false → looked claim b r ≡ Ok tt
  unfolding looked_at
  looked_other claim b r need = rw need refl

  pub is_shown_lem : (claim : ℕ) (b : Bool) (stem turn : List ℕ) → needs_of claim b ≡ true → (shown_of stem turn).long ≡ false → looked claim b (shown_of stem turn) ≡ Ok tt → IsShown T f h b stem turn
  is_shown_lem claim b stem turn need fits e =
      let low = sym (long_is stem turn) ∙ fits in
      (ltb-false 4096 (length stem + length turn) low, (looked_exactly claim b stem turn need low).0 e)

  pub shown_is : (claim : ℕ) (b : Bool) (stem turn : List ℕ) → needs_of claim b ≡ true → IsShown T f h b stem turn → ((shown_of stem turn).long ≡ false) × (looked claim b (shown_of stem turn) ≡ Ok tt)
  shown_is claim b stem turn need (few, c) =
      let low = le-ltb 4096 (length stem + length turn) few in
      (long_is stem turn ∙ low, (looked_exactly claim b stem turn need low).1 c)

  module _ (last : Monitor) (right : Right T f h (number_of (lamp_in (model_of last)).verdict)) (keep_stem keep_loop break_stem break_loop : List ℕ) where
    abbrev v : Verdict
    v = (lamp_in (model_of last)).verdict

    abbrev keeping : ShownRun
    keeping = shown_of keep_stem keep_loop

    abbrev breaking : ShownRun
    breaking = shown_of break_stem break_loop

    abbrev answer : ℕ → Judged
    answer claim = judged_at p fair label next rule event n last (report_of claim keep_stem keep_loop break_stem break_loop)

    accepted_by : (claim : ℕ) → (answer claim ≡ Accepted)
        ↔ (((claim ≤ 3) × (too_long claim keeping.long breaking.long ≡ false)) × ((looked claim true keeping ≡ Ok tt) × (looked claim false breaking ≡ Ok tt) × So (confirmed_by claim v)))
    unfolding judged_at report_judged
    accepted_by claim = Iff.trans (behind_check (report_checked claim keeping.long breaking.long) (decided_of claim v (looked claim true keeping) (looked claim false breaking))) (
      λ (a, b). ((checked_exactly claim keeping.long breaking.long).0 a, (decided_exactly claim v (looked claim true keeping) (looked claim false breaking)).0 b),
      λ (a, b). ((checked_exactly claim keeping.long breaking.long).1 a, (decided_exactly claim v (looked claim true keeping) (looked claim false breaking)).1 b),
    )

    -- A REPORT IS ACCEPTED EXACTLY IF IT IS RIGHT
    pub accepted_exactly : (claim : ℕ) → (answer claim ≡ Accepted) ↔ CorrectReport T f h keep_stem keep_loop break_stem break_loop claim
    unfolding too_long needs_of confirmed_by
    accepted_exactly zero = Iff.trans (accepted_by 0) (
      λ ((_, fit), (k, b, _)).
          let (x, y) = or-false keeping.long breaking.long fit in
          (is_shown_lem 0 true keep_stem keep_loop refl x k, is_shown_lem 0 false break_stem break_loop refl y b),
      λ (s, t).
          let (x, k) = shown_is 0 true keep_stem keep_loop refl s in
          let (y, b) = shown_is 0 false break_stem break_loop refl t in
          ((zero-le, both_false keeping.long breaking.long x y), (k, b, refl)),
    )
    accepted_exactly (suc zero) = Iff.trans (accepted_by 1) (
      λ ((_, fit), (k, _, c)).
          (is_shown_lem 1 true keep_stem keep_loop refl (or-false keeping.long false fit).0 k, right.sure_true.0 (sym (eqb-true 1 (number_of v) c))),
      λ (s, sure).
          let (x, k) = shown_is 1 true keep_stem keep_loop refl s in
          ((omega arith, both_false keeping.long false x refl), (k, looked_other 1 false breaking refl, eq-eqb 1 (number_of v) (sym (right.sure_true.1 sure)))),
    )
    accepted_exactly (suc (suc zero)) = Iff.trans (accepted_by 2) (
      λ ((_, fit), (_, b, c)). (is_shown_lem 2 false break_stem break_loop refl fit b, right.sure_false.0 (sym (eqb-true 2 (number_of v) c))),
      λ (t, sure).
          let (y, b) = shown_is 2 false break_stem break_loop refl t in
          ((omega arith, y), (looked_other 2 true keeping refl, b, eq-eqb 2 (number_of v) (sym (right.sure_false.1 sure)))),
    )
    accepted_exactly (suc (suc (suc zero))) = Iff.trans (accepted_by 3) (
      λ (_, (_, _, c)). right.out_of_model.0 (sym (eqb-true 3 (number_of v) c)),
      λ none. ((omega arith, refl), (looked_other 3 true keeping refl, looked_other 3 false breaking refl, eq-eqb 3 (number_of v) (sym (right.out_of_model.1 none)))),
    )
    accepted_exactly (suc (suc (suc (suc m)))) = Iff.trans (accepted_by (suc (suc (suc (suc m))))) (λ ((low, _), _). absurd (omega arith), λ none. absurd none)

-- Behind events that are all accepted: which run is wrong and what it fails first, when the verdict is wrong, and when the claim or a length is refused, each exactly.
use mathlib.Core.Logic.Iff
use Prim.Native.Nat.{ℕ, zero, suc, ◌+◌, ◌≤◌, ◌<◌, zero-le}
use native.Mathlib.Omega.{arith}
use Rattle.std.specs.Prelude.{◌≡◌, ◌↔◌, ◌⊎◌, Bool, ◌||◌, cond, List, ◌++◌, eqb, get_or, drop, replicate, Ok, Err, Result}
use Rattle.std.proofs.Math.Path.{refl}
use Rattle.std.proofs.Common.{sym, ap, subst, ◌∙◌, length-append}
use Rattle.std.proofs.Math.Logic.{inl, inr, ⊎_elim}
use Rattle.std.proofs.Math.Bool.{true, false}
use Rattle.std.proofs.lemmas.Bool.{false≢true}
use Rattle.std.proofs.Math.Dec.{ltb}
use Rattle.std.proofs.Math.ListN.{length}
use Rattle.std.proofs.Math.Seq.{take-append_seam, drop-append_seam}
use borrow.Author.Tests.{ltb-true, ltb-false, lt-ltb, le-ltb, eqb-false, ne_eqb}
use Rattle.meaning.specs.Says.{Kept}
use Rattle.meaning.specs.Formula.{Formula, Holds}
use Rattle.meaning.specs.Run as run
use Rattle.meaning.specs.Run.{Lasso, labels_along}
use Rattle.meaning.specs.Event.{History, AgreesWith, since}
use Rattle.meaning.specs.Verdict.{Agreeing, Right}
use Rattle.answers.specs.declared.Kind.TheVariants.{Value as ValueKind, RunLength}
use Rattle.answers.specs.declared.Verdict.{Verdict}
use Rattle.answers.specs.declared.Verdict.TheVariants.{Inconclusive, True, False, OutOfModel}
use Rattle.answers.specs.Results.{Outcome}
use Rattle.answers.specs.Paper.{number_of, kind_number, refused_at}
use Rattle.plant.specs.declared.Plant.{Plant}
use Rattle.plant.specs.Table.{plant_of}
use Rattle.syntax.specs.declared.Rule.{Rule}
use Rattle.syntax.specs.Value.{rule_of}
use Rattle.event_log.specs.declared.Event.{Event}
use Rattle.event_log.specs.Log.{nothing}
use Rattle.event_log.specs.Promises.{AllWritable}
use Rattle.watching.specs.Filled.{filled, InTurnAt}
use Rattle.around.specs.Along.{lasso_of}
use Rattle.shown.specs.declared.Failing.{Failing}
use Rattle.shown.specs.declared.Failing.TheVariants.{Start, Moves, Fairness, Agreement, Value}
use Rattle.shown.specs.Positions.{mark_of}
use Rattle.shown.specs.Shown.{Starts, MovesOn, FairOn, AgreesAll, Firsts}
use Rattle.shown.specs.Tests.{checked_of}
use Rattle.shown.proofs.Right.{run_is, checked_means}
use Rattle.neighbour.specs.declared.sent.ShownRun.{ShownRun}
use Rattle.neighbour.specs.declared.Judged.{Judged}
use Rattle.neighbour.specs.declared.Judged.TheVariants.{Accepted, WrongRun, WrongVerdict, Stopped, Refused}
use Rattle.neighbour.specs.Report.{shown_of, needs_of, too_long, report_checked, report_of}
use Rattle.neighbour.specs.Judged.{confirmed_by, decided_of, looked_at, report_judged, unless_refused, judged_at}
use Rattle.sides.specs.declared.Monitor.{Monitor}
use Rattle.sides.specs.Held.{model_of, lamp_in}
use Rattle.reported.specs.Placed.{mark_is, agrees_exactly}
use Rattle.reported.specs.Correct.{lasso}
use Rattle.reported.specs.Wrong.{Short, FailsFirst, WrongRunIn, WrongClaim, TooLong}
use Rattle.reported.specs.Every.{Deserves}
use Rattle.reported.proofs.Exactly.{or-false, both_false, long_is, checked_exactly, looked_other, is_shown_lem, shown_is, accepted_exactly}

-- ---- which answer it is

-- a number for each answer: 0 accepted, 1 and 2 a wrong run of each kind, 3 a wrong verdict, and from 4 on what is refused, by its number
code : Judged → ℕ
code Accepted = 0
code (WrongRun x) = cond x.keeps 1 2
code WrongVerdict = 3
code (Stopped s) = 4
code (Refused r) = 5 + kind_number r.kind

failing_of : Judged → Failing
failing_of Accepted = Start
failing_of (WrongRun x) = x.failing
failing_of WrongVerdict = Start
failing_of (Stopped s) = Start
failing_of (Refused r) = Start

other : {X : Type 0} (a b : Judged) → eqb (code a) (code b) ≡ false → a ≡ b → X
other a b d e = absurd (eqb-false (code a) (code b) d (ap code e))

found : Result (Unit {0}) Failing → ℕ
found (Ok _) = 0
found (Err x) = 1

unlike : {X : Type 0} (x y : Result (Unit {0}) Failing) → eqb (found x) (found y) ≡ false → x ≡ y → X
unlike x y d e = absurd (eqb-false (found x) (found y) d (ap found e))

failing : Result (Unit {0}) Failing → Failing
failing (Ok _) = Start
failing (Err x) = x

abbrev wrong : Bool → Failing → Judged
wrong keeps x = WrongRun (record { keeps = keeps; failing = x })

-- what of the two runs makes it so
abbrev FoundWrong : Bool → Failing → Result (Unit {0}) Failing → Result (Unit {0}) Failing → Type 0
FoundWrong true z x y = x ≡ Err z
FoundWrong false z x y = (x ≡ Ok tt) × (y ≡ Err z)

decided_wrong : (claim : ℕ) (v : Verdict) (keeps : Bool) (z : Failing) (x y : Result (Unit {0}) Failing) → (decided_of claim v x y ≡ wrong keeps z) ↔ FoundWrong keeps z x y
unfolding code failing_of found failing
decided_wrong claim v true z (Err x) y = (λ e. ap Err (ap failing_of e), λ h. ap (λ (q : Failing). wrong true q) (ap failing h))
decided_wrong claim v true z (Ok _) (Err y) = (λ e. other (wrong false y) (wrong true z) refl e, λ h. unlike (Ok tt) (Err z) refl h)
decided_wrong claim v true z (Ok _) (Ok _) = (λ e. by (confirmed_by claim v) e, λ h. unlike (Ok tt) (Err z) refl h)
  where
    by : {X : Type 0} (b : Bool) → cond b Accepted WrongVerdict ≡ wrong true z → X
    by true e = other Accepted (wrong true z) refl e
    by false e = other WrongVerdict (wrong true z) refl e
decided_wrong claim v false z (Err x) y = (λ e. other (wrong true x) (wrong false z) refl e, λ h. unlike (Err x) (Ok tt) refl h.0)
decided_wrong claim v false z (Ok _) (Err y) = (λ e. (refl, ap Err (ap failing_of e)), λ h. ap (λ (q : Failing). wrong false q) (ap failing h.1))
decided_wrong claim v false z (Ok _) (Ok _) = (λ e. by (confirmed_by claim v) e, λ h. unlike (Ok tt) (Err z) refl h.1)
  where
    by : {X : Type 0} (b : Bool) → cond b Accepted WrongVerdict ≡ wrong false z → X
    by true e = other Accepted (wrong false z) refl e
    by false e = other WrongVerdict (wrong false z) refl e

decided_verdict : (claim : ℕ) (v : Verdict) (x y : Result (Unit {0}) Failing) → (decided_of claim v x y ≡ WrongVerdict) ↔ ((x ≡ Ok tt) × (y ≡ Ok tt) × (confirmed_by claim v ≡ false))
unfolding code found
decided_verdict claim v (Err x) y = (λ e. other (wrong true x) WrongVerdict refl e, λ h. unlike (Err x) (Ok tt) refl h.0)
decided_verdict claim v (Ok _) (Err y) = (λ e. other (wrong false y) WrongVerdict refl e, λ h. unlike (Err y) (Ok tt) refl h.1)
decided_verdict claim v (Ok _) (Ok _) = by (confirmed_by claim v)
  where
    by : (b : Bool) → (cond b Accepted WrongVerdict ≡ WrongVerdict) ↔ ((◌≡◌ {A = Result (Unit {0}) Failing} (Ok tt) (Ok tt)) × (◌≡◌ {A = Result (Unit {0}) Failing} (Ok tt) (Ok tt)) × (b ≡ false))
    by true = (λ e. other Accepted WrongVerdict refl e, λ h. absurd (false≢true (sym h.2)))
    by false = (λ e. (refl, refl, refl), λ h. refl)

-- no refusal comes from the runs
not_refused : {X : Type 0} (claim : ℕ) (v : Verdict) (x y : Result (Unit {0}) Failing) (n : ℕ) → 5 ≤ n → code (decided_of claim v x y) ≡ n → X
unfolding code
not_refused claim v (Err x) y n l e = absurd (omega arith)
not_refused claim v (Ok _) (Err y) n l e = absurd (omega arith)
not_refused claim v (Ok _) (Ok _) n l e = by (confirmed_by claim v) e
  where
    by : {X : Type 0} (b : Bool) → code (cond b Accepted WrongVerdict) ≡ n → X
    by true e = absurd (omega arith)
    by false e = absurd (omega arith)

-- an answer that is no refusal comes behind the check
behind : (o : Outcome) (j a : Judged) → code a ≤ 4 → (unless_refused o j ≡ a) ↔ ((o ≡ Ok tt) × (j ≡ a))
unfolding code
behind (Ok _) j a l = (λ e. (refl, e), λ h. h.1)
behind (Err r) j a l = (λ e. absurd (omega (arith, l, ap code e)), λ h. absurd (refuses h.0))
  where
    taken : Outcome → Bool
    taken (Ok _) = true
    taken (Err r) = false

    refuses : ◌≡◌ {A = Outcome} (Err r) (Ok tt) → ⊥
    refuses e = false≢true (ap taken e)

-- ---- the first rule that a run fails

firsts_with : {A B C D D' E E' : Type 0} {r : Result (Unit {0}) Failing} → (D ↔ D') → (E ↔ E') → Firsts A B C D E r → Firsts A B C D' E' r
firsts_with g k x = record {
  correct = Iff.trans x.correct (λ (a, b, c, d, e). (a, b, c, g.0 d, k.0 e), λ (a, b, c, d, e). (a, b, c, g.1 d, k.1 e));
  start = x.start;
  moves = x.moves;
  fairness = x.fairness;
  agreement = Iff.trans x.agreement (λ (a, b, c, d). (a, b, c, λ y. d (g.1 y)), λ (a, b, c, d). (a, b, c, λ y. d (g.0 y)));
  value = Iff.trans x.value (λ (a, b, c, d, e). (a, b, c, g.0 d, λ y. e (k.1 y)), λ (a, b, c, d, e). (a, b, c, g.1 d, λ y. e (k.0 y)));
}

module _ (p : Plant) (fair label next : List ℕ) (rule : Rule) (f : Formula) (is : rule ≡ rule_of f) (short : rule.len ≤ 32) (w : ℕ) (es : List Event) (event : ℕ → Event)
    (same : (k : ℕ) → event k ≡ get_or es k nothing) (writable : AllWritable w es) (turns : (k : ℕ) → k < length es → InTurnAt es k) where
  abbrev T : run.Plant
  T = plant_of p fair label next

  abbrev h : History
  h = since (filled es)

  abbrev n : ℕ
  n = length es

  abbrev looked : ℕ → Bool → ShownRun → Result (Unit {0}) Failing
  looked claim b r = looked_at p fair label next rule event n (mark_of event n) claim b r

  module _ (b : Bool) (stem turn : List ℕ) (few : Short stem turn) where
    abbrev checked : Result (Unit {0}) Failing
    checked = checked_of p fair label next rule event n (mark_of event n) b (stem ++ turn) (length stem)

    whole : lasso_of (stem ++ turn) (length stem) ≡ lasso stem turn
    whole = λ i. record { stem = take-append_seam stem turn i; loop = drop-append_seam stem turn i }

    run_of_lem : (Starts T (stem ++ turn) × MovesOn T (stem ++ turn) (length stem) × FairOn T (stem ++ turn) (length stem)) ↔ run.Run T (lasso stem turn)
    run_of_lem = subst (λ (x : Lasso). (Starts T (stem ++ turn) × MovesOn T (stem ++ turn) (length stem) × FairOn T (stem ++ turn) (length stem)) ↔ run.Run T x) whole (run_is T (stem ++ turn) (length stem))

    -- the five rules, with the events and the mark of the history
    abbrev By : Lasso → Type 0
    By x = Firsts (Starts T (stem ++ turn)) (MovesOn T (stem ++ turn) (length stem)) (FairOn T (stem ++ turn) (length stem)) (AgreesWith T x h.events) (Kept b (Holds (labels_along T x) f h.mark)) checked

    first : By (lasso stem turn)
    first = subst By whole (firsts_with agree value ((checked_means p fair label next rule event n (mark_of event n) b (stem ++ turn) (length stem) checked (short, omega (arith, few, length-append stem turn)) refl).says f is))
      where
        M : Lasso
        M = lasso_of (stem ++ turn) (length stem)

        mark : h.mark ≡ mark_of event n
        mark = mark_is T M w es event same writable turns

        agree : AgreesAll T M event n ↔ AgreesWith T M h.events
        agree = ((agrees_exactly T M w es event same writable turns).1, (agrees_exactly T M w es event same writable turns).0)

        value : Kept b (Holds (labels_along T M) f (mark_of event n)) ↔ Kept b (Holds (labels_along T M) f h.mark)
        value = (subst (λ (x : ℕ). Kept b (Holds (labels_along T M) f x)) (sym mark), subst (λ (x : ℕ). Kept b (Holds (labels_along T M) f x)) mark)

    fails_exactly : (z : Failing) → (checked ≡ Err z) ↔ FailsFirst T f h b stem turn z
    fails_exactly Start = first.start
    fails_exactly Moves = first.moves
    fails_exactly Fairness = first.fairness
    fails_exactly Agreement = Iff.trans first.agreement (λ (a, m, c, d). (run_of_lem.0 (a, m, c), d), λ (r, d). let (a, m, c) = run_of_lem.1 r in (a, m, c, d))
    fails_exactly Value = Iff.trans first.value (λ (a, m, c, d, e). ((run_of_lem.0 (a, m, c), d), e), λ ((r, d), e). let (a, m, c) = run_of_lem.1 r in (a, m, c, d, e))

  -- so it is with a run that the claim needs and that is short enough
  looked_fails : (claim : ℕ) (b : Bool) (stem turn : List ℕ) → needs_of claim b ≡ true → Short stem turn → (z : Failing)
      → (looked claim b (shown_of stem turn) ≡ Err z) ↔ FailsFirst T f h b stem turn z
  unfolding looked_at shown_of
  looked_fails claim b stem turn need few z =
      rw (need, le-ltb 4096 (length stem + length turn) few, take-append_seam (stem ++ turn) (drop (length (stem ++ turn)) (replicate 4096 0))) (fails_exactly b stem turn few z)

  short_of : (stem turn : List ℕ) → (shown_of stem turn).long ≡ false → Short stem turn
  short_of stem turn e = ltb-false 4096 (length stem + length turn) (sym (long_is stem turn) ∙ e)

  long_not : (stem turn : List ℕ) → Short stem turn → (shown_of stem turn).long ≡ false
  long_not stem turn few = long_is stem turn ∙ le-ltb 4096 (length stem + length turn) few

  long_of : (stem turn : List ℕ) → ((shown_of stem turn).long ≡ true) ↔ (4096 < length stem + length turn)
  long_of stem turn = (λ e. ltb-true 4096 (length stem + length turn) (sym (long_is stem turn) ∙ e), λ l. long_is stem turn ∙ lt-ltb 4096 (length stem + length turn) l)

  -- a verdict that is not out-of-model has a run that agrees
  some_run : (v : Verdict) → Right T f h (number_of v) → (3 ≡ number_of v → ⊥) → (L : Lasso) × Agreeing T h L
  some_run Inconclusive right not-out = let ((L, c), _) = right.inconclusive.0 refl in (L, (c.run, c.agrees))
  some_run True right not-out = (right.sure_true.0 refl).0
  some_run False right not-out = (right.sure_false.0 refl).0
  some_run OutOfModel right not-out = absurd (not-out refl)

  module _ (last : Monitor) (right : Right T f h (number_of (lamp_in (model_of last)).verdict)) (keep_stem keep_loop break_stem break_loop : List ℕ) where
    abbrev v : Verdict
    v = (lamp_in (model_of last)).verdict

    abbrev keeping : ShownRun
    keeping = shown_of keep_stem keep_loop

    abbrev breaking : ShownRun
    breaking = shown_of break_stem break_loop

    abbrev answer : ℕ → Judged
    answer claim = judged_at p fair label next rule event n last (report_of claim keep_stem keep_loop break_stem break_loop)

    abbrev Passes : ℕ → Type 0
    Passes claim = (claim ≤ 3) × (too_long claim keeping.long breaking.long ≡ false)

    wrong_by : (claim : ℕ) (keeps : Bool) (z : Failing) → (answer claim ≡ wrong keeps z) ↔ (Passes claim × FoundWrong keeps z (looked claim true keeping) (looked claim false breaking))
    unfolding judged_at report_judged code
    wrong_by claim keeps z = Iff.trans (behind (report_checked claim keeping.long breaking.long) (decided_of claim v (looked claim true keeping) (looked claim false breaking)) (wrong keeps z) (few keeps)) (
      λ (a, b). ((checked_exactly claim keeping.long breaking.long).0 a, (decided_wrong claim v keeps z (looked claim true keeping) (looked claim false breaking)).0 b),
      λ (a, b). ((checked_exactly claim keeping.long breaking.long).1 a, (decided_wrong claim v keeps z (looked claim true keeping) (looked claim false breaking)).1 b),
    )
      where
        few : (keeps : Bool) → code (wrong keeps z) ≤ 4
        few true = omega arith
        few false = omega arith

    verdict_by : (claim : ℕ) → (answer claim ≡ WrongVerdict) ↔ (Passes claim × ((looked claim true keeping ≡ Ok tt) × (looked claim false breaking ≡ Ok tt) × (confirmed_by claim v ≡ false)))
    unfolding judged_at report_judged code
    verdict_by claim = Iff.trans (behind (report_checked claim keeping.long breaking.long) (decided_of claim v (looked claim true keeping) (looked claim false breaking)) WrongVerdict (omega arith)) (
      λ (a, b). ((checked_exactly claim keeping.long breaking.long).0 a, (decided_verdict claim v (looked claim true keeping) (looked claim false breaking)).0 b),
      λ (a, b). ((checked_exactly claim keeping.long breaking.long).1 a, (decided_verdict claim v (looked claim true keeping) (looked claim false breaking)).1 b),
    )

    -- a run that is not looked at fails nothing
    no_fault : {X : Type 0} (claim : ℕ) (b : Bool) (r : ShownRun) (z : Failing) → needs_of claim b ≡ false → looked claim b r ≡ Err z → X
    unfolding found
    no_fault claim b r z need e = unlike (Ok tt) (Err z) refl (sym (looked_other p fair label next rule f is short w es event same writable turns claim b r need) ∙ e)

    -- THE FIRST WRONG RUN, AND THE FIRST RULE THAT IT FAILS
    pub wrong_run_exactly : (claim : ℕ) (keeps : Bool) (z : Failing) → (answer claim ≡ wrong keeps z) ↔ WrongRunIn T f h keep_stem keep_loop break_stem break_loop claim keeps z
    unfolding too_long needs_of
    wrong_run_exactly zero true z = Iff.trans (wrong_by 0 true z) (
      λ ((_, fit), x).
          let (k, b) = or-false keeping.long breaking.long fit in
          let s = short_of keep_stem keep_loop k in
          (s, short_of break_stem break_loop b, (looked_fails 0 true keep_stem keep_loop refl s z).0 x),
      λ (s, t, x). ((zero-le, both_false keeping.long breaking.long (long_not keep_stem keep_loop s) (long_not break_stem break_loop t)), (looked_fails 0 true keep_stem keep_loop refl s z).1 x),
    )
    wrong_run_exactly zero false z = Iff.trans (wrong_by 0 false z) (
      λ ((_, fit), (x, y)).
          let (k, b) = or-false keeping.long breaking.long fit in
          let t = short_of break_stem break_loop b in
          (is_shown_lem p fair label next rule f is short w es event same writable turns 0 true keep_stem keep_loop refl k x, t, (looked_fails 0 false break_stem break_loop refl t z).0 y),
      λ (s, t, y).
          let (k, x) = shown_is p fair label next rule f is short w es event same writable turns 0 true keep_stem keep_loop refl s in
          ((zero-le, both_false keeping.long breaking.long k (long_not break_stem break_loop t)), (x, (looked_fails 0 false break_stem break_loop refl t z).1 y)),
    )
    wrong_run_exactly (suc zero) true z = Iff.trans (wrong_by 1 true z) (
      λ ((_, fit), x). let s = short_of keep_stem keep_loop (or-false keeping.long false fit).0 in (s, (looked_fails 1 true keep_stem keep_loop refl s z).0 x),
      λ (s, x). ((omega arith, both_false keeping.long false (long_not keep_stem keep_loop s) refl), (looked_fails 1 true keep_stem keep_loop refl s z).1 x),
    )
    wrong_run_exactly (suc zero) false z = Iff.trans (wrong_by 1 false z) (λ (_, (_, y)). no_fault 1 false breaking z refl y, λ none. absurd none)
    wrong_run_exactly (suc (suc zero)) true z = Iff.trans (wrong_by 2 true z) (λ (_, x). no_fault 2 true keeping z refl x, λ none. absurd none)
    wrong_run_exactly (suc (suc zero)) false z = Iff.trans (wrong_by 2 false z) (
      λ ((_, fit), (_, y)). let t = short_of break_stem break_loop fit in (t, (looked_fails 2 false break_stem break_loop refl t z).0 y),
      λ (t, y). (
        (omega arith, long_not break_stem break_loop t),
        (looked_other p fair label next rule f is short w es event same writable turns 2 true keeping refl, (looked_fails 2 false break_stem break_loop refl t z).1 y),
      ),
    )
    wrong_run_exactly (suc (suc (suc zero))) true z = Iff.trans (wrong_by 3 true z) (λ (_, x). no_fault 3 true keeping z refl x, λ none. absurd none)
    wrong_run_exactly (suc (suc (suc zero))) false z = Iff.trans (wrong_by 3 false z) (λ (_, (_, y)). no_fault 3 false breaking z refl y, λ none. absurd none)
    wrong_run_exactly (suc (suc (suc (suc m)))) true z = Iff.trans (wrong_by (suc (suc (suc (suc m)))) true z) (λ ((low, _), _). absurd (omega arith), λ none. absurd none)
    wrong_run_exactly (suc (suc (suc (suc m)))) false z = Iff.trans (wrong_by (suc (suc (suc (suc m)))) false z) (λ ((low, _), _). absurd (omega arith), λ none. absurd none)

    -- THE RUNS ARE RIGHT AND THE VERDICT IS WRONG
    pub wrong_verdict_exactly : (claim : ℕ) → (answer claim ≡ WrongVerdict) ↔ WrongClaim T f h keep_stem keep_loop break_stem break_loop claim
    unfolding too_long needs_of confirmed_by
    wrong_verdict_exactly zero = Iff.trans (verdict_by 0) (λ (_, (_, _, c)). absurd (false≢true (sym c)), λ none. absurd none)
    wrong_verdict_exactly (suc zero) = Iff.trans (verdict_by 1) (
      λ ((_, fit), (k, _, c)). (
        is_shown_lem p fair label next rule f is short w es event same writable turns 1 true keep_stem keep_loop refl (or-false keeping.long false fit).0 k,
        λ sure. eqb-false 1 (number_of v) c (sym (right.sure_true.1 sure)),
      ),
      λ (s, unsure).
          let (x, k) = shown_is p fair label next rule f is short w es event same writable turns 1 true keep_stem keep_loop refl s in (
            (omega arith, both_false keeping.long false x refl),
            (k, looked_other p fair label next rule f is short w es event same writable turns 1 false breaking refl, ne_eqb 1 (number_of v) (λ e. unsure (right.sure_true.0 (sym e)))),
          ),
    )
    wrong_verdict_exactly (suc (suc zero)) = Iff.trans (verdict_by 2) (
      λ ((_, fit), (_, b, c)). (
        is_shown_lem p fair label next rule f is short w es event same writable turns 2 false break_stem break_loop refl fit b,
        λ sure. eqb-false 2 (number_of v) c (sym (right.sure_false.1 sure)),
      ),
      λ (t, unsure).
          let (y, b) = shown_is p fair label next rule f is short w es event same writable turns 2 false break_stem break_loop refl t in (
            (omega arith, y),
            (looked_other p fair label next rule f is short w es event same writable turns 2 true keeping refl, b, ne_eqb 2 (number_of v) (λ e. unsure (right.sure_false.0 (sym e)))),
          ),
    )
    wrong_verdict_exactly (suc (suc (suc zero))) = Iff.trans (verdict_by 3) (
      λ (_, (_, _, c)). some_run v right (eqb-false 3 (number_of v) c),
      λ (L, a). (
        (omega arith, refl),
        (
          looked_other p fair label next rule f is short w es event same writable turns 3 true keeping refl,
          looked_other p fair label next rule f is short w es event same writable turns 3 false breaking refl,
          ne_eqb 3 (number_of v) (λ e. right.out_of_model.0 (sym e) L a),
        ),
      ),
    )
    wrong_verdict_exactly (suc (suc (suc (suc m)))) = Iff.trans (verdict_by (suc (suc (suc (suc m))))) (λ ((low, _), _). absurd (omega arith), λ none. absurd none)

    -- 9 AND 22
    abbrev decided : ℕ → Judged
    decided claim = decided_of claim v (looked claim true keeping) (looked claim false breaking)

    -- the check of the claim and the lengths, by its two tests
    abbrev tested : Bool → Bool → Outcome
    tested x y = cond x (Err (refused_at ValueKind 0)) (cond y (Err (refused_at RunLength 0)) (Ok tt))

    pub no_claim_exactly : (claim : ℕ) → (answer claim ≡ Refused (refused_at ValueKind 0)) ↔ (3 < claim)
    unfolding judged_at report_judged report_checked code
    no_claim_exactly claim = by (ltb 3 claim) refl (too_long claim keeping.long breaking.long)
      where
        by : (x : Bool) → ltb 3 claim ≡ x → (y : Bool) → (unless_refused (tested x y) (decided claim) ≡ Refused (refused_at ValueKind 0)) ↔ (3 < claim)
        by true e y = (λ _. ltb-true 3 claim e, λ _. refl)
        by false e true = (λ g. other (Refused (refused_at RunLength 0)) (Refused (refused_at ValueKind 0)) refl g, λ l. absurd (omega (arith, ltb-false 3 claim e, l)))
        by false e false = (λ g. not_refused claim v (looked claim true keeping) (looked claim false breaking) 14 (omega arith) (ap code g), λ l. absurd (omega (arith, ltb-false 3 claim e, l)))

    long_by : (claim : ℕ) → (answer claim ≡ Refused (refused_at RunLength 0)) ↔ ((claim ≤ 3) × (too_long claim keeping.long breaking.long ≡ true))
    unfolding judged_at report_judged report_checked code
    long_by claim = by (ltb 3 claim) refl (too_long claim keeping.long breaking.long)
      where
        by : (x : Bool) → ltb 3 claim ≡ x → (y : Bool) → (unless_refused (tested x y) (decided claim) ≡ Refused (refused_at RunLength 0)) ↔ ((claim ≤ 3) × (y ≡ true))
        by true e y = (λ g. other (Refused (refused_at ValueKind 0)) (Refused (refused_at RunLength 0)) refl g, λ (l, _). absurd (omega (arith, ltb-true 3 claim e, l)))
        by false e true = (λ _. (ltb-false 3 claim e, refl), λ _. refl)
        by false e false = (λ g. not_refused claim v (looked claim true keeping) (looked claim false breaking) 27 (omega arith) (ap code g), λ (_, t). absurd (false≢true t))

    either_true : (a b : Bool) → ((a || b) ≡ true) ↔ ((a ≡ true) ⊎ (b ≡ true))
    either_true true b = (λ _. inl refl, λ _. refl)
    either_true false b = (λ e. inr e, ⊎_elim (λ (e : false ≡ true). absurd (false≢true e)) (λ e. e))

    pub too_long_exactly : (claim : ℕ) → (answer claim ≡ Refused (refused_at RunLength 0)) ↔ TooLong T f h keep_stem keep_loop break_stem break_loop claim
    unfolding too_long needs_of
    too_long_exactly zero = Iff.trans (long_by 0) (
      λ (_, e). ⊎_elim (λ k. inl ((long_of keep_stem keep_loop).0 k)) (λ b. inr ((long_of break_stem break_loop).0 b)) ((either_true keeping.long breaking.long).0 e),
      λ s. (zero-le, (either_true keeping.long breaking.long).1 (⊎_elim (λ k. inl ((long_of keep_stem keep_loop).1 k)) (λ b. inr ((long_of break_stem break_loop).1 b)) s)),
    )
    too_long_exactly (suc zero) = Iff.trans (long_by 1) (
      λ (_, e). ⊎_elim (λ k. (long_of keep_stem keep_loop).0 k) (λ (z : false ≡ true). absurd (false≢true z)) ((either_true keeping.long false).0 e),
      λ l. (omega arith, (either_true keeping.long false).1 (inl ((long_of keep_stem keep_loop).1 l))),
    )
    too_long_exactly (suc (suc zero)) = Iff.trans (long_by 2) (λ (_, e). (long_of break_stem break_loop).0 e, λ l. (omega arith, (long_of break_stem break_loop).1 l))
    too_long_exactly (suc (suc (suc zero))) = Iff.trans (long_by 3) (λ (_, e). absurd (false≢true e), λ none. absurd none)
    too_long_exactly (suc (suc (suc (suc m)))) = Iff.trans (long_by (suc (suc (suc (suc m))))) (λ (low, _). absurd (omega arith), λ none. absurd none)

    -- EACH ANSWER IS GIVEN EXACTLY WHERE THE REPORT DESERVES IT
    pub deserved : (claim : ℕ) → Deserves claim keep_stem keep_loop break_stem break_loop T f h (answer claim)
    deserved claim = record {
      no_claim = no_claim_exactly claim;
      too_long = too_long_exactly claim;
      wrong_run = wrong_run_exactly claim;
      wrong_verdict = wrong_verdict_exactly claim;
      accepted = accepted_exactly p fair label next rule f is short w es event same writable turns last right keep_stem keep_loop break_stem break_loop claim;
    }

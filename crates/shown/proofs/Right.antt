-- More of specs/Right. What the tests find is what the check's rules say.
use Rattle.std.specs.Prelude.{ℕ, ◌-◌, ◌≤◌, ◌<◌, ◌≡◌, refl, ◌↔◌, Bool, List, length, get_or, Result}
use Rattle.std.proofs.Common.{ap, subst, ◌∙◌, arith, length-drop}
use Rattle.plant.specs.declared.Plant as plant
use Rattle.plant.specs.Table.{plant_of}
use Rattle.syntax.specs.declared.Rule.{Rule}
use Rattle.meaning.specs.Says.{Says}
use Rattle.meaning.specs.Formula.{Formula, Holds}
use Rattle.meaning.specs.Run.{Plant, FairLasso, Run, state_at, labels_along}
use Rattle.event_log.specs.declared.Event.{Event}
use Rattle.around.proofs.Places.{place_self}
use Rattle.around.specs.Along.{lasso_of, labels_of}
use Rattle.around.proofs.AlongLaws.{state_at_lem, run_means}
use Rattle.around.specs.Fill.{around_of}
use Rattle.shown.specs.declared.Failing.{Failing}
use Rattle.shown.specs.Shown.{Starts, MovesOn, FairOn, AgreesAll, FirstFailing}
use Rattle.shown.specs.First.{first_says}
use Rattle.shown.specs.Tests.{starts_of, moves_of, fair_of, agree_of, kept_of, first_of, checked_of}
use Rattle.shown.specs.Right.{Means, kept_says}
use Rattle.shown.specs.Right as of_right

module _ (T : Plant) (run : List ℕ) (s : ℕ) where
  abbrev n : ℕ
  n = of_right.n T run s

  abbrev starts_say : Says (starts_of T.start T.states run) (Starts T run)
  starts_say = of_right.starts_say T run s

  abbrev moves_say : Says (moves_of T.next T.states run s) (MovesOn T run s)
  moves_say = of_right.moves_say T run s

  abbrev fair_say : Says (fair_of T.fair run s) (FairOn T run s)
  fair_say = of_right.fair_say T run s

  module _ (loops : s < n) where
    abbrev agree_say : (event : ℕ → Event) (lines : ℕ) → Says (agree_of T.label run s event lines) (AgreesAll T (lasso_of run s) event lines)
    agree_say = of_right.agree_say T run s loops

    -- the rules of moves and fairness are those of a run
    first_state : state_at (lasso_of run s) 0 ≡ get_or run 0 0
    first_state = state_at_lem run s loops 0 ∙ ap (λ (k : ℕ). get_or run k 0) (place_self s n loops 0 (omega arith))

    abbrev run_walks : MovesOn T run s → FairOn T run s → FairLasso T (lasso_of run s)
    run_walks = of_right.run_walks T run s loops

    abbrev walk_moves : FairLasso T (lasso_of run s) → MovesOn T run s
    walk_moves = of_right.walk_moves T run s loops

    abbrev walk_fair : FairLasso T (lasso_of run s) → FairOn T run s
    walk_fair = of_right.walk_fair T run s loops

  -- the first three are those of a run
  pub run_is : (Starts T run × MovesOn T run s × FairOn T run s) ↔ Run T (lasso_of run s)
  run_is = (
    λ (st, m, f). record { walk = run_walks m.0 m f; starts = rw (first_state m.0) st.2 },
    λ r.
        let loops : s < n = omega (arith, loop_some r) in (
          (omega arith, subst (λ (k : ℕ). k < T.states) (first_state loops) (r.walk.within 0), rw (first_state loops) at r.starts),
          walk_moves loops r.walk,
          walk_fair loops r.walk,
        ),
  )
    where
      loop_some : Run T (lasso_of run s) → 0 < n - s
      loop_some r = rw length-drop at r.walk.loops

pub judged : (T : Plant) (f : Formula) (b : Bool) (event : ℕ → Event) (lines mark : ℕ) (run : List ℕ) (s : ℕ) (v : Bool)
    → (s < length run → Says v (Holds (labels_along T (lasso_of run s)) f mark))
    → FirstFailing T f b event lines mark run s
    (first_of (starts_of T.start T.states run) (moves_of T.next T.states run s) (fair_of T.fair run s) (agree_of T.label run s event lines) (kept_of b v))
judged T f b event lines mark run s v h =
    first_says _ _ _ _ _ (starts_say T run s) (moves_say T run s) (fair_say T run s) (λ m. agree_say T run s m.0 event lines) (λ m. kept_says b v (h m.0))

pub checked_means :
    (p : plant.Plant) (fair label next : List ℕ) (rule : Rule) (event : ℕ → Event) (lines mark : ℕ) (keeps : Bool) (run : List ℕ) (s : ℕ) (r : Result (Unit {0}) Failing)
    → (rule.len ≤ 32) × (length run ≤ 4096) → r ≡ checked_of p fair label next rule event lines mark keeps run s → Means p fair label next rule event lines mark keeps run s r
unfolding checked_of
checked_means p fair label next rule event lines mark keeps run s r (short, few) e = record {
  says = λ f h.
      rw e
      (judged (plant_of p fair label next) f keeps event lines mark run s (around_of rule (labels_of label run) s mark)
      (λ loops. (run_means rule label run s mark (around_of rule (labels_of label run) s mark) (short, loops, few) refl).says (plant_of p fair label next) f refl h));
}

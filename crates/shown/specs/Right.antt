-- What the tests find is what the check's rules say.
use mathlib.Core.Logic.Iff
use Rattle.std.specs.Prelude.{ℕ, suc, ◌+◌, ◌-◌, ◌<◌, ◌≡◌, Bool, true, false, ◌&&◌, List, length, get_or, drop, Result}
use Rattle.std.proofs.Common.{subst, arith, add-one, length-drop, get_or-drop}
use Rattle.std.proofs.Math.Bool.{So}
use Rattle.std.proofs.Math.Dec.{leb}
use Rattle.plant.specs.declared.Plant as plant
use Rattle.plant.specs.Table.{plant_of}
use Rattle.syntax.specs.declared.Rule.{Rule}
use Rattle.syntax.specs.Value.{rule_of}
use Rattle.meaning.specs.Bit.{bit}
use Rattle.meaning.specs.Says.{Says, Kept}
use Rattle.meaning.specs.Formula.{Formula}
use Rattle.meaning.specs.Run.{Plant, FairLasso, label_of, next_of}
use Rattle.words.specs.Truth.{says_itself, says_and, says_not}
use Rattle.words.specs.Tests.{lt_says, le_says}
use Rattle.words.specs.Folds.{any_says, all_says}
use Rattle.event_log.specs.declared.Event.{Event}
use Rattle.labels.specs.Labels.{agrees_says}
use Rattle.around.specs.Around.{place}
use Rattle.around.proofs.Places.{place_below, place_self, place_on}
use Rattle.around.specs.Along.{lasso_of}
use Rattle.around.proofs.AlongLaws.{state_at_lem}
use Rattle.shown.specs.declared.Failing.{Failing}
use Rattle.shown.specs.Shown.{Starts, MovesOn, FairOn, AgreesAll, FirstFailing}
use Rattle.shown.specs.Positions.{position_at}
use Rattle.shown.specs.Tests.{starts_of, move_at, moves_of, meets_of, fair_of, agree_at, agree_of, kept_of}

module _ (T : Plant) (run : List ℕ) (s : ℕ) where
  abbrev pub n : ℕ
  n = length run

  pub starts_say : Says (starts_of T.start T.states run) (Starts T run)
  unfolding starts_of
  starts_say = Iff.trans
      (says_and (says_and (lt_says 0 n) (lt_says (get_or run 0 0) T.states)) (says_itself (bit T.start (get_or run 0 0))))
      (λ ((a, b), c). (a, b, c), λ (a, b, c). ((a, b), c))

  pub moves_say : Says (moves_of T.next T.states run s) (MovesOn T run s)
  unfolding moves_of
  moves_say = says_and (lt_says s n) (all_says (move_at T.next T.states run s) _
      (λ i. says_and (lt_says (get_or run i 0) T.states) (rw (add-one i) (says_itself (bit (next_of T (get_or run i 0)) (get_or run (place s n (suc i)) 0))))) n)

  pub fair_say : Says (fair_of T.fair run s) (FairOn T run s)
  unfolding fair_of meets_of
  fair_say = all_says (λ j. meets_of (get_or T.fair j 0) run s) _
      (λ j. any_says (λ i. leb s i && bit (get_or T.fair j 0) (get_or run i 0)) _ (λ i. says_and (le_says s i) (says_itself (bit (get_or T.fair j 0) (get_or run i 0)))) n)
      (length T.fair)

  module _ (loops : s < n) where
    pub agree_say : (event : ℕ → Event) (lines : ℕ) → Says (agree_of T.label run s event lines) (AgreesAll T (lasso_of run s) event lines)
    unfolding agree_of
    agree_say event lines =
        all_says (agree_at T.label run s event) _
        (λ i. rw (state_at_lem run s loops (position_at event i)) (agrees_says (event i).see (event i).val (label_of T (get_or run (place s n (position_at event i)) 0)))) lines

    loop_length : length (drop s run) ≡ n - s
    loop_length = rw length-drop

    pub run_walks : MovesOn T run s → FairOn T run s → FairLasso T (lasso_of run s)
    run_walks m f = record {
      loops = rw loop_length (omega arith);
      within = λ i. rw (state_at_lem run s loops i) (m.1 (place s n i) (place_below s n loops i)).0;
      moves = λ i. rw (state_at_lem run s loops i, state_at_lem run s loops (suc i), ← (place_on s n loops i)) (m.1 (place s n i) (place_below s n loops i)).1;
      fair = λ j l.
          let (i, h, (le, met)) = f j l in
          let e : s + (i - s) ≡ i = omega arith in
          (i - s, rw loop_length (omega arith), rw (get_or-drop, e) met);
    }

    pub walk_moves : FairLasso T (lasso_of run s) → MovesOn T run s
    walk_moves w = (
      loops,
      λ i l.
          let e = place_self s n loops i l in (
            subst (λ (k : ℕ). get_or run k 0 < T.states) e (rw (state_at_lem run s loops i) at (w.within i)),
            subst (λ (k : ℕ). So (bit (next_of T (get_or run k 0)) (get_or run (place s n (suc i)) 0))) e
                (rw (state_at_lem run s loops i, state_at_lem run s loops (suc i)) at (w.moves i)),
          ),
    )

    pub walk_fair : FairLasso T (lasso_of run s) → FairOn T run s
    walk_fair w j l =
        let (i, h, met) = w.fair j l in
        let k : i < n - s = rw loop_length at h in
        (s + i, omega arith, (omega arith, rw get_or-drop at met))

-- the value asked
pub kept_says : (b v : Bool) {A : Type 0} → Says v A → Says (kept_of b v) (Kept b A)
kept_says true v h = h
kept_says false v h = says_not h

-- of a rule's value
pub record Means (p : plant.Plant) (fair label next : List ℕ) (rule : Rule) (event : ℕ → Event) (lines mark : ℕ) (keeps : Bool) (run : List ℕ) (s : ℕ) (r : Result (Unit {0}) Failing) : Type 0 where
  pub says : (f : Formula) → rule ≡ rule_of f → FirstFailing (plant_of p fair label next) f keeps event lines mark run s r

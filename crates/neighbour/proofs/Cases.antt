-- What a report is answered, by what was found of the runs and by where the log ends.
use Rattle.std.specs.Prelude.{Ok, Err, Result}
use Prim.Native.Nat.{ℕ}
use mathlib.Core.Path.{◌≡◌, refl, sym, ap, ◌∙◌}
use mathlib.Core.Bool.{Bool, true, false, not}
use mathlib.Core.List.{List}
use lib.ListN.{take}
use Rattle.answers.specs.declared.Verdict.{Verdict}
use Rattle.answers.specs.declared.Lamp.{Lamp}
use Rattle.answers.specs.declared.Refusal.{Refusal}
use Rattle.answers.specs.Results.{Outcome}
use Rattle.plant.specs.declared.Plant.{Plant}
use Rattle.syntax.specs.declared.Rule.{Rule}
use Rattle.event_log.specs.declared.Event.{Event}
use Rattle.sides.specs.declared.Monitor.{Monitor}
use Rattle.sides.specs.Held.{model_of, lamp_in}
use Rattle.controller.specs.declared.LogAnswer.{LogAnswer}
use Rattle.controller.specs.declared.LogEnd.{LogEnd}
use Rattle.controller.specs.Whole.{end_of}
use Rattle.node_value.specs.Turns.{passed, failed}
use Rattle.shown.specs.declared.Failing.{Failing}
use Rattle.shown.specs.Positions.{mark_of}
use Rattle.shown.specs.Tests.{checked_of}
use Rattle.neighbour.specs.declared.sent.ShownRun.{ShownRun}
use Rattle.neighbour.specs.declared.sent.Report.{Report}
use Rattle.neighbour.specs.declared.Judged.{Judged}
use Rattle.neighbour.specs.declared.Judged.TheVariants.{Refused}
use Rattle.neighbour.specs.Report.{needs_of, shown_of, report_of, report_checked}
use Rattle.neighbour.specs.Judged.{decided_of, looked_at, report_judged, judged_at, judged_after, unless_stopped, judged_end, judged_of}

-- ---- the runs

module _ (p : Plant) (fair label next : List ℕ) (rule : Rule) (event : ℕ → Event) (n : ℕ) where
  module _ (mark claim : ℕ) (keeps : Bool) (run : ShownRun) {b : Bool} (e : b ≡ needs_of claim keeps) where
    pub not_needed : not b ≡ true → (Ok tt) ≡ looked_at p fair label next rule event n mark claim keeps run
    unfolding looked_at
    not_needed f = rw (failed b (needs_of claim keeps) e f) refl

    pub needed : not b ≡ false → {r : Result (Unit {0}) Failing} → r ≡ checked_of p fair label next rule event n mark keeps (take run.len run.states) run.stem
        → r ≡ looked_at p fair label next rule event n mark claim keeps run
    unfolding looked_at
    needed f is = rw (passed b (needs_of claim keeps) e f) is

  pub both_by : (v : Verdict) (r : Report) {mark : ℕ} {first second : Result (Unit {0}) Failing} {j : Judged} → mark ≡ mark_of event n
      → first ≡ looked_at p fair label next rule event n mark r.claim true r.keeping → second ≡ looked_at p fair label next rule event n mark r.claim false r.breaking
      → j ≡ decided_of r.claim v first second → j ≡ report_judged p fair label next rule event n v r
  unfolding report_judged
  both_by v r m e f is = is ∙ rw (e, f, m) refl

  -- behind the last event
  module _ (last : Monitor) (r : Report) {o : Outcome} (e : o ≡ report_checked r.claim r.keeping.long r.breaking.long) where
    pub refused_by_lem : {x : Refusal} → o ≡ Err x → Refused x ≡ judged_at p fair label next rule event n last r
    unfolding judged_at
    refused_by_lem f = rw (sym e ∙ f) refl

    pub judged_by : o ≡ Ok tt → {shown : Lamp} → shown ≡ lamp_in (model_of last) → {j : Judged} → j ≡ report_judged p fair label next rule event n shown.verdict r
        → j ≡ judged_at p fair label next rule event n last r
    unfolding judged_at
    judged_by f s is = rw (sym e ∙ f) (is ∙ ap (λ (l : Lamp). report_judged p fair label next rule event n l.verdict r) s)

-- ---- where the log ends

pub end_judged : (table rule log : List ℕ) (r : Report) {e : LogEnd} → e ≡ end_of table rule log → {a : LogAnswer} → e.answer ≡ a → {j : Judged}
    → j ≡ unless_stopped a (judged_after e.table e.rule log e.last r) → j ≡ judged_of table rule log r
unfolding judged_of
end_judged table rule log r is f so = rw (← f) at so ∙ ap (λ (x : LogEnd). judged_end x log r) is

pub told_by_lem : (table rule log : List ℕ) (claim : ℕ) (a b c d : List ℕ) {keeping breaking : ShownRun} → keeping ≡ shown_of a b → breaking ≡ shown_of c d → {j : Judged}
    → j ≡ judged_of table rule log (record { claim = claim; keeping = keeping; breaking = breaking }) → j ≡ judged_of table rule log (report_of claim a b c d)
told_by_lem table rule log claim a b c d e f is = is ∙ rw (e, f) refl

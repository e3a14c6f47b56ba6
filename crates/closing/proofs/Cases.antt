-- What a day ends with, by the edition and by where its log ends.
use Prim.Native.Nat.{ℕ}
use mathlib.Core.Path.{◌≡◌, refl, ap, ◌∙◌}
use mathlib.Core.List.{List}
use borrow.Author.Tests.{ne_eqb}
use Rattle.answers.specs.declared.Kind.TheVariants.{ClosingEdition}
use Rattle.answers.specs.declared.Lamp.{Lamp}
use Rattle.answers.specs.declared.Refusal.{Refusal}
use Rattle.answers.specs.Paper.{refused_at}
use Rattle.text.specs.Number.{width_of}
use Rattle.syntax.specs.declared.Rule.{Rule}
use Rattle.event_log.specs.declared.Event.{Event}
use Rattle.event_log.specs.Read.{event_at, whole_lines}
use Rattle.sides.specs.declared.Monitor.{Monitor}
use Rattle.sides.specs.Held.{model_of, lamp_in}
use Rattle.closing.specs.declared.ClosingVerdict.{ClosingVerdict}
use Rattle.closing.specs.declared.Closed.{Closed}
use Rattle.closing.specs.declared.Closed.TheVariants.{At, Refused}
use Rattle.controller.specs.declared.LogAnswer.{LogAnswer}
use Rattle.controller.specs.declared.LogEnd.{LogEnd}
use Rattle.controller.specs.Whole.{end_of}
use Rattle.closing.specs.Closing.{of_verdict, presumed_of, second_of, closed_at, unless_stopped, closed_end, closed_of}

-- ---- the edition

module _ (rule : Rule) (event : ℕ → Event) (n : ℕ) (last : Monitor) (edition : ℕ) {shown : Lamp} (e : shown ≡ lamp_in (model_of last)) where
  pub by_first : edition ≡ 1 → {c : ClosingVerdict} → c ≡ of_verdict shown.verdict → At c ≡ closed_at rule event n last edition
  unfolding closed_at
  by_first one is = rw (is, e, one) refl

  pub by_second : edition ≡ 2 → {c : ClosingVerdict} → c ≡ second_of shown.verdict (presumed_of rule event n) → At c ≡ closed_at rule event n last edition
  unfolding closed_at
  by_second two is = rw (is, e, two) refl

  pub by_none : (edition ≡ 1 → ⊥) → (edition ≡ 2 → ⊥) → {r : Refusal} → r ≡ refused_at ClosingEdition 0 → Refused r ≡ closed_at rule event n last edition
  unfolding closed_at
  by_none one two is = rw (is, ne_eqb edition 1 one, ne_eqb edition 2 two) refl

-- ---- where the log ends

module _ (table rule log : List ℕ) (edition : ℕ) {e : LogEnd} (is : e ≡ end_of table rule log) where
  pub end_closed : {a : LogAnswer} → e.answer ≡ a → {c : Closed}
      → c ≡ unless_stopped a (closed_at e.rule (event_at (width_of e.table.plant.props) log) (whole_lines (width_of e.table.plant.props) log) e.last edition)
      → c ≡ closed_of table rule log edition
  unfolding closed_of
  end_closed f so = rw (← f) at so ∙ ap (λ (x : LogEnd). closed_end x log edition) is

-- `syntax::name_at` meets its contract: by the two signs behind the `p`. Assumes nothing.
use mathlib.Core.Path.{sym, ap, ◌∙◌}
use Rattle.syntax.specs.Bytes.{digit_of}
use Rattle.syntax.proofs.Named.{name_missing, name_one, name_two, name_short}
use Rattle.syntax.proofs.name_at.Goals as goal
use Rattle.syntax.proofs.name_at.Goals.{else-first-eq1-via-then-first-eq1+else-goes_on, else-first-eq1-via-else-first-eq1}

pub returns-then-text-at : goal.returns-then-text-at
returns-then-text-at c = name_missing _ _ c.requires c.if-text-at.true

pub returns-then-goes_on : goal.returns-then-goes_on
returns-then-goes_on c =
    name_two _ _ c.if-text-at.false _ _ (c.digit_of-first.ensures ∙ ap digit_of c.sign_of.ensures) c.if-first-eq1.true c.sign_at-sign.ensures _
    c.digit_of.ensures (sym c.goes_on.ensures ∙ c.if-goes_on.true)

pub returns : goal.returns
returns c =
    let digit = c.digit_of-first.ensures ∙ ap digit_of c.sign_of.ensures in
    elim c.else-first-eq1.branch [
      | else-first-eq1-via-then-first-eq1+else-goes_on w ↦
          name_short _ _ c.if-text-at.false _ _ digit w.if-first-eq1.true c.sign_at-sign.ensures (sym w.goes_on.ensures ∙ w.if-goes_on.false)
      | else-first-eq1-via-else-first-eq1 w ↦ name_one _ _ c.if-text-at.false _ digit w.if-first-eq1.false
    ]

-- More of specs/Filled. ALL EVENTS, LOST ONES TOO (02, h): those that the runs are judged by. What must be believed of numbers is here and in event_numbers/specs/Numbers.
use Rattle.std.specs.Prelude.{◌+◌, ◌≡◌, false, List, [], ◌∷◌, ◌++◌}
use Rattle.std.proofs.Common.{ap, ◌∙◌, append-nil}
use Rattle.meaning.specs.Event as meaning
use Rattle.event_log.specs.declared.Event.{Event}
use Rattle.event_numbers.specs.Numbers.{brings}
use Rattle.watching.specs.Filled.{expected_from, filled, filled_append, seen_from}

-- one event more
pub filled_more : (es : List Event) (e : Event) → filled (es ++ e ∷ []) ≡ filled es ++ brings (seen_from false es) (expected_from 0 es) e
filled_more es e = filled_append false 0 es (e ∷ []) ∙ ap (λ (l : List meaning.Event). filled es ++ l) (append-nil (brings (seen_from false es) (expected_from 0 es) e))

-- ALL EVENTS, LOST ONES TOO (02, h): those that the runs are judged by. What must be believed of numbers is here and in event_numbers/specs/Numbers.
use Rattle.std.specs.Prelude.{ℕ, ◌+◌, ◌≡◌, refl, Bool, true, false, List, [], ◌∷◌, ◌++◌, get_or, take}
use Rattle.std.proofs.Common.{sym, ap, ◌∙◌, append_assoc}
use Rattle.meaning.specs.Event as meaning
use Rattle.event_log.specs.declared.Event.{Event}
use Rattle.event_log.specs.Log.{nothing}
use Rattle.event_numbers.specs.Numbers.{number_of, brings, InTurn}

-- the number expected behind some events, and whether an event came
abbrev pub expected_from : ℕ → List Event → ℕ
expected_from expected [] = expected
expected_from expected (e ∷ es) = expected_from (number_of e.num expected + 1) es

abbrev pub seen_from : Bool → List Event → Bool
seen_from seen [] = seen
seen_from seen (e ∷ es) = true

-- all that events bring, one after the other
abbrev pub filled_from : Bool → ℕ → List Event → List meaning.Event
filled_from seen expected [] = []
filled_from seen expected (e ∷ es) = brings seen expected e ++ filled_from true (number_of e.num expected + 1) es

-- ---- from the opening on, where no event came and 0 is expected

abbrev pub filled : List Event → List meaning.Event
filled es = filled_from false 0 es

-- the number that is expected before event n, and the one that it takes
abbrev pub expected_at : List Event → ℕ → ℕ
expected_at es n = expected_from 0 (take n es)

abbrev pub number_at : List Event → ℕ → ℕ
number_at es n = number_of (get_or es n nothing).num (expected_at es n)

-- event n has a number that check 16 accepts
abbrev pub InTurnAt : List Event → ℕ → Type 0
InTurnAt es n = InTurn (seen_from false (take n es)) (expected_at es n) (number_at es n)

-- ---- laws

-- events behind others go on with the number expected then
pub filled_append : (seen : Bool) (n : ℕ) (es fs : List Event) → filled_from seen n (es ++ fs) ≡ filled_from seen n es ++ filled_from (seen_from seen es) (expected_from n es) fs
filled_append seen n [] fs = refl
filled_append seen n (e ∷ es) fs =
    ap (λ (l : List meaning.Event). brings seen n e ++ l) (filled_append true (number_of e.num n + 1) es fs ∙ ap (λ (s : Bool). filled_from true (number_of e.num n + 1) es ++ filled_from s (expected_from (number_of e.num n + 1) es) fs) (came es))
    ∙ sym (append_assoc (brings seen n e) (filled_from true (number_of e.num n + 1) es) (filled_from true (expected_from (number_of e.num n + 1) es) fs))
  where
    came : (es : List Event) → seen_from true es ≡ true
    came [] = refl
    came (e ∷ es) = refl

pub expected_append : (n : ℕ) (es fs : List Event) → expected_from n (es ++ fs) ≡ expected_from (expected_from n es) fs
expected_append n [] fs = refl
expected_append n (e ∷ es) fs = expected_append (number_of e.num n + 1) es fs

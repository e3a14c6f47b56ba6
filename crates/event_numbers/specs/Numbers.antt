-- The numbers of events (02, h). A monitor keeps whether an event came, and which number is expected next; 2 ^ 32, the first that does not fit 32 bits,
-- says that all are used up.
use mathlib.Core.Logic.Iff
use Rattle.std.specs.Prelude.{ℕ, ◌+◌, ◌-◌, ◌^◌, ◌≤◌, ◌<◌, ◌≡◌, Bool, true, false, ◌&&◌, ◌||◌, not, cond, List, [], ◌∷◌, ◌++◌, ltb, leb, replicate, Ok, Err}
use Rattle.std.proofs.Math.Path.{refl}
use Rattle.std.proofs.Math.Bool.{So}
use Rattle.meaning.specs.Says.{Says}
use Rattle.meaning.specs.Event as meaning
use Rattle.meaning.specs.Event.{nothing}
use Rattle.words.specs.Truth.{says_and, says_implies, says_itself}
use Rattle.words.specs.Tests.{lt_says, le_says}
use Rattle.answers.specs.declared.Kind.TheVariants.{IllegalEvent, Number as NumberKind}
use Rattle.answers.specs.declared.Refusal.{Refusal}
use Rattle.answers.specs.Results.{Outcome}
use Rattle.answers.specs.Paper.{refused_at}
use Rattle.event_log.specs.declared.Event.{Event}
use Rattle.event_log.specs.declared.Num.{Num}
use Rattle.event_log.specs.declared.Num.TheVariants.{Expected, Given}
use Rattle.event_log.specs.Legal.{legal_of, event_of}

-- the number that an event takes: the one that it gives, and else the one expected
abbrev pub number_of : Num → ℕ → ℕ
number_of Expected expected = expected
number_of (Given n) expected = n

-- how many are missing before number n; the first event may have any
abbrev pub missing_of : Bool → ℕ → ℕ → ℕ
missing_of seen expected n = cond seen (n - expected) 0

pub first_none : (seen : Bool) (expected n : ℕ) → seen ≡ false → missing_of seen expected n ≡ 0
first_none seen expected n e = rw e refl

-- an event that was not received: it sees nothing and restarts nothing
abbrev pub unseen : meaning.Event
unseen = record { seen = nothing; new = false }

-- what an event brings: an unseen one for each number missing, and then itself
abbrev pub brings : Bool → ℕ → Event → List meaning.Event
brings seen expected e = replicate (missing_of seen expected (number_of e.num expected)) unseen ++ event_of e ∷ []

-- where 3 is expected and 5 comes, two are put in, before it
pub two_missing : (e : Event) → e.num ≡ Given 5 → brings true 3 e ≡ unseen ∷ unseen ∷ event_of e ∷ []
two_missing e is = rw is refl

-- ---- check 16

-- an event may have number n: numbers are left, n is one, and behind another event it goes neither back nor over more than 16
pub record InTurn (seen : Bool) (expected n : ℕ) : Type 0 where
  pub some_left : expected < 2 ^ 32
  pub number : n < 2 ^ 32
  pub behind : So seen → (expected ≤ n) × (n ≤ expected + 16)

unfoldable pub in_turn : Bool → ℕ → ℕ → Bool
in_turn seen expected n = ltb expected (2 ^ 32) && (ltb n (2 ^ 32) && (not seen || (leb expected n && leb n (expected + 16))))

pub in_turn_says : (seen : Bool) (expected n : ℕ) → Says (in_turn seen expected n) (InTurn seen expected n)
unfolding in_turn
in_turn_says seen expected n =
    Iff.trans
    (says_and (lt_says expected (2 ^ 32)) (says_and (lt_says n (2 ^ 32)) (says_implies (says_itself seen) (says_and (le_says expected n) (le_says n (expected + 16))))))
    (λ t. record { some_left = t.0; number = t.1.0; behind = t.1.1 }, λ t. (t.some_left, (t.number, t.behind)))

-- 10, and then 16
unfoldable pub event_outcome : Event → ℕ → Bool → ℕ → Outcome
event_outcome e props seen expected =
    cond (legal_of e props) (cond (in_turn seen expected (number_of e.num expected)) (Ok tt) (Err (refused_at NumberKind 0))) (Err (refused_at IllegalEvent 0))

-- ---- for code

module _ (e : Event) (props : ℕ) (seen : Bool) (expected : ℕ) where
  pub event_illegal : {r : Refusal} → legal_of e props ≡ false → r ≡ refused_at IllegalEvent 0 → Err r ≡ event_outcome e props seen expected
  unfolding event_outcome
  event_illegal bad is = rw (is, bad) refl

  module _ {n : ℕ} {b : Bool} (legal : legal_of e props ≡ true) (number : n ≡ number_of e.num expected) (test : b ≡ in_turn seen expected n) where
    event_by : (t : Bool) → b ≡ t → cond t (Ok tt) (Err (refused_at NumberKind 0)) ≡ event_outcome e props seen expected
    unfolding event_outcome
    event_by t is = rw (legal, ← number, ← test, is) refl

    pub event_good : b ≡ true → (Ok tt) ≡ event_outcome e props seen expected
    event_good is = event_by true is

    pub event_stray : {r : Refusal} → b ≡ false → r ≡ refused_at NumberKind 0 → Err r ≡ event_outcome e props seen expected
    event_stray bad is = rw is (event_by false bad)

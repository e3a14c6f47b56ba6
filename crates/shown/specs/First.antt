-- The first of five rules that fails, by tests that say whether they hold.
use Rattle.std.specs.Prelude.{ℕ, ◌≡◌, ◌↔◌, Bool, eqb, Result, Ok, Err}
use Rattle.std.proofs.Math.Path.{refl}
use Rattle.std.proofs.Common.{ap}
use Rattle.std.proofs.Math.Bool.{true, false}
use Rattle.std.proofs.lemmas.Bool.{false≢true, eqb-false}
use Rattle.meaning.specs.Says.{Says}
use Rattle.shown.specs.declared.Failing.{Failing}
use Rattle.shown.specs.declared.Failing.TheVariants.{Start, Moves, Fairness, Agreement, Value}
use Rattle.shown.specs.Shown.{Firsts}
use Rattle.shown.specs.Tests.{first_of}

code_of : Result (Unit {0}) Failing → ℕ
code_of (Ok _) = 0
code_of (Err Start) = 1
code_of (Err Moves) = 2
code_of (Err Fairness) = 3
code_of (Err Agreement) = 4
code_of (Err Value) = 5

yes_it_is : {x : Result (Unit {0}) Failing} {X : Type 0} → X → (x ≡ x) ↔ X
yes_it_is h = (λ _. h, λ _. refl)

not_it : (x y : Result (Unit {0}) Failing) → eqb (code_of x) (code_of y) ≡ false → {X : Type 0} → (X → ⊥) → (x ≡ y) ↔ X
not_it x y d k = (λ e. absurd (eqb-false (code_of x) (code_of y) d (ap code_of e)), λ h. absurd (k h))

-- a test that is true, and one that is false
holds : {A : Type 0} → Says true A → A
holds h = h.0 refl

fails : {A : Type 0} → Says false A → A → ⊥
fails h x = false≢true (h.1 x)

module _ {A B C D E : Type 0} where
  pub first_says : (a b c d e : Bool) → Says a A → Says b B → Says c C → (B → Says d D) → (B → Says e E) → Firsts A B C D E (first_of a b c d e)
  unfolding first_of code_of
  first_says false b c d e p q r s t = record {
    correct = not_it (Err Start) (Ok tt) refl (λ h. fails p h.0);
    start = yes_it_is (fails p);
    moves = not_it (Err Start) (Err Moves) refl (λ h. fails p h.0);
    fairness = not_it (Err Start) (Err Fairness) refl (λ h. fails p h.0);
    agreement = not_it (Err Start) (Err Agreement) refl (λ h. fails p h.0);
    value = not_it (Err Start) (Err Value) refl (λ h. fails p h.0);
  }
  first_says true false c d e p q r s t = record {
    correct = not_it (Err Moves) (Ok tt) refl (λ h. fails q h.1);
    start = not_it (Err Moves) (Err Start) refl (λ h. h (holds p));
    moves = yes_it_is (holds p, fails q);
    fairness = not_it (Err Moves) (Err Fairness) refl (λ h. fails q h.1);
    agreement = not_it (Err Moves) (Err Agreement) refl (λ h. fails q h.1);
    value = not_it (Err Moves) (Err Value) refl (λ h. fails q h.1);
  }
  first_says true true false d e p q r s t = record {
    correct = not_it (Err Fairness) (Ok tt) refl (λ h. fails r h.2);
    start = not_it (Err Fairness) (Err Start) refl (λ h. h (holds p));
    moves = not_it (Err Fairness) (Err Moves) refl (λ h. h.1 (holds q));
    fairness = yes_it_is (holds p, holds q, fails r);
    agreement = not_it (Err Fairness) (Err Agreement) refl (λ h. fails r h.2);
    value = not_it (Err Fairness) (Err Value) refl (λ h. fails r h.2);
  }
  first_says true true true false e p q r s t = record {
    correct = not_it (Err Agreement) (Ok tt) refl (λ h. fails (s (holds q)) h.3);
    start = not_it (Err Agreement) (Err Start) refl (λ h. h (holds p));
    moves = not_it (Err Agreement) (Err Moves) refl (λ h. h.1 (holds q));
    fairness = not_it (Err Agreement) (Err Fairness) refl (λ h. h.2 (holds r));
    agreement = yes_it_is (holds p, holds q, holds r, fails (s (holds q)));
    value = not_it (Err Agreement) (Err Value) refl (λ h. fails (s (holds q)) h.3);
  }
  first_says true true true true false p q r s t = record {
    correct = not_it (Err Value) (Ok tt) refl (λ h. fails (t (holds q)) h.4);
    start = not_it (Err Value) (Err Start) refl (λ h. h (holds p));
    moves = not_it (Err Value) (Err Moves) refl (λ h. h.1 (holds q));
    fairness = not_it (Err Value) (Err Fairness) refl (λ h. h.2 (holds r));
    agreement = not_it (Err Value) (Err Agreement) refl (λ h. h.3 (holds (s (holds q))));
    value = yes_it_is (holds p, holds q, holds r, holds (s (holds q)), fails (t (holds q)));
  }
  first_says true true true true true p q r s t = record {
    correct = yes_it_is (holds p, holds q, holds r, holds (s (holds q)), holds (t (holds q)));
    start = not_it (Ok tt) (Err Start) refl (λ h. h (holds p));
    moves = not_it (Ok tt) (Err Moves) refl (λ h. h.1 (holds q));
    fairness = not_it (Ok tt) (Err Fairness) refl (λ h. h.2 (holds r));
    agreement = not_it (Ok tt) (Err Agreement) refl (λ h. h.3 (holds (s (holds q))));
    value = not_it (Ok tt) (Err Value) refl (λ h. h.4 (holds (t (holds q))));
  }

-- Forms: values, the slots of each, and a guess at the value whose slots a text fits furthest. Forms are put together by `led`, `ended`, `both` and
-- `seen`, and what is put together of forms that can be read can be read.
use Prim.Native.Nat.{ℕ, ◌≤◌, ◌<◌}
use Rattle.std.specs.Prelude.{◌≡◌, ◌↔◌}
use Rattle.std.proofs.Math.Path.{ap}
use Rattle.std.proofs.Common.{◌∙◌, eq-or-lt_of_le, arith}
use mathlib.Core.List.{List, ◌++◌}
use Rattle.std.proofs.Math.Logic.{⊎_elim}
use Rattle.std.proofs.Math.ListN.{length, drop}
use Rattle.text.specs.Slot.{Slot, matched}
use Rattle.text.specs.Matched.{matched_slots, matched_all, matched_less, matched_more, matched_both}

-- which values there are, the slots of each, and the guess
pub record Form (A : Type 0) : Type 1 where
  pub Ok : A → Type 0
  pub slots : A → List Slot
  pub guess : List ℕ → A

-- known slots, then a form
unfoldable pub led : {A : Type 0} → List Slot → Form A → Form A
led ws F = record { Ok = F.Ok; slots = λ a. ws ++ F.slots a; guess = λ s. F.guess (drop (length ws) s) }

-- a form, then known slots
unfoldable pub ended : {A : Type 0} → Form A → List Slot → Form A
ended F ws = record { Ok = F.Ok; slots = λ a. F.slots a ++ ws; guess = F.guess }

-- a form, then another that may depend on its value
unfoldable pub both : {A B : Type 0} → Form A → (A → Form B) → Form (A × B)
both F G =
    record {
      Ok = λ p. F.Ok p.0 × (G p.0).Ok p.1;
      slots = λ p. F.slots p.0 ++ (G p.0).slots p.1;
      guess = λ s. (F.guess s, (G (F.guess s)).guess (drop (length (F.slots (F.guess s))) s));
    }

-- the same form for values of another type
unfoldable pub seen : {A B : Type 0} → Form A → (B → Type 0) → (A → B) → (B → A) → Form B
seen F Ok to from = record { Ok = Ok; slots = λ b. F.slots (from b); guess = λ s. to (F.guess s) }

-- the form can be read: what is guessed is a value of the form, it is the value whose text a text begins with, and no value fits a text further
pub record Reads {A : Type 0} (F : Form A) : Type 0 where
  pub fine : (s : List ℕ) → F.Ok (F.guess s)
  pub exact : (a : A) (s : List ℕ) → F.Ok a → matched s (F.slots a) ≡ length (F.slots a) → F.guess s ≡ a
  pub best : (a : A) (s : List ℕ) → F.Ok a → matched s (F.slots a) ≤ matched s (F.slots (F.guess s))

module _ {A : Type 0} {F : Form A} (reads : Reads F) where
  pub reads_led : (ws : List Slot) → Reads (led ws F)
  unfolding led
  reads_led ws =
      record {
        fine = λ s. reads.fine (drop (length ws) s);
        exact = λ a s ok h. reads.exact a (drop (length ws) s) ok (matched_both s ws (F.slots a) h).1;
        best = best;
      }
    where
      best : (a : A) (s : List ℕ) → F.Ok a → matched s (ws ++ F.slots a) ≤ matched s (ws ++ F.slots (F.guess (drop (length ws) s)))
      best a s ok =
          ⊎_elim
          (λ (e : matched s ws ≡ length ws). let b = reads.best a (drop (length ws) s) ok in
          omega (arith, matched_all s ws (F.slots a) e, matched_all s ws (F.slots (F.guess (drop (length ws) s))) e))
          (λ (l : matched s ws < length ws). omega (arith, matched_less s ws (F.slots a) l, matched_less s ws (F.slots (F.guess (drop (length ws) s))) l))
          (eq-or-lt_of_le (matched_slots s ws))

  pub reads_ended : (ws : List Slot) → Reads (ended F ws)
  unfolding ended
  reads_ended ws = record { fine = reads.fine; exact = λ a s ok h. reads.exact a s ok (matched_both s (F.slots a) ws h).0; best = best }
    where
      best : (a : A) (s : List ℕ) → F.Ok a → matched s (F.slots a ++ ws) ≤ matched s (F.slots (F.guess s) ++ ws)
      best a s ok =
          ⊎_elim (λ (e : matched s (F.slots a) ≡ length (F.slots a)). rw (reads.exact a s ok e) (omega arith))
          (λ (l : matched s (F.slots a) < length (F.slots a)).
          omega (arith, matched_less s (F.slots a) ws l, reads.best a s ok, matched_more s (F.slots (F.guess s)) ws))
          (eq-or-lt_of_le (matched_slots s (F.slots a)))

  pub reads_seen :
      {B : Type 0} (Ok : B → Type 0) (to : A → B) (from : B → A) → ((a : A) → F.Ok a → Ok (to a) × (from (to a) ≡ a))
      → ((b : B) → Ok b → F.Ok (from b) × (to (from b) ≡ b)) → Reads (seen F Ok to from)
  unfolding seen
  reads_seen {B} Ok to from there back =
      record {
        fine = λ s. (there (F.guess s) (reads.fine s)).0;
        exact = λ b s ok h. ap to (reads.exact (from b) s (back b ok).0 h) ∙ (back b ok).1;
        best = best;
      }
    where
      best : (b : B) (s : List ℕ) → Ok b → matched s (F.slots (from b)) ≤ matched s (F.slots (from (to (F.guess s))))
      best b s ok = rw (there (F.guess s) (reads.fine s)).1 (reads.best (from b) s (back b ok).0)

  module _ {B : Type 0} {G : A → Form B} (reads' : (a : A) → F.Ok a → Reads (G a)) where
    pub reads_both : Reads (both F G)
    unfolding both
    reads_both = record { fine = fine; exact = λ p s ok h. exact p.0 p.1 s ok.0 ok.1 h; best = λ p s ok. best p.0 p.1 s ok.0 ok.1 }
      where
        rest : List ℕ → List ℕ
        rest s = drop (length (F.slots (F.guess s))) s

        fine : (s : List ℕ) → F.Ok (F.guess s) × (G (F.guess s)).Ok ((G (F.guess s)).guess (rest s))
        fine s = (reads.fine s, (reads' (F.guess s) (reads.fine s)).fine (rest s))

        same :
            (a : A) (b : B) (s : List ℕ) → F.guess s ≡ a → (G a).guess (drop (length (F.slots a)) s) ≡ b
            → ◌≡◌ {A = A × B} (F.guess s, (G (F.guess s)).guess (rest s)) (a, b)
        same a b s e f = rw (e, f)

        exact :
            (a : A) (b : B) (s : List ℕ) → F.Ok a → (G a).Ok b → matched s (F.slots a ++ (G a).slots b) ≡ length (F.slots a ++ (G a).slots b)
            → ◌≡◌ {A = A × B} (F.guess s, (G (F.guess s)).guess (rest s)) (a, b)
        exact a b s ok ok' h =
            let m = matched_both s (F.slots a) ((G a).slots b) h in
            same a b s (reads.exact a s ok m.0) ((reads' a ok).exact b (drop (length (F.slots a)) s) ok' m.1)

        best :
            (a : A) (b : B) (s : List ℕ) → F.Ok a → (G a).Ok b
            → matched s (F.slots a ++ (G a).slots b) ≤ matched s (F.slots (F.guess s) ++ (G (F.guess s)).slots ((G (F.guess s)).guess (rest s)))
        best a b s ok ok' = ⊎_elim all less (eq-or-lt_of_le (matched_slots s (F.slots a)))
          where
            all :
                matched s (F.slots a) ≡ length (F.slots a)
                → matched s (F.slots a ++ (G a).slots b) ≤ matched s (F.slots (F.guess s) ++ (G (F.guess s)).slots ((G (F.guess s)).guess (rest s)))
            all e =
                rw (reads.exact a s ok e)
                (omega (
                  arith,
                  matched_all s (F.slots a) ((G a).slots b) e,
                  matched_all s (F.slots a) ((G a).slots ((G a).guess (drop (length (F.slots a)) s))) e,
                  (reads' a ok).best b (drop (length (F.slots a)) s) ok',
                ))

            less :
                matched s (F.slots a) < length (F.slots a)
                → matched s (F.slots a ++ (G a).slots b) ≤ matched s (F.slots (F.guess s) ++ (G (F.guess s)).slots ((G (F.guess s)).guess (rest s)))
            less l =
                omega (
                  arith,
                  matched_less s (F.slots a) ((G a).slots b) l,
                  reads.best a s ok,
                  matched_more s (F.slots (F.guess s)) ((G (F.guess s)).slots ((G (F.guess s)).guess (rest s))),
                )

-- two ways to say one form
pub reads_same :
    {A : Type 0} {F G : Form A} → Reads F → ((a : A) → G.Ok a ↔ F.Ok a) → ((a : A) → G.slots a ≡ F.slots a) → ((s : List ℕ) → G.guess s ≡ F.guess s) → Reads G
reads_same {F} {G} reads oks sames guesses =
    record {
      fine = λ s. rw (guesses s) ((oks (F.guess s)).1 (reads.fine s));
      exact = λ a s ok h. guesses s ∙ reads.exact a s ((oks a).0 ok) (rw (sames a) at h);
      best = λ a s ok. rw (sames a, sames (G.guess s), guesses s) (reads.best a s ((oks a).0 ok));
    }

-- Forms one after the other, told by a number, the slots of each as many whatever its value.
use Prim.Native.Nat.{ℕ, zero, suc, ◌+◌, ◌≤◌, ◌<◌}
use Rattle.std.specs.Prelude.{◌≡◌, List, [], ◌++◌}
use Rattle.std.proofs.Math.Path.{refl, sym, ap}
use Rattle.std.proofs.Common.{ap₂, ◌∙◌, eq-or-lt_of_le, le_of_suc-le-suc}
use Rattle.std.proofs.Math.Logic.{⊎_elim}
use Rattle.std.proofs.Math.Numerals.{add-one}
use native.Mathlib.Omega.{arith}
use Rattle.std.proofs.Math.ListN.{length, drop, length-append}
use Rattle.text.specs.Slot.{Slot, matched}
use Rattle.text.specs.Matched.{matched_slots, matched_all, matched_less, matched_more, matched_both}
use Rattle.text.specs.Form.{Form, Reads}
use Rattle.text.specs.After.{cursor_after, goes_on}
use Rattle.text.specs.Took.{Took, drop_after}
use Rattle.text.specs.declared.Cursor.{Cursor}

-- the slots of f 0, f 1, .. f (n - 1)
unfoldable pub slots_below : {A : Type 0} → (ℕ → Form A) → ℕ → (ℕ → A) → List Slot
slots_below F zero f = []
slots_below F (suc n) f = slots_below F n f ++ (F n).slots (f n)

-- the form numbered k of a text: it begins behind those below k
unfoldable pub offset : (ℕ → ℕ) → ℕ → ℕ
offset len zero = 0
offset len (suc n) = offset len n + len n

-- and what is guessed there
abbrev pub guess_at : {A : Type 0} → (ℕ → Form A) → (ℕ → ℕ) → List ℕ → ℕ → A
guess_at F len s k = (F k).guess (drop (offset len k) s)

pub below_same : {A : Type 0} (F : ℕ → Form A) (n : ℕ) (f g : ℕ → A) → ((k : ℕ) → k < n → f k ≡ g k) → slots_below F n f ≡ slots_below F n g
unfolding slots_below
below_same F zero f g e = refl
below_same F (suc n) f g e = ap₂ (λ (ts us : List Slot). ts ++ us) (below_same F n f g (λ k h. e k (omega arith))) (ap (F n).slots (e n (omega arith)))

module _ {A : Type 0} (F : ℕ → Form A) (len : ℕ → ℕ) (fixed : (k : ℕ) (a : A) → (F k).Ok a → length ((F k).slots a) ≡ len k) where
  pub below_length : (n : ℕ) (f : ℕ → A) → ((k : ℕ) → k < n → (F k).Ok (f k)) → length (slots_below F n f) ≡ offset len n
  unfolding slots_below offset
  below_length zero f ok = refl
  below_length (suc n) f ok =
      omega (arith, length-append (slots_below F n f) ((F n).slots (f n)), below_length n f (λ k l. ok k (omega arith)), fixed n (f n) (ok n (omega arith)))

  module _ (reads : (k : ℕ) → Reads (F k)) where
    pub below_exact :
        (n : ℕ) (f : ℕ → A) (s : List ℕ) → ((k : ℕ) → k < n → (F k).Ok (f k)) → matched s (slots_below F n f) ≡ length (slots_below F n f)
        → (k : ℕ) → k < n → guess_at F len s k ≡ f k
    unfolding slots_below
    below_exact zero f s ok h k l = absurd (omega arith)
    below_exact (suc n) f s ok h k l = ⊎_elim last (λ (b : k < n). below_exact n f s (λ j b. ok j (omega arith)) parts.0 k b) (eq-or-lt_of_le (le_of_suc-le-suc l))
      where
        parts :
            (matched s (slots_below F n f) ≡ length (slots_below F n f))
            × (matched (drop (length (slots_below F n f)) s) ((F n).slots (f n)) ≡ length ((F n).slots (f n)))
        parts = matched_both s (slots_below F n f) ((F n).slots (f n)) h

        last : k ≡ n → guess_at F len s k ≡ f k
        last e = rw e ((reads n).exact (f n) (drop (offset len n) s) (ok n (omega arith)) (rw (below_length n f (λ k l. ok k (omega arith))) at parts.1))

    pub below_best :
        (n : ℕ) (f : ℕ → A) (s : List ℕ) → ((k : ℕ) → k < n → (F k).Ok (f k)) → matched s (slots_below F n f) ≤ matched s (slots_below F n (guess_at F len s))
    unfolding slots_below
    below_best zero f s ok = omega arith
    below_best (suc n) f s ok = ⊎_elim all (less (below_best n f s (λ k l. ok k (omega arith)))) (eq-or-lt_of_le (matched_slots s (slots_below F n f)))
      where
        g : ℕ → A
        g = guess_at F len s

        all : matched s (slots_below F n f) ≡ length (slots_below F n f) → matched s (slots_below F n f ++ (F n).slots (f n)) ≤ matched s (slots_below F n g ++ (F n).slots (g n))
        all e =
            rw (← below_same F n f g (λ k l. sym (below_exact n f s (λ k l. ok k (omega arith)) e k l)))
            (omega (
              arith,
              rw (below_length n f (λ k l. ok k (omega arith))) at (matched_all s (slots_below F n f) ((F n).slots (f n)) e),
              rw (below_length n f (λ k l. ok k (omega arith))) at (matched_all s (slots_below F n f) ((F n).slots (g n)) e),
              (reads n).best (f n) (drop (offset len n) s) (ok n (omega arith)),
            ))

        less :
            matched s (slots_below F n f) ≤ matched s (slots_below F n g) → matched s (slots_below F n f) < length (slots_below F n f)
            → matched s (slots_below F n f ++ (F n).slots (f n)) ≤ matched s (slots_below F n g ++ (F n).slots (g n))
        less b l = omega (arith, matched_less s (slots_below F n f) ((F n).slots (f n)) l, matched_more s (slots_below F n g) ((F n).slots (g n)))

    -- a turn of a loop that reads them
    pub below_turn :
        (s : List ℕ) (c d e : Cursor) (n : ℕ) (v : A) → d ≡ cursor_after s c (slots_below F n (guess_at F len (drop c.at s))) → Took (F n) s d v e
        → (v ≡ guess_at F len (drop c.at s) n) × (e ≡ cursor_after s c (slots_below F (n + 1) (guess_at F len (drop c.at s))))
    unfolding slots_below
    below_turn s c d e n v p t =
        let g = guess_at F len (drop c.at s) in
        let i : v ≡ g n = t.is ∙ ap (F n).guess (drop_after s c d (slots_below F n g) p ∙ ap (λ (k : ℕ). drop k (drop c.at s)) (below_length n g (λ k l. (reads k).fine (drop (offset len k) (drop c.at s))))) in
        (i, rw add-one (goes_on s c d e (slots_below F n g) ((F n).slots (g n)) p (t.goes ∙ ap (λ (x : A). cursor_after s d ((F n).slots x)) i)))

-- ---- the values in a list, or in lists: `get` takes the one numbered k out, and `make` makes them of all

unfoldable pub listed : {A B : Type 0} → (ℕ → Form A) → (ℕ → ℕ) → ℕ → (B → Type 0) → (B → ℕ → A) → ((ℕ → A) → B) → Form B
listed F len n Sized get make =
    record {
      Ok = λ b. Sized b × ((k : ℕ) → k < n → (F k).Ok (get b k));
      slots = λ b. slots_below F n (get b);
      guess = λ s. make (guess_at F len s);
    }

module _ {A B : Type 0} (F : ℕ → Form A) (len : ℕ → ℕ) (fixed : (k : ℕ) (a : A) → (F k).Ok a → length ((F k).slots a) ≡ len k) (n : ℕ) (Sized : B → Type 0) (get : B → ℕ → A) (make : (ℕ → A) → B) (sized : (f : ℕ → A) → Sized (make f)) (got : (f : ℕ → A) (k : ℕ) → k < n → get (make f) k ≡ f k) where
  pub listed_goes :
      (s : List ℕ) (c e : Cursor) → e ≡ cursor_after s c (slots_below F n (guess_at F len (drop c.at s)))
      → Took (listed F len n Sized get make) s c (make (guess_at F len (drop c.at s))) e
  unfolding listed
  listed_goes s c e p =
      record { is = refl; goes = p ∙ ap (cursor_after s c) (below_same F n (guess_at F len (drop c.at s)) (get (make (guess_at F len (drop c.at s)))) (λ k l. sym (got _ k l))) }

  pub reads_listed : ((k : ℕ) → Reads (F k)) → ((b : B) (f : ℕ → A) → Sized b → ((k : ℕ) → k < n → f k ≡ get b k) → make f ≡ b) → Reads (listed F len n Sized get make)
  unfolding listed
  reads_listed reads made =
      record {
        fine = λ s. (sized (guess_at F len s), λ k l. rw (got (guess_at F len s) k l) ((reads k).fine (drop (offset len k) s)));
        exact = λ b s ok h. made b (guess_at F len s) ok.0 (below_exact F len fixed reads n (get b) s ok.1 h);
        best = λ b s ok.
            rw (below_same F n (get (make (guess_at F len s))) (guess_at F len s) (got (guess_at F len s))) (below_best F len fixed reads n (get b) s ok.1);
      }

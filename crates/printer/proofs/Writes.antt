-- The words of nodes, written into a buffer from the end on.
use Prim.Native.Nat.{ℕ, ◌+◌, ◌≤◌}
use mathlib.Core.Path.{◌≡◌, ◌∙◌}
use mathlib.Core.List.{List, [], ◌∷◌}
use native.Mathlib.Omega.{arith}
use mathlib.Core.Bool.{Bool, true, false, cond}
use Rattle.writing.specs.Put.{Put, put_to, put_before}
use Rattle.syntax.specs.declared.Op.{Op}
use Rattle.printer.specs.Tell.{wide, ten, last, first, end_width, Ending, Wording}

pub some_end : (o : Op) → 1 ≤ end_width o
some_end o = by_test (ten o)
  where
    by_test : (b : Bool) → 1 ≤ cond b 2 1
    by_test true = omega arith
    by_test false = omega arith

-- its end: of one byte, or of two
module _ (o : Op) {a b : List ℕ} {near behind hi v : ℕ} (e : v ≡ last o) (w : Put a near (v ∷ []) b behind) (h : near + 1 ≡ hi) where
  pub end_one : ten o ≡ false → Ending a hi o near b
  end_one t = record { begins = rw t h; wrote = rw (t, ← e) (put_to (w.len ∙ h) w) }

  pub end_two : ten o ≡ true → {far past : ℕ} {c : List ℕ} → Put b far (49 ∷ []) c past → far + 1 ≡ near → Ending a hi o far c
  end_two t {far} {past} x g = record { begins = rw t (omega arith); wrote = rw (t, ← e) (put_before (put_to (w.len ∙ h) w) (put_to (x.len ∙ g) x)) }

-- the word is its end, or has a byte before it
module _ (o : Op) {a b : List ℕ} {near hi : ℕ} (w : Ending a hi o near b) where
  pub word_narrow : wide o ≡ false → Wording a hi o near b
  word_narrow t = record { begins = rw t (omega (arith, w.begins)); wrote = rw t w.wrote }

  pub word_wide : wide o ≡ true → {far past u : ℕ} {c : List ℕ} → u ≡ first o → Put b far (u ∷ []) c past → far + 1 ≡ near → Wording a hi o far c
  word_wide t {far} {past} f x g =
      record {
        begins = rw t (omega (arith, w.begins));
        wrote = rw (t, ← f) (put_before w.wrote (put_to (x.len ∙ g) x));
      }

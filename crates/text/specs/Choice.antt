-- A choice between two forms by the text's first byte.
use Prim.Native.Nat.{ℕ, ◌≤◌, ◌<◌}
use Rattle.std.specs.Prelude.{◌≡◌, length, get_or}
use Rattle.std.proofs.Math.Path.{refl}
use Rattle.std.proofs.Common.{sym, ap, ◌∙◌, ⊎_elim, arith, eq-eqb, ne_eqb, eqb-true}
use Rattle.std.proofs.Math.Bool.{Bool, true, false, cond}
use Rattle.std.proofs.lemmas.Bool.{false≢true, eqb-false}
use mathlib.Core.List.{List, [], ◌∷◌}
use Rattle.std.proofs.Math.Dec.{eqb}
use Rattle.text.specs.Slot.{Slot, exactly, admits, matched}
use Rattle.text.specs.Matched.{first_admits}
use Rattle.text.specs.Form.{Form}
use Rattle.text.specs.Cases.{below_or_beyond}
use Rattle.text.specs.Place.{Fills, Whole}

-- the values that `first` has are of F, and their texts begin with the byte b; the others are of G
unfoldable pub choice : {A : Type 0} → ℕ → (A → Bool) → Form A → Form A → Form A
choice b first F G =
    record {
      Ok = λ a. (first a ≡ true → F.Ok a) × (first a ≡ false → G.Ok a);
      slots = λ a. cond (first a) (F.slots a) (G.slots a);
      guess = λ s. cond (eqb (get_or s 0 0) b) (F.guess s) (G.guess s);
    }

-- the first byte tells the two apart: all texts of F's values begin with b, and none of G's does
pub record Apart {A : Type 0} (b : ℕ) (first : A → Bool) (F G : Form A) : Type 0 where
  pub byte : 0 < b
  pub begins : (a : A) → first a ≡ true → F.Ok a → (ts : List Slot) × (F.slots a ≡ exactly b ∷ ts)
  pub others : (a : A) → first a ≡ false → G.Ok a → (s : List ℕ) → get_or s 0 0 ≡ b → matched s (G.slots a) ≡ 0
  pub one : (s : List ℕ) → get_or s 0 0 ≡ b → first (F.guess s) ≡ true
  pub other : (s : List ℕ) → (get_or s 0 0 ≡ b → ⊥) → first (G.guess s) ≡ false

-- ---- the slot of a known byte

-- only that byte goes into it
pub begun_by_lem : (s : List ℕ) (b : ℕ) (ts : List Slot) → 0 < matched s (exactly b ∷ ts) → get_or s 0 0 ≡ b
unfolding admits
begun_by_lem s b ts h = eqb-true (get_or s 0 0) b (first_admits s (exactly b) ts h).1

-- another one does not
pub not_by : (s : List ℕ) (b : ℕ) (ts : List Slot) → (get_or s 0 0 ≡ b → ⊥) → matched s (exactly b ∷ ts) ≡ 0
not_by s b ts h =
    ⊎_elim (λ (l : 0 < matched s (exactly b ∷ ts)). absurd (h (begun_by_lem s b ts l))) (λ (l : matched s (exactly b ∷ ts) ≤ 0). omega arith)
    (below_or_beyond 0 (matched s (exactly b ∷ ts)))

-- ---- the choice

module _ {A : Type 0} {b : ℕ} {first : A → Bool} {F G : Form A} (whole : Whole F) (whole' : Whole G) (apart : Apart b first F G) where
  -- whole texts of either form can be read
  pub choice_whole : Whole (choice b first F G)
  unfolding choice
  choice_whole = record { fine = λ s. fine s (eqb (get_or s 0 0) b) refl; exact = λ a s ok f. exact a s ok (first a) refl f; best = λ a s ok. best a s ok (first a) refl }
    where
      chosen : List ℕ → Bool → A
      chosen s x = cond x (F.guess s) (G.guess s)

      fine : (s : List ℕ) (x : Bool) → eqb (get_or s 0 0) b ≡ x → (first (chosen s x) ≡ true → F.Ok (chosen s x)) × (first (chosen s x) ≡ false → G.Ok (chosen s x))
      fine s true e = (λ h. whole.fine s, λ h. absurd (false≢true (sym h ∙ apart.one s (eqb-true (get_or s 0 0) b e))))
      fine s false e = (λ h. absurd (false≢true (sym (apart.other s (eqb-false (get_or s 0 0) b e)) ∙ h)), λ h. whole'.fine s)

      -- a text that begins one of F's begins with b, and a text of G's does not
      is_first : (a : A) (s : List ℕ) → first a ≡ true → F.Ok a → 0 < matched s (F.slots a) → get_or s 0 0 ≡ b
      is_first a s h ok m = let (ts, e) = apart.begins a h ok in begun_by_lem s b ts (rw e at m)

      is_other : (a : A) (s : List ℕ) → first a ≡ false → G.Ok a → Fills s (G.slots a) → get_or s 0 0 ≡ b → ⊥
      is_other a s h ok f e = empty s (omega (arith, apart.others a h ok s e, f.all, f.long)) e
        where
          empty : (s : List ℕ) → length s ≡ 0 → get_or s 0 0 ≡ b → ⊥
          empty [] l e = omega (arith, apart.byte)
          empty (x ∷ s) l e = omega arith

      exact :
          (a : A) (s : List ℕ) → (first a ≡ true → F.Ok a) × (first a ≡ false → G.Ok a) → (x : Bool) → first a ≡ x → Fills s (cond x (F.slots a) (G.slots a))
          → chosen s (eqb (get_or s 0 0) b) ≡ a
      exact a s ok true h f =
          let (ts, e) = apart.begins a h (ok.0 h) in
          let m : 0 < matched s (F.slots a) = omega (arith, f.all, ap length e) in
          rw (eq-eqb (get_or s 0 0) b (is_first a s h (ok.0 h) m)) (whole.exact a s (ok.0 h) f)
      exact a s ok false h f = rw (ne_eqb (get_or s 0 0) b (is_other a s h (ok.1 h) f)) (whole'.exact a s (ok.1 h) f)

      best :
          (a : A) (s : List ℕ) → (first a ≡ true → F.Ok a) × (first a ≡ false → G.Ok a) → (x : Bool) → first a ≡ x
          → matched s (cond x (F.slots a) (G.slots a))
          ≤ matched s (cond (first (chosen s (eqb (get_or s 0 0) b))) (F.slots (chosen s (eqb (get_or s 0 0) b))) (G.slots (chosen s (eqb (get_or s 0 0) b))))
      best a s ok x h = by_byte x h (eqb (get_or s 0 0) b) refl
        where
          by_byte :
              (x : Bool) → first a ≡ x → (y : Bool) → eqb (get_or s 0 0) b ≡ y
              → matched s (cond x (F.slots a) (G.slots a)) ≤ matched s (cond (first (chosen s y)) (F.slots (chosen s y)) (G.slots (chosen s y)))
          by_byte true h true e = rw (apart.one s (eqb-true (get_or s 0 0) b e)) (whole.best a s (ok.0 h))
          by_byte false h true e = omega (arith, apart.others a h (ok.1 h) s (eqb-true (get_or s 0 0) b e))
          by_byte true h false e =
              ⊎_elim (λ (m : 0 < matched s (F.slots a)). absurd (eqb-false (get_or s 0 0) b e (is_first a s h (ok.0 h) m)))
              (λ (m : matched s (F.slots a) ≤ 0). omega arith) (below_or_beyond 0 (matched s (F.slots a)))
          by_byte false h false e = rw (apart.other s (eqb-false (get_or s 0 0) b e)) (whole'.best a s (ok.1 h))

  -- the first byte tells which form the guess has
  pub guess_first : (s : List ℕ) → first ((choice b first F G).guess s) ≡ eqb (get_or s 0 0) b
  unfolding choice
  guess_first s = by_byte (eqb (get_or s 0 0) b) refl
    where
      by_byte : (y : Bool) → eqb (get_or s 0 0) b ≡ y → first (cond y (F.guess s) (G.guess s)) ≡ y
      by_byte true e = apart.one s (eqb-true (get_or s 0 0) b e)
      by_byte false e = apart.other s (eqb-false (get_or s 0 0) b e)

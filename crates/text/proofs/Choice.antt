-- More of specs/Choice. A choice between two forms by the text's first byte.
use Prim.Native.Nat.{ℕ}
use Rattle.std.specs.Prelude.{◌≡◌, get_or}
use Rattle.std.proofs.Common.{sym, ap, ◌∙◌, eq-eqb, ne_eqb}
use Rattle.std.proofs.Math.Bool.{Bool}
use mathlib.Core.List.{List}
use Rattle.text.specs.Slot.{matched}
use Rattle.text.specs.Form.{Form}
use Rattle.text.specs.Place.{Whole, RefusedAt, refused_at_lem, of_form_fills}
use Rattle.text.specs.Promises.{fit_of, place_is}
use Rattle.text.specs.Choice.{Apart, choice}
use Rattle.text.specs.Choice as of_choice

-- ---- the choice

module _ {A : Type 0} {b : ℕ} {first : A → Bool} {F G : Form A} (whole : Whole F) (whole' : Whole G) (apart : Apart b first F G) where
  abbrev choice_whole : Whole (choice b first F G)
  choice_whole = of_choice.choice_whole {A = A} {b = b} {first = first} {F = F} {G = G} whole whole' apart

  -- what begins with b is read and refused as F does it, and anything else as G does
  pub slots_first : (s : List ℕ) → get_or s 0 0 ≡ b → (choice b first F G).slots ((choice b first F G).guess s) ≡ F.slots (F.guess s)
  unfolding choice
  slots_first s e = rw (eq-eqb (get_or s 0 0) b e, apart.one s e)

  pub slots_other : (s : List ℕ) → (get_or s 0 0 ≡ b → ⊥) → (choice b first F G).slots ((choice b first F G).guess s) ≡ G.slots (G.guess s)
  unfolding choice
  slots_other s e = rw (ne_eqb (get_or s 0 0) b e, apart.other s e)

  -- of two forms that a text is guessed to fit alike, one refuses it where the other does
  refused_same :
      {E : Form A} → Whole E → (s : List ℕ) (i : ℕ) → (choice b first F G).slots ((choice b first F G).guess s) ≡ E.slots (E.guess s) → RefusedAt E s i
      → RefusedAt (choice b first F G) s i
  refused_same {E} reads s i e r =
      let p : fit_of (choice b first F G) s ≡ i = ap (matched s) e ∙ sym (place_is reads s i r) in
      rw p at (refused_at_lem choice_whole s (λ f. r.not_of_form ((of_form_fills reads s).1 (rw e at f))))

  pub refused_first : (s : List ℕ) (i : ℕ) → get_or s 0 0 ≡ b → RefusedAt F s i → RefusedAt (choice b first F G) s i
  refused_first s i e r = refused_same whole s i (slots_first s e) r

  pub refused_other : (s : List ℕ) (i : ℕ) → (get_or s 0 0 ≡ b → ⊥) → RefusedAt G s i → RefusedAt (choice b first F G) s i
  refused_other s i e r = refused_same whole' s i (slots_other s e) r

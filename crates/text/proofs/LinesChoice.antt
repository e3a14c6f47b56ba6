-- Lines of two forms, told apart by their first byte: the text's first byte tells which form all of its lines have.
use Rattle.std.specs.Prelude.{ℕ, ◌<◌, ◌≤◌, ◌≡◌, Bool, false, drop}
use Rattle.std.proofs.Common.{sym, ◌∙◌, ⊎_elim, arith, length-append, get_or-drop}
use Rattle.std.proofs.Math.Path.{ap}
use Rattle.std.proofs.Math.Bool.{true}
use Rattle.std.proofs.lemmas.Bool.{false≢true}
use mathlib.Core.List.{List, [], ◌∷◌, ◌++◌}
use Rattle.std.proofs.Math.ListN.{length, get_or}
use Rattle.std.proofs.lemmas.List.{get_or_at}
use Rattle.words.specs.Below.{list_below}
use Rattle.words.specs.Lists.{length_list, at_list}
use Rattle.text.specs.Slot.{Slot, exactly, matched}
use Rattle.text.specs.Matched.{matched_slots}
use Rattle.text.specs.Form.{Form}
use Rattle.text.specs.Cases.{below_or_beyond}
use Rattle.text.specs.Many.{slots_below, offset}
use Rattle.text.specs.Place.{Fills, Whole, RefusedAt}
use Rattle.text.specs.Lines.{Fixed, line_start, begun, line_at, lines, begun_least, begun_more, fine_line, first_line_lem, lines_whole}
use Rattle.text.specs.LinesRead.{fills_fit, odd_line}
use Rattle.text.specs.FirstLine.{first_of}
use Rattle.text.specs.Choice.{choice, Apart, not_by, choice_whole}
use Rattle.text.proofs.Choice.{refused_first, refused_other}

-- the lines of F begin with the byte b, and those of G with c
pub record LinesApart {A : Type 0} (b c : ℕ) (first : A → Bool) (F G : Form A) : Type 0 where
  pub byte : 0 < b
  pub differ : c ≡ b → ⊥
  pub begins : (a : A) → F.Ok a → (first a ≡ true) × ((ts : List Slot) × (F.slots a ≡ exactly b ∷ ts))
  pub others : (a : A) → G.Ok a → (first a ≡ false) × ((ts : List Slot) × (G.slots a ≡ exactly c ∷ ts))

-- the byte behind a part of a text
at_start : (s : List ℕ) (i : ℕ) → get_or (drop i s) 0 0 ≡ get_or s i 0
at_start s i = get_or-drop i s 0 0 ∙ ap (λ (k : ℕ). get_or s k 0) (omega arith)

module _ {A : Type 0} {b c : ℕ} {first : A → Bool} {F G : Form A} {m n : ℕ} (fixed : Fixed F m) (fixed' : Fixed G n) (none : A) (apart : LinesApart b c first F G) where
  -- `first` of the lines guessed
  guessed : (E : Form A) (k : ℕ) (x : Bool) → Fixed E k → ((a : A) → E.Ok a → first a ≡ x) → (s : List ℕ) → 0 < length s → first_of first ((lines E k none).guess s) ≡ x
  unfolding lines offset first_of
  guessed E k x fix is s h =
      let m = begun k (length s) in
      by_list (list_below m (line_at E k s)) (line_at E k s 0) (omega (arith, length_list m (line_at E k s), begun_more k (length s) 0 fix.some h))
      (at_list none m (line_at E k s) 0 (begun_more k (length s) 0 fix.some h)) (is (line_at E k s 0) (fine_line E k fix s 0))
    where
      by_list : (l : List A) (a : A) → 0 < length l → get_or l 0 none ≡ a → first a ≡ x → first_of first l ≡ x
      by_list [] a h e f = absurd (omega arith)
      by_list (y ∷ l) a h e f = ap first e ∙ f

  -- no lines are begun by no text
  unbegun : (s : List ℕ) → length s ≡ 0 → first_of first ((lines G n none).guess s) ≡ false
  unfolding lines list_below offset first_of
  unbegun s h = let e : begun n (length s) ≡ 0 = omega (arith, begun_least n (length s) 0 fixed'.some (omega arith)) in rw e

  pub lines_apart : Apart b (first_of first) (lines F m none) (lines G n none)
  unfolding lines first_of slots_below
  lines_apart = record { byte = apart.byte; begins = begins; others = others; one = one; other = other }
    where
      begins : (l : List A) → first_of first l ≡ true → (lines F m none).Ok l → (ts : List Slot) × ((lines F m none).slots l ≡ exactly b ∷ ts)
      begins [] h ok = absurd (false≢true h)
      begins (a ∷ l) h ok =
          let (is, (ts, e)) = apart.begins a (ok 0 (omega arith)) in
          (ts ++ (lines F m none).slots l, first_line_lem F m fixed none a l ∙ ap (λ (us : List Slot). us ++ (lines F m none).slots l) e)

      others : (l : List A) → first_of first l ≡ false → (lines G n none).Ok l → (s : List ℕ) → get_or s 0 0 ≡ b → matched s ((lines G n none).slots l) ≡ 0
      others [] h ok s e = omega (arith, matched_slots s [])
      others (a ∷ l) h ok s e =
          let (is, (ts, f)) = apart.others a (ok 0 (omega arith)) in
          rw (first_line_lem G n fixed' none a l, f) (not_by s c (ts ++ (lines G n none).slots l) (λ g. apart.differ (sym g ∙ e)))

      some : (s : List ℕ) → get_or s 0 0 ≡ b → 0 < length s
      some [] e = absurd (omega (arith, apart.byte))
      some (x ∷ s) e = omega arith

      one : (s : List ℕ) → get_or s 0 0 ≡ b → first_of first ((lines F m none).guess s) ≡ true
      one s e = guessed F m true fixed (λ a ok. (apart.begins a ok).0) s (some s e)

      other : (s : List ℕ) → (get_or s 0 0 ≡ b → ⊥) → first_of first ((lines G n none).guess s) ≡ false
      other s e =
          ⊎_elim (λ (h : 0 < length s). guessed G n false fixed' (λ a ok. (apart.others a ok).0) s h) (λ (h : length s ≤ 0). unbegun s (omega arith))
          (below_or_beyond 0 (length s))

  -- lines of either form, all of the first one's, can be read
  pub lines_choice : Whole (choice b (first_of first) (lines F m none) (lines G n none))
  lines_choice = choice_whole (lines_whole F m fixed none) (lines_whole G n fixed' none) lines_apart

  -- behind whole lines a line of the other form is refused at its first byte: one of G behind those of F, and the other way round
  pub odd_behind_first :
      (l : List A) (s r : List ℕ) → (lines F m none).Ok l → Fills s ((lines F m none).slots l) → get_or s 0 0 ≡ b
      → RefusedAt (choice b (first_of first) (lines F m none) (lines G n none)) (s ++ c ∷ r) (length s)
  odd_behind_first l s r ok f e =
      let (long, fit) = fills_fit F m fixed none l s (c ∷ r) ok f in
      rw (← long) at
      (refused_first (lines_whole F m fixed none) (lines_whole G n fixed' none) lines_apart (s ++ c ∷ r) (line_start m (length l)) (begins_same s e)
      (odd_line F m fixed none (s ++ c ∷ r) (length l) fit (omega (arith, length-append s (c ∷ r))) (λ a ok. misses (length l) long (apart.begins a ok).1)))
    where
      begins_same : (s : List ℕ) → get_or s 0 0 ≡ b → get_or (s ++ c ∷ r) 0 0 ≡ b
      begins_same [] e = absurd (omega (arith, apart.byte))
      begins_same (x ∷ s) e = e

      misses : (k : ℕ) {ts : List Slot} → length s ≡ line_start m k → ((us : List Slot) × (ts ≡ exactly b ∷ us)) → matched (drop (line_start m k) (s ++ c ∷ r)) ts ≡ 0
      misses k long (us, f) = rw f (not_by _ b us (λ g. apart.differ (sym (at_start (s ++ c ∷ r) (line_start m k) ∙ get_or_at s c r 0 (line_start m k) long) ∙ g)))

  pub odd_behind_other :
      (l : List A) (s r : List ℕ) → (lines G n none).Ok l → Fills s ((lines G n none).slots l) → 0 < length s → (get_or s 0 0 ≡ b → ⊥)
      → RefusedAt (choice b (first_of first) (lines F m none) (lines G n none)) (s ++ b ∷ r) (length s)
  odd_behind_other l s r ok f some e =
      let (long, fit) = fills_fit G n fixed' none l s (b ∷ r) ok f in
      rw (← long) at
      (refused_other (lines_whole F m fixed none) (lines_whole G n fixed' none) lines_apart (s ++ b ∷ r) (line_start n (length l)) (begins_same s some e)
      (odd_line G n fixed' none (s ++ b ∷ r) (length l) fit (omega (arith, length-append s (b ∷ r))) (λ a ok. misses (length l) long (apart.others a ok).1)))
    where
      begins_same : (s : List ℕ) → 0 < length s → (get_or s 0 0 ≡ b → ⊥) → get_or (s ++ b ∷ r) 0 0 ≡ b → ⊥
      begins_same [] some e = absurd (omega arith)
      begins_same (x ∷ s) some e = e

      misses : (k : ℕ) {ts : List Slot} → length s ≡ line_start n k → ((us : List Slot) × (ts ≡ exactly c ∷ us)) → matched (drop (line_start n k) (s ++ b ∷ r)) ts ≡ 0
      misses k long (us, f) = rw f (not_by _ c us (λ g. apart.differ (sym g ∙ at_start (s ++ b ∷ r) (line_start n k) ∙ get_or_at s b r 0 (line_start n k) long)))

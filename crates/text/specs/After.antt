-- A cursor over a text: the place of the next slot, and how many bytes fit before the first that did not.
use Rattle.std.specs.Prelude.{ℕ, suc, ◌+◌, ◌≤◌, ◌<◌, ◌≡◌, refl, Bool, true, false, cond, List, [], ◌∷◌, ◌++◌, ltb, length, take, drop, get_or}
use Rattle.std.proofs.Common.{sym, ap, ap₂, ◌∙◌, ⊎_elim, arith, add-one, drop_of_length-le, take-suc, drop-cons, lt-ltb, le-ltb}
use Rattle.std.proofs.lemmas.List.{map-append}
use Rattle.text.specs.Matched.{matched_slots}
use Rattle.text.specs.Cases.{below_or_beyond}
use Rattle.text.specs.Slot.{Slot, exactly, admits, matched, word}
use Rattle.text.specs.declared.Cursor.{Cursor}

-- the byte at a place fits the slot
unfoldable pub meets : List ℕ → ℕ → Slot → Bool
meets s i t = cond (ltb i (length s)) (admits t (get_or s i 0)) false

-- a cursor at a place
abbrev pub cursor : ℕ → ℕ → Cursor
cursor at good = record { at = at; good = good }

-- a slot further
unfoldable pub further : Cursor → Bool → Cursor
further c fits = cursor (c.at + 1) (cond (ltb c.good c.at) c.good (cond fits (c.at + 1) c.at))

-- several slots further
unfoldable pub cursor_after : List ℕ → Cursor → List Slot → Cursor
cursor_after s c [] = c
cursor_after s c (t ∷ ts) = cursor_after s (further c (meets s c.at t)) ts

-- ---- its laws

pub after_append : (s : List ℕ) (c : Cursor) (ts us : List Slot) → cursor_after s c (ts ++ us) ≡ cursor_after s (cursor_after s c ts) us
unfolding cursor_after
after_append s c [] us = refl
after_append s c (t ∷ ts) us = after_append s (further c (meets s c.at t)) ts us

-- two stretches are one
pub goes_on : (s : List ℕ) (c d e : Cursor) (ts us : List Slot) → d ≡ cursor_after s c ts → e ≡ cursor_after s d us → e ≡ cursor_after s c (ts ++ us)
goes_on s c d e ts us p q = q ∙ ap (λ (x : Cursor). cursor_after s x us) p ∙ sym (after_append s c ts us)

pub after_at : (s : List ℕ) (c : Cursor) (ts : List Slot) → (cursor_after s c ts).at ≡ c.at + length ts
unfolding cursor_after further
after_at s c [] = omega arith
after_at s c (t ∷ ts) = omega (arith, after_at s (further c (meets s c.at t)) ts)

stuck : (s : List ℕ) (at good : ℕ) (ts : List Slot) → good < at → cursor_after s (cursor at good) ts ≡ cursor (at + length ts) good
unfolding cursor_after further
stuck s at good [] h = ap (λ (i : ℕ). cursor i good) (omega arith)
stuck s at good (t ∷ ts) h = rw (lt-ltb good at h) (stuck s (at + 1) good ts (omega arith) ∙ ap (λ (i : ℕ). cursor i good) (omega arith))

-- as long as all fits, a cursor counts what does
pub after_matched : (s : List ℕ) (i : ℕ) (ts : List Slot) → cursor_after s (cursor i i) ts ≡ cursor (i + length ts) (i + matched (drop i s) ts)
unfolding cursor_after further meets matched
after_matched s i [] = ap₂ cursor (omega arith) (omega (arith, matched_slots (drop i s) []))
after_matched s i (t ∷ ts) = ⊎_elim (inside (after_matched s (i + 1) ts)) beyond (below_or_beyond i (length s))
  where
    by_test :
        (x : Bool) → cursor_after s (cursor (i + 1) (i + 1)) ts ≡ cursor (i + 1 + length ts) (i + 1 + matched (drop (i + 1) s) ts)
        → cursor_after s (cursor (i + 1) (cond x (i + 1) i)) ts ≡ cursor (i + suc (length ts)) (i + cond x (suc (matched (drop (i + 1) s) ts)) 0)
    by_test true h = h ∙ ap₂ cursor (omega arith) (omega arith)
    by_test false h = stuck s (i + 1) i ts (omega arith) ∙ ap₂ cursor (omega arith) (omega arith)

    inside :
        cursor_after s (cursor (i + 1) (i + 1)) ts ≡ cursor (i + 1 + length ts) (i + 1 + matched (drop (i + 1) s) ts) → i < length s
        → cursor_after s (cursor i i) (t ∷ ts) ≡ cursor (i + length (t ∷ ts)) (i + matched (drop i s) (t ∷ ts))
    inside e h =
        let d : drop i s ≡ get_or s i 0 ∷ drop (i + 1) s = drop-cons s i 0 h ∙ ap (λ (n : ℕ). get_or s i 0 ∷ drop n s) (sym (add-one i)) in
        rw (le-ltb i i (omega arith), lt-ltb i (length s) h, d) (by_test (admits t (get_or s i 0)) e)

    beyond : length s ≤ i → cursor_after s (cursor i i) (t ∷ ts) ≡ cursor (i + length (t ∷ ts)) (i + matched (drop i s) (t ∷ ts))
    beyond h =
        rw (le-ltb i i (omega arith), le-ltb i (length s) h, drop_of_length-le s h) (stuck s (i + 1) i ts (omega arith) ∙ ap₂ cursor (omega arith) (omega arith))

-- a turn over known bytes
pub word_turn :
    (s : List ℕ) (c d e : Cursor) (known : List ℕ) (i : ℕ) → i < length known → d ≡ cursor_after s c (word (take i known))
    → e ≡ cursor_after s d (exactly (get_or known i 0) ∷ []) → e ≡ cursor_after s c (word (take (i + 1) known))
word_turn s c d e known i h p q =
    rw (add-one, take-suc known i 0 h, map-append) (goes_on s c d e (word (take i known)) (exactly (get_or known i 0) ∷ []) p q)

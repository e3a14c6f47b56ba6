-- The end of a rule's text: a text of the grammar has no LF, so it is what is left where one final LF is dropped.
use Rattle.std.specs.Prelude.{ℕ, zero, suc, ◌+◌, ◌-◌, ◌/◌, ◌%◌, ◌<◌, ◌≡◌, refl, Bool, true, false, cond, List, [], ◌∷◌, ◌++◌, ◌⊎◌, eqb, ltb, length, get_or, take}
use Rattle.std.proofs.Common.{arith, sym, ap, ◌∙◌, inl, inr, eqb-true, ne_eqb, length-append, take-suc}
use Rattle.std.proofs.Math.Seq.{take-length, take-append_seam, get_or-append_seam}
use Rattle.meaning.specs.Formula.{Formula}
use Rattle.syntax.specs.declared.Token.{Token}
use Rattle.syntax.specs.Grammar.{spell, Spelt, sp_false, sp_true, sp_prop, sp_not, sp_next, sp_finally, sp_globally, sp_until, sp_release, sp_and, sp_or, sp_arrow, sp_open, sp_close, Spells, end, space, token, SaidBy}
use Rattle.report.specs.Text.{lf}
use Rattle.transcript.specs.End.{end_of}

-- no byte is LF
record NoLf (s : List ℕ) : Type 0 where
  other : (k : ℕ) → get_or s k 0 ≡ 10 → ⊥

behind : (x : ℕ) → (x ≡ 10 → ⊥) → {s : List ℕ} → NoLf s → NoLf (x ∷ s)
behind x not-lf {s} h = record { other = λ k. go k }
  where
    go : (k : ℕ) → get_or (x ∷ s) k 0 ≡ 10 → ⊥
    go zero e = not-lf e
    go (suc k) e = h.other k e

-- nor is one of a name's
in_name_lem : (k : ℕ) {s : List ℕ} → NoLf s → NoLf (spell k ++ s)
unfolding spell
in_name_lem k {s} h = by_size (ltb k 10)
  where
    by_size : (b : Bool) → NoLf (cond b ((48 + k) ∷ []) ((48 + k / 10) ∷ (48 + k % 10) ∷ []) ++ s)
    by_size true = behind (48 + k) (λ e. omega arith) h
    by_size false = behind (48 + k / 10) (λ e. omega arith) (behind (48 + k % 10) (λ e. omega arith) h)

in_token : {t : Token} {b s : List ℕ} → Spelt t b → NoLf s → NoLf (b ++ s)
in_token sp_false h = behind 48 (λ e. omega arith) h
in_token sp_true h = behind 49 (λ e. omega arith) h
in_token (sp_prop k l) h = behind 112 (λ e. omega arith) (in_name_lem k h)
in_token sp_not h = behind 33 (λ e. omega arith) h
in_token sp_next h = behind 88 (λ e. omega arith) h
in_token sp_finally h = behind 70 (λ e. omega arith) h
in_token sp_globally h = behind 71 (λ e. omega arith) h
in_token sp_until h = behind 85 (λ e. omega arith) h
in_token sp_release h = behind 82 (λ e. omega arith) h
in_token sp_and h = behind 38 (λ e. omega arith) h
in_token sp_or h = behind 124 (λ e. omega arith) h
in_token sp_arrow h = behind 45 (λ e. omega arith) (behind 62 (λ e. omega arith) h)
in_token sp_open h = behind 40 (λ e. omega arith) h
in_token sp_close h = behind 41 (λ e. omega arith) h

in_text : {ts : List Token} {s : List ℕ} → Spells ts s → NoLf s
in_text end = record { other = λ k e. omega arith }
in_text (space h) = behind 32 (λ e. omega arith) (in_text h)
in_text (token sp h) = in_token sp (in_text h)

-- a text without its final LF
abbrev pub stripped : List ℕ → List ℕ
stripped s = take (end_of s) s

-- a text of the grammar is whole without LF, and with LF behind it
pub end_said : {f : Formula} {s : List ℕ} → SaidBy f s → stripped s ≡ s
end_said {s = s} says = rw (ne_eqb (get_or s (length s - 1) 0) 10 ((in_text says.spells).other (length s - 1))) (take-length s)

pub end_dropped : (s : List ℕ) → stripped (s ++ lf) ≡ s
end_dropped s = rw (long, get_or-append_seam s 10 [] 0) (take-append_seam s lf)
  where
    long : length (s ++ lf) - 1 ≡ length s
    long = omega (arith, length-append s lf)

-- and any text is one or the other
pub end_or : (s : List ℕ) → (s ≡ stripped s) ⊎ (s ≡ stripped s ++ lf)
end_or s = by_last (eqb (get_or s (length s - 1) 0) 10) refl
  where
    some : (s : List ℕ) → get_or s (length s - 1) 0 ≡ 10 → length s - 1 < length s
    some [] e = absurd (omega arith)
    some (b ∷ s) e = omega arith

    by_last : (b : Bool) → eqb (get_or s (length s - 1) 0) 10 ≡ b → (s ≡ take (cond b (length s - 1) (length s)) s) ⊎ (s ≡ take (cond b (length s - 1) (length s)) s ++ lf)
    by_last true e =
        let last = eqb-true (get_or s (length s - 1) 0) 10 e in
        let l = some s last in
        let long : length s ≡ suc (length s - 1) = omega arith in
        inr (sym (take-length s) ∙ ap (λ (n : ℕ). take n s) long ∙ take-suc s (length s - 1) 0 l ∙ ap (λ (x : ℕ). take (length s - 1) s ++ x ∷ []) last)
    by_last false e = inl (sym (take-length s))

-- Where the text of rule.txt ends: an LF that is its last byte is no part of it (01, Log and program).
use Rattle.std.specs.Prelude.{ℕ, ◌-◌, ◌≡◌, refl, Bool, true, false, cond, List, eqb, length, get_or}
use Rattle.std.proofs.Common.{eq-eqb, ne_eqb}

-- the length, or one less where the last byte is LF
abbrev pub end_of : List ℕ → ℕ
end_of t = cond (eqb (get_or t (length t - 1) 0) 10) (length t - 1) (length t)

-- behind LF the length is one less, and behind any other byte it stays
pub end_dropped : (t : List ℕ) → get_or t (length t - 1) 0 ≡ 10 → length t - 1 ≡ end_of t
end_dropped t e = rw (eq-eqb _ _ e) refl

pub end_kept : (t : List ℕ) → (get_or t (length t - 1) 0 ≡ 10 → ⊥) → length t ≡ end_of t
end_kept t n = rw (ne_eqb _ _ n) refl

-- an empty text has no end to drop
pub end_empty : (t : List ℕ) → length t ≡ 0 → 0 ≡ end_of t
end_empty t e = rw e (either (eqb (get_or t (0 - 1) 0) 10))
  where
    either : (b : Bool) → 0 ≡ cond {A = ℕ} b (0 - 1) 0
    either true = refl
    either false = refl

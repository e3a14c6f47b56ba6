-- A rule's temporal parts are numbered as its printed text shows their operators (01, The monitor's state).
use Rattle.std.specs.Prelude.{ℕ, ◌+◌, ◌/◌, ◌%◌, ◌<◌, ◌≡◌, refl, Bool, true, false, cond, ◌||◌, List, [], ◌∷◌, ◌++◌, map, eqb, ltb}
use Rattle.std.proofs.Common.{sym, ap, ◌∙◌, append-nil, arith, ltb-true, ne_eqb}
use Rattle.std.proofs.lemmas.List.{map-append}
use Rattle.meaning.specs.Formula.{Formula, never, always, prop, neg, next, finally, globally, until, release, and, or, implies, temporal}
use Rattle.syntax.specs.Grammar.{names, spell}
use Rattle.syntax.specs.Print.{inside, print, Below}

-- whether a byte is one of the letters F G R U X
abbrev pub is_letter : ℕ → Bool
is_letter b = eqb b 70 || (eqb b 71 || (eqb b 82 || (eqb b 85 || eqb b 88)))

-- those letters of a text, in their order
unfoldable pub letters : List ℕ → List ℕ
letters [] = []
letters (b ∷ s) = cond (is_letter b) (b ∷ letters s) (letters s)

-- the letter of a temporal part, which is that of its outermost operator
abbrev pub letter_of : Formula → ℕ
letter_of (next a) = 88
letter_of (finally a) = 70
letter_of (globally a) = 71
letter_of (until a b) = 85
letter_of (release a b) = 82
letter_of never = 0
letter_of always = 0
letter_of (prop k) = 0
letter_of (neg a) = 0
letter_of (and a b) = 0
letter_of (or a b) = 0
letter_of (implies a b) = 0

-- the letters of two texts are those of the one and then those of the other
letters_append : (s t : List ℕ) → letters (s ++ t) ≡ letters s ++ letters t
unfolding letters
letters_append [] t = refl
letters_append (b ∷ s) t = one (is_letter b) (letters_append s t)
  where
    one : (x : Bool) → letters (s ++ t) ≡ letters s ++ letters t
        → cond x (b ∷ letters (s ++ t)) (letters (s ++ t)) ≡ cond x (b ∷ letters s) (letters s) ++ letters t
    one true e = rw e
    one false e = e

-- digits are none of them
digit : (k : ℕ) → k < 10 → is_letter (48 + k) ≡ false
digit k lt =
    rw (ne_eqb (48 + k) 70 (λ e. omega arith), ne_eqb (48 + k) 71 (λ e. omega arith), ne_eqb (48 + k) 82 (λ e. omega arith), ne_eqb (48 + k) 85 (λ e. omega arith), ne_eqb (48 + k) 88 (λ e. omega arith))

-- so a name has none
name : (k : ℕ) → k < names → letters (112 ∷ spell k) ≡ []
unfolding letters spell
name k lt = one (ltb k 10) refl
  where
    one : (x : Bool) → ltb k 10 ≡ x → letters (112 ∷ cond x ((48 + k) ∷ []) ((48 + k / 10) ∷ (48 + k % 10) ∷ [])) ≡ []
    one true e = rw (digit k (ltb-true k 10 e))
    one false e = rw (digit (k / 10) (omega arith), digit (k % 10) (omega arith))

-- between two operands stand the letters of their operator, if it has one
between : (s o t : List ℕ) → letters (inside s o t) ≡ letters s ++ (letters o ++ letters t)
unfolding letters
between s o t = letters_append s (o ++ (t ++ 41 ∷ [])) ∙ ap (λ (u : List ℕ). letters s ++ u) (letters_append o (t ++ 41 ∷ []) ∙ ap (λ (u : List ℕ). letters o ++ u) (letters_append t (41 ∷ []) ∙ append-nil (letters t)))

-- the letters of the printed rule are those of its temporal parts, part after part
pub as_printed : (f : Formula) → Below names f → letters (print f) ≡ map letter_of (temporal f)
unfolding Below print letters temporal
as_printed never below = refl
as_printed always below = refl
as_printed (prop k) below = name k below
as_printed (neg a) below = as_printed a below
as_printed (next a) below = rw (as_printed a below)
as_printed (finally a) below = rw (as_printed a below)
as_printed (globally a) below = rw (as_printed a below)
as_printed (until a b) (l, r) = between (print a) (85 ∷ []) (print b) ∙ rw (as_printed a l, as_printed b r) (sym (map-append letter_of (temporal a) (until a b ∷ temporal b)))
as_printed (release a b) (l, r) = between (print a) (82 ∷ []) (print b) ∙ rw (as_printed a l, as_printed b r) (sym (map-append letter_of (temporal a) (release a b ∷ temporal b)))
as_printed (and a b) (l, r) = between (print a) (38 ∷ []) (print b) ∙ rw (as_printed a l, as_printed b r) (sym (map-append letter_of (temporal a) (temporal b)))
as_printed (or a b) (l, r) = between (print a) (124 ∷ []) (print b) ∙ rw (as_printed a l, as_printed b r) (sym (map-append letter_of (temporal a) (temporal b)))
as_printed (implies a b) (l, r) = between (print a) (45 ∷ 62 ∷ []) (print b) ∙ rw (as_printed a l, as_printed b r) (sym (map-append letter_of (temporal a) (temporal b)))

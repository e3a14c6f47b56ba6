-- The name at a place of a text.
use Prim.Native.Nat.{ℕ, ◌+◌, ◌≤◌, ◌<◌}
use mathlib.Core.Path.{◌≡◌, refl, sym, ap, subst, ◌∙◌}
use mathlib.Core.List.{List, [], ◌∷◌, ◌++◌}
use mathlib.Core.Bool.{Bool, true, false, cond, false≢true}
use native.Mathlib.Omega.{arith}
use native.Mathlib.Decide.{dec_lt}
use borrow.Author.Tests.{eq-eqb, ne_eqb, eqb-true, ltb-true}
use lib.Dec.{eqb}
use lib.ListN.{length, get_or, drop, get_or-eq_default}
use lib.Seq.{get_or-drop}
use Rattle.syntax.specs.declared.Sign.{Sign}
use Rattle.syntax.specs.declared.Sign.TheVariants.{Blank, Digit, Letter, Before, Between, Dash, Angle, Left, Right, Other}
use Rattle.syntax.specs.Grammar.{names, spell}
use Rattle.syntax.specs.Bytes.{sign_of, digit_of, goes_on, teen_of, teen_bytes, name_of, name_bytes, NameAt}
use Rattle.syntax.proofs.Places.{byte, at_end_lem}
use Rattle.syntax.proofs.Lexing.{Byte, byte_of, by_digits, spelt_one, spelt_two, sign_digit, name_is}

-- a byte up to `9`
pub last_digit : (b : ℕ) → b < 58 → b ≤ 57
last_digit b h = omega arith

-- what makes a name longer is a digit
pub goes_digit : (x : Sign) → goes_on x ≡ true → (x ≡ Digit (digit_of x)) × (10 + digit_of x < names)
goes_digit (Digit k) e = (refl, ltb-true (10 + k) names e)
goes_digit Blank e = absurd (false≢true e)
goes_digit Letter e = absurd (false≢true e)
goes_digit (Before o) e = absurd (false≢true e)
goes_digit (Between o) e = absurd (false≢true e)
goes_digit Dash e = absurd (false≢true e)
goes_digit Angle e = absurd (false≢true e)
goes_digit Left e = absurd (false≢true e)
goes_digit Right e = absurd (false≢true e)
goes_digit Other e = absurd (false≢true e)

-- beyond the end there is none
pub none_there : (s : List ℕ) (at : ℕ) → length s ≤ at → Other ≡ sign_of (get_or s at 0)
unfolding sign_of
none_there s at h = sym (ap sign_of (get_or-eq_default s 0 h))

-- the text ends behind the `p`
pub name_missing : (s : List ℕ) (at : ℕ) → at ≤ length s → length s ≤ at → NameAt s at (record { number = 0; next = at })
unfolding name_of name_bytes sign_of
name_missing s at h l =
    let e = at_end_lem s at h l in record { number_is = sym (ap name_of e); next_is = rw e (omega arith); within = h }

module _ (s : List ℕ) (at : ℕ) (h : at < length s) where
  -- by the two signs behind the `p`
  by_signs :
      (name_of (drop at s) ≡ cond (eqb (digit_of (sign_of (get_or s at 0))) 1) (teen_of (sign_of (get_or s (at + 1) 0))) (digit_of (sign_of (get_or s at 0))))
      × (name_bytes (drop at s) ≡ cond (eqb (digit_of (sign_of (get_or s at 0))) 1) (teen_bytes (sign_of (get_or s (at + 1) 0))) 1)
  unfolding name_of name_bytes
  by_signs =
      let e = byte s at h in
      let n : get_or (drop (at + 1) s) 0 0 ≡ get_or s (at + 1) 0 = get_or-drop (at + 1) s 0 0 ∙ ap (λ i. get_or s i 0) (omega arith) in (
        ap name_of e ∙ ap (λ b. cond (eqb (digit_of (sign_of (get_or s at 0))) 1) (teen_of (sign_of b)) (digit_of (sign_of (get_or s at 0)))) n,
        ap name_bytes e ∙ ap (λ b. cond (eqb (digit_of (sign_of (get_or s at 0))) 1) (teen_bytes (sign_of b)) 1) n,
      )

  -- a digit that no other follows
  pub name_one : (f : ℕ) → f ≡ digit_of (sign_of (get_or s at 0)) → (f ≡ 1 → ⊥) → NameAt s at (record { number = f; next = at + 1 })
  name_one f e n =
      let t = ne_eqb (digit_of (sign_of (get_or s at 0))) 1 (λ g. n (e ∙ g)) in
      let b : name_bytes (drop at s) ≡ 1 = by_signs.1 ∙ rw t in
      record { number_is = e ∙ sym (by_signs.0 ∙ rw t); next_is = omega arith; within = omega arith }

  module _ (f : ℕ) (k : Sign) (e : f ≡ digit_of (sign_of (get_or s at 0))) (one : f ≡ 1) (is : k ≡ sign_of (get_or s (at + 1) 0)) where
    leads : eqb (digit_of (sign_of (get_or s at 0))) 1 ≡ true
    leads = eq-eqb (digit_of (sign_of (get_or s at 0))) 1 (sym e ∙ one)

    -- `p1`
    pub name_short : goes_on k ≡ false → NameAt s at (record { number = f; next = at + 1 })
    name_short g =
        let t : goes_on (sign_of (get_or s (at + 1) 0)) ≡ false = ap goes_on (sym is) ∙ g in
        let b : name_bytes (drop at s) ≡ 1 = by_signs.1 ∙ rw (leads, t) in
        record { number_is = one ∙ sym (by_signs.0 ∙ rw (leads, t)); next_is = omega arith; within = omega arith }

    -- `p1` and a digit
    pub name_two : (m : ℕ) → m ≡ digit_of k → goes_on k ≡ true → NameAt s at (record { number = 10 + m; next = at + 1 + 1 })
    name_two m d g =
        let t : goes_on (sign_of (get_or s (at + 1) 0)) ≡ true = ap goes_on (sym is) ∙ g in
        let b : name_bytes (drop at s) ≡ 2 = by_signs.1 ∙ rw (leads, t) in
        let n : name_of (drop at s) ≡ 10 + digit_of (sign_of (get_or s (at + 1) 0)) = by_signs.0 ∙ rw (leads, t) in
        record { number_is = ap (λ i. 10 + i) (d ∙ ap digit_of is) ∙ sym n; next_is = omega arith; within = inside t }
      where
        inside : goes_on (sign_of (get_or s (at + 1) 0)) ≡ true → at + 1 + 1 ≤ length s
        inside t = elim (dec_lt (at + 1) (length s)) [
          | yes l ↦ omega arith
          | no l ↦ absurd (false≢true (ap goes_on (none_there s (at + 1) (omega arith)) ∙ t))
        ]

-- ---- of the names with which a text goes on, the longest is found

-- a number of some digits
pub spell_some : (k : ℕ) → k < names → 1 ≤ length (spell k)
spell_some k h = by_digits {P = λ k. 1 ≤ length (spell k)} (λ k l. rw (spelt_one k l) (omega arith)) (λ k l. rw (spelt_two k l) (omega arith)) k h

-- a sign with a number above 0 is a digit
is_digit : (x : Sign) → 1 ≤ digit_of x → x ≡ Digit (digit_of x)
is_digit (Digit k) h = refl
is_digit Blank h = absurd (omega arith)
is_digit Letter h = absurd (omega arith)
is_digit (Before o) h = absurd (omega arith)
is_digit (Between o) h = absurd (omega arith)
is_digit Dash h = absurd (omega arith)
is_digit Angle h = absurd (omega arith)
is_digit Left h = absurd (omega arith)
is_digit Right h = absurd (omega arith)
is_digit Other h = absurd (omega arith)

-- the byte of a digit
digit_byte_lem : (b : ℕ) → sign_of b ≡ Digit (digit_of (sign_of b)) → (b ≡ 48 + digit_of (sign_of b)) × (digit_of (sign_of b) < 10)
digit_byte_lem b e = subst (λ x. Byte x b) e (byte_of b)

-- the text begins with the name of j
abbrev pub Begins : List ℕ → ℕ → Type 0
Begins s j = (j < names) × (rest : List ℕ) × (s ≡ spell j ++ rest)

-- the name that is found stands there
pub name_stands : (s : List ℕ) → 1 ≤ name_of s → Begins s (name_of s)
unfolding name_of sign_of
name_stands [] h = absurd (omega arith)
name_stands (b ∷ s) h = first (eqb (digit_of (sign_of b)) 1) refl h
  where
    second : (s : List ℕ) (x : Bool) → b ≡ 49 → goes_on (sign_of (get_or s 0 0)) ≡ x → Begins (b ∷ s) (cond x (10 + digit_of (sign_of (get_or s 0 0))) 1)
    second s false e g = (omega arith, s, rw (e, spelt_one 1 (omega arith)))
    second [] true e g = absurd (false≢true g)
    second (c ∷ s) true e g =
        let (is, l) = goes_digit (sign_of c) g in
        let d = digit_byte_lem c is in
        (l, s, rw (spelt_two (digit_of (sign_of c)) l, e, ← d.0))

    first : (x : Bool) → eqb (digit_of (sign_of b)) 1 ≡ x → 1 ≤ cond x (teen_of (sign_of (get_or s 0 0))) (digit_of (sign_of b)) → Begins (b ∷ s) (cond x (teen_of (sign_of (get_or s 0 0))) (digit_of (sign_of b)))
    first true e h =
        let o = eqb-true (digit_of (sign_of b)) 1 e in
        let d = digit_byte_lem b (is_digit (sign_of b) (omega arith)) in second s (goes_on (sign_of (get_or s 0 0))) (omega (arith, d.0)) refl
    first false e h = let d = digit_byte_lem b (is_digit (sign_of b) h) in let l = d.1 in (omega arith, s, rw (spelt_one (digit_of (sign_of b)) l, ← d.0))

-- and no longer one
pub name_longest : (s : List ℕ) (j : ℕ) → Begins s j → j ≤ name_of s
unfolding name_of sign_of
name_longest s j (h, rest, e) = rw e (by_digits {P = λ j. j ≤ name_of (spell j ++ rest)} one two j h)
  where
    by_first : (j : ℕ) (x : Bool) → eqb j 1 ≡ x → (y : Bool) → j ≤ cond x (cond y (10 + digit_of (sign_of (get_or rest 0 0))) 1) j
    by_first j true e true = omega (arith, eqb-true j 1 e)
    by_first j true e false = omega (arith, eqb-true j 1 e)
    by_first j false e y = omega arith

    one : (j : ℕ) → j < 10 → j ≤ name_of (spell j ++ rest)
    one j l = rw (spelt_one j l, sign_digit j l) (by_first j (eqb j 1) refl (goes_on (sign_of (get_or rest 0 0))))

    two : (j : ℕ) → 10 + j < names → 10 + j ≤ name_of (spell (10 + j) ++ rest)
    two j l = omega (arith, (name_is (10 + j) l rest (λ o. absurd (omega arith))).0)

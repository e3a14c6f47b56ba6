-- What each byte may be, and the tokens of a text. `lex` is lenient: what stands in no text it skips.
use Rattle.std.specs.Prelude.{ℕ, zero, suc, ◌+◌, ◌-◌, ◌≤◌, ◌≡◌, List, [], ◌∷◌, Bool, true, false, ◌&&◌, cond, eqb, leb, ltb, length, get_or, drop}
use Rattle.syntax.specs.Grammar.{names}
use Rattle.syntax.specs.declared.Name.{Name}
use Rattle.syntax.specs.declared.Op.{Op}
use Rattle.syntax.specs.declared.Op.TheVariants.{False, True, Prop, Not, Next, Finally, Globally, Until, Release, And, Or, Implies}
use Rattle.syntax.specs.declared.Token.{Token}
use Rattle.syntax.specs.declared.Token.TheVariants.{Leaf, Prefix, Infix, Open, Close}
use Rattle.syntax.specs.declared.Sign.{Sign}
use Rattle.syntax.specs.declared.Sign.TheVariants.{Blank, Digit, Letter, Before, Between, Dash, Angle, Left, Right, Other}

unfoldable pub sign_of : ℕ → Sign
sign_of b =
    cond (leb 48 b && leb b 57) (Digit (b - 48))
    (cond (eqb b 32) Blank
    (cond (eqb b 33) (Before Not)
    (cond (eqb b 38) (Between And)
    (cond (eqb b 40) Left
    (cond (eqb b 41) Right
    (cond (eqb b 45) Dash
    (cond (eqb b 62) Angle
    (cond (eqb b 70) (Before Finally)
    (cond (eqb b 71) (Before Globally)
    (cond (eqb b 82) (Between Release)
    (cond (eqb b 85) (Between Until)
    (cond (eqb b 88) (Before Next)
    (cond (eqb b 112) Letter
    (cond (eqb b 124) (Between Or) Other))))))))))))))

-- the leaf of a digit that stands alone
unfoldable pub leaf_of : ℕ → Op
leaf_of zero = False
leaf_of (suc k) = True

-- the number of a digit
abbrev pub digit_of : Sign → ℕ
digit_of (Digit k) = k
digit_of Blank = 0
digit_of Letter = 0
digit_of (Before o) = 0
digit_of (Between o) = 0
digit_of Dash = 0
digit_of Angle = 0
digit_of Left = 0
digit_of Right = 0
digit_of Other = 0

-- whether no token begins with a byte of the sign
abbrev pub gap : Sign → Bool
gap Blank = true
gap Angle = true
gap Other = true
gap (Digit k) = false
gap Letter = false
gap (Before o) = false
gap (Between o) = false
gap Dash = false
gap Left = false
gap Right = false

-- whether a byte of the sign makes `p1` a longer name
abbrev pub goes_on : Sign → Bool
goes_on (Digit k) = ltb (10 + k) names
goes_on Blank = false
goes_on Letter = false
goes_on (Before o) = false
goes_on (Between o) = false
goes_on Dash = false
goes_on Angle = false
goes_on Left = false
goes_on Right = false
goes_on Other = false

-- the number that the name `p1`, or a longer one, has, by the sign behind it; and how many digits
abbrev pub teen_of : Sign → ℕ
teen_of k = cond (goes_on k) (10 + digit_of k) 1

abbrev pub teen_bytes : Sign → ℕ
teen_bytes k = cond (goes_on k) 2 1

-- the number of the name that goes on, behind its `p`, with the text; and how many bytes of it are the name's
unfoldable pub name_of : List ℕ → ℕ
name_of s = cond (eqb (digit_of (sign_of (get_or s 0 0))) 1) (teen_of (sign_of (get_or s 1 0))) (digit_of (sign_of (get_or s 0 0)))

unfoldable pub name_bytes : List ℕ → ℕ
name_bytes [] = 0
name_bytes (b ∷ s) = cond (eqb (digit_of (sign_of b)) 1) (teen_bytes (sign_of (get_or s 0 0))) 1

-- the tokens of a text, from a byte of the sign on: those of the rest, or those of the rest after a `p`
unfoldable pub lex_sign : Sign → List Token → List Token → List Token
lex_sign Blank ts after = ts
lex_sign (Digit k) ts after = Leaf (leaf_of k) ∷ ts
lex_sign Letter ts after = after
lex_sign (Before o) ts after = Prefix o ∷ ts
lex_sign (Between o) ts after = Infix o ∷ ts
lex_sign Dash ts after = Infix Implies ∷ ts
lex_sign Angle ts after = ts
lex_sign Left ts after = Open ∷ ts
lex_sign Right ts after = Close ∷ ts
lex_sign Other ts after = ts

-- the tokens of a text, behind n bytes of it that are a name's
unfoldable pub lex : ℕ → List ℕ → List Token
lex n [] = []
lex zero (b ∷ s) = lex_sign (sign_of b) (lex 0 s) (Leaf (Prop (name_of s)) ∷ lex (name_bytes s) s)
lex (suc n) (b ∷ s) = lex n s

-- the tokens of a text that follows a `p`
abbrev pub lex_name : List ℕ → List Token
lex_name s = Leaf (Prop (name_of s)) ∷ lex (name_bytes s) s

-- the tokens from a place on
abbrev pub tokens : List ℕ → ℕ → List Token
tokens s at = lex 0 (drop at s)

-- n is the proposition whose name goes on at `at`, behind its `p`
pub record NameAt (s : List ℕ) (at : ℕ) (n : Name) : Type 0 where
  pub number_is : n.number ≡ name_of (drop at s)
  pub next_is : n.next ≡ at + name_bytes (drop at s)
  pub within : n.next ≤ length s

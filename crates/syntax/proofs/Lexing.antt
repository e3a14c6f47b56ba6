-- The bytes of tokens, the signs, and where a name ends.
use Prim.{Unit}
use Prim.Native.Nat.{ℕ, ◌+◌, ◌-◌, ◌/◌, ◌%◌, ◌<◌}
use mathlib.Core.Path.{◌≡◌, refl, sym, ap, ◌∙◌}
use mathlib.Core.List.{List, [], ◌∷◌, ◌++◌, append_assoc, append-nil}
use mathlib.Core.Bool.{Bool, true, false, ◌&&◌, cond}
use native.Mathlib.Omega.{arith}
use native.Mathlib.Decide.{dec_lt}
use lib.Dec.{eqb}
use lib.ListN.{length, get_or}
use Rattle.meaning.specs.Formula.{Formula}
use borrow.Author.Tests.{le-leb, lt-ltb, le-ltb, eqb-true, leb-true}
use Rattle.syntax.specs.declared.Op.TheVariants.{False, True, Prop, Not, Next, Finally, Globally, Until, Release, And, Or, Implies}
use Rattle.syntax.specs.declared.Token.{Token}
use Rattle.syntax.specs.declared.Token.TheVariants.{Leaf, Prefix, Infix, Open, Close, End}
use Rattle.syntax.specs.declared.Sign.{Sign}
use Rattle.syntax.specs.declared.Sign.TheVariants.{Blank, Digit, Letter, Before, Between, Dash, Angle, Left, Right, Other}
use Rattle.syntax.specs.Grammar.{names, spell, Spelt, sp_false, sp_true, sp_prop, sp_not, sp_next, sp_finally, sp_globally, sp_until, sp_release, sp_and, sp_or, sp_arrow, sp_open, sp_close, Spells, end, space, token, Level, Text, atom, group, unary, lefts, rights, tight}
use Rattle.syntax.specs.Bytes.{sign_of, goes_on, teen_of, teen_bytes, name_of, name_bytes, leaf_of, lex_sign, lex}

pub sign_digit : (k : ℕ) → k < 10 → sign_of (48 + k) ≡ Digit k
unfolding sign_of
sign_digit k h =
    let e : 48 + k - 48 ≡ k = omega arith in
    simp (le-leb 48 (48 + k) (omega arith), le-leb (48 + k) 57 (omega arith), e)

-- ---- names

-- a number of one digit, and one of two
pub spelt_one : (k : ℕ) → k < 10 → spell k ≡ (48 + k) ∷ []
unfolding spell
spelt_one k h = rw (lt-ltb k 10 h)

pub spelt_two : (k : ℕ) → 10 + k < names → spell (10 + k) ≡ 49 ∷ (48 + k) ∷ []
unfolding spell
spelt_two k h =
    let p : 48 + (10 + k) / 10 ≡ 49 = omega arith in
    let q : 48 + (10 + k) % 10 ≡ 48 + k = omega arith in
    rw (le-ltb (10 + k) 10 (omega arith), p, q)

-- each number that has a name is of one of the two
pub by_digits : {P : ℕ → Type 0} → ((k : ℕ) → k < 10 → P k) → ((k : ℕ) → 10 + k < names → P (10 + k)) → (k : ℕ) → k < names → P k
by_digits {P} one two k h = elim (dec_lt k 10) [
  | yes l ↦ one k l
  | no l ↦ let e : 10 + (k - 10) ≡ k = omega arith in rw e at (two (k - 10) (omega arith))
]

-- the text does not make `p1` a longer name
abbrev pub Ends : List ℕ → Type 0
Ends s = goes_on (sign_of (get_or s 0 0)) ≡ false

-- a name is found, with its bytes, before a text that, if it is `p1`, does not make it longer
pub name_is : (k : ℕ) → k < names → (s : List ℕ) → (k ≡ 1 → Ends s) → (name_of (spell k ++ s) ≡ k) × (name_bytes (spell k ++ s) ≡ length (spell k))
unfolding name_of name_bytes sign_of
name_is k h s e = by_digits {P = λ k. (k ≡ 1 → Ends s) → (name_of (spell k ++ s) ≡ k) × (name_bytes (spell k ++ s) ≡ length (spell k))} one two k h e
  where
    by_first : (k : ℕ) → (k ≡ 1 → Ends s) → (x : Bool) → eqb k 1 ≡ x → (cond x (teen_of (sign_of (get_or s 0 0))) k ≡ k) × (cond x (teen_bytes (sign_of (get_or s 0 0))) 1 ≡ 1)
    by_first k e true f = let o = eqb-true k 1 f in let n = e o in (rw n (sym o), rw n)
    by_first k e false f = (refl, refl)

    one : (k : ℕ) → k < 10 → (k ≡ 1 → Ends s) → (name_of (spell k ++ s) ≡ k) × (name_bytes (spell k ++ s) ≡ length (spell k))
    one k l e = rw (spelt_one k l, sign_digit k l) (by_first k e (eqb k 1) refl)

    two : (k : ℕ) → 10 + k < names → (10 + k ≡ 1 → Ends s) → (name_of (spell (10 + k) ++ s) ≡ 10 + k) × (name_bytes (spell (10 + k) ++ s) ≡ length (spell (10 + k)))
    two k l e = rw (spelt_two k l, sign_digit k (omega arith), lt-ltb (10 + k) names l) (refl, refl)

-- ---- tokens

-- the tokens do not begin with a leaf
abbrev pub Off : List Token → Type 0
Off [] = Unit {0}
Off (Leaf o ∷ ts) = ⊥
Off (Prefix o ∷ ts) = Unit {0}
Off (Infix o ∷ ts) = Unit {0}
Off (Open ∷ ts) = Unit {0}
Off (Close ∷ ts) = Unit {0}
Off (End ∷ ts) = Unit {0}

-- no leaf stands behind a leaf: so what follows a name does not make it longer
unfoldable pub Apart : List Token → Type 0
Apart [] = Unit {0}
Apart (Leaf o ∷ ts) = Off ts × Apart ts
Apart (Prefix o ∷ ts) = Apart ts
Apart (Infix o ∷ ts) = Apart ts
Apart (Open ∷ ts) = Apart ts
Apart (Close ∷ ts) = Apart ts
Apart (End ∷ ts) = Apart ts

pub off_ends : {ts : List Token} {s : List ℕ} → Off ts → Spells ts s → Ends s
unfolding sign_of
off_ends o end = refl
off_ends o (space r) = refl
off_ends o (token sp_false r) = absurd o
off_ends o (token sp_true r) = absurd o
off_ends o (token (sp_prop k h) r) = absurd o
off_ends o (token sp_not r) = refl
off_ends o (token sp_next r) = refl
off_ends o (token sp_finally r) = refl
off_ends o (token sp_globally r) = refl
off_ends o (token sp_until r) = refl
off_ends o (token sp_release r) = refl
off_ends o (token sp_and r) = refl
off_ends o (token sp_or r) = refl
off_ends o (token sp_arrow r) = refl
off_ends o (token sp_open r) = refl
off_ends o (token sp_close r) = refl

-- the tokens of a rule's text are so
pub apart : {l : Level} {f : Formula} {ts : List Token} → Text l f ts → (us : List Token) → Off us → Apart us → Apart (ts ++ us)
unfolding Apart
apart (atom a) us o r = (o, r)
apart (group {s = s} t) us o r = rw (append_assoc s (Close ∷ []) us) (apart t (Close ∷ us) tt r)
apart (unary b t) us o r = apart t us o r
apart (lefts {s = s} {t = t} b p q) us o r = rw append_assoc (apart p _ tt (apart q us o r))
apart (rights {s = s} {t = t} b p q) us o r = rw append_assoc (apart p _ tt (apart q us o r))
apart (tight t) us o r = apart t us o r

pub text_apart : {l : Level} {f : Formula} {ts : List Token} → Text l f ts → Apart ts
unfolding Apart
text_apart {ts = ts} t = rw (append-nil ts) at (apart t [] tt tt)

-- behind a name the lexer goes on
lex_over : (b s : List ℕ) → lex (length b) (b ++ s) ≡ lex 0 s
unfolding lex
lex_over [] s = refl
lex_over (x ∷ b) s = lex_over b s

-- the lexer finds the tokens of a text
pub lexed : {ts : List Token} {s : List ℕ} → Apart ts → Spells ts s → lex 0 s ≡ ts
unfolding lex lex_sign sign_of leaf_of Apart
lexed a end = refl
lexed a (space r) = lexed a r
lexed a (token sp_false r) = ap (λ ts. Leaf False ∷ ts) (lexed a.1 r)
lexed a (token sp_true r) = ap (λ ts. Leaf True ∷ ts) (lexed a.1 r)
lexed a (token {s = rest} (sp_prop k h) r) =
    let n = name_is k h rest (λ one. off_ends a.0 r) in
    rw (n.0, n.1) (ap (λ ts. Leaf (Prop k) ∷ ts) (lex_over (spell k) rest ∙ lexed a.1 r))
lexed a (token sp_not r) = ap (λ ts. Prefix Not ∷ ts) (lexed a r)
lexed a (token sp_next r) = ap (λ ts. Prefix Next ∷ ts) (lexed a r)
lexed a (token sp_finally r) = ap (λ ts. Prefix Finally ∷ ts) (lexed a r)
lexed a (token sp_globally r) = ap (λ ts. Prefix Globally ∷ ts) (lexed a r)
lexed a (token sp_until r) = ap (λ ts. Infix Until ∷ ts) (lexed a r)
lexed a (token sp_release r) = ap (λ ts. Infix Release ∷ ts) (lexed a r)
lexed a (token sp_and r) = ap (λ ts. Infix And ∷ ts) (lexed a r)
lexed a (token sp_or r) = ap (λ ts. Infix Or ∷ ts) (lexed a r)
lexed a (token sp_arrow r) = ap (λ ts. Infix Implies ∷ ts) (lexed a r)
lexed a (token sp_open r) = ap (λ ts. Open ∷ ts) (lexed a r)
lexed a (token sp_close r) = ap (λ ts. Close ∷ ts) (lexed a r)

-- the bytes of a sign
abbrev pub Byte : Sign → ℕ → Type 0
Byte Blank b = b ≡ 32
Byte (Digit k) b = (b ≡ 48 + k) × (k < 10)
Byte Letter b = b ≡ 112
Byte (Before o) b = Spelt (Prefix o) (b ∷ [])
Byte (Between o) b = Spelt (Infix o) (b ∷ [])
Byte Dash b = b ≡ 45
Byte Angle b = b ≡ 62
Byte Left b = b ≡ 40
Byte Right b = b ≡ 41
Byte Other b = Unit {0}

either : (b : ℕ) (t : Bool) (x y : Sign) → (t ≡ true → Byte x b) → Byte y b → Byte (cond t x y) b
either b true x y f g = f refl
either b false x y f g = g

pub both_true : (x y : Bool) → (x && y) ≡ true → (x ≡ true) × (y ≡ true)
both_true true true e = (refl, refl)
both_true true false e = (refl, e)
both_true false true e = (e, refl)
both_true false false e = (e, e)

pub byte_of : (b : ℕ) → Byte (sign_of b) b
unfolding sign_of
byte_of b =
    either b _ (Digit (b - 48)) _ (λ e. let h = both_true _ _ e in
    let lo = leb-true 48 b h.0 in let hi = leb-true b 57 h.1 in (omega arith, omega arith))
    (either b _ Blank _ (λ e. eqb-true b 32 e)
    (either b _ (Before Not) _ (λ e. rw (eqb-true b 33 e) sp_not)
    (either b _ (Between And) _ (λ e. rw (eqb-true b 38 e) sp_and)
    (either b _ Left _ (λ e. eqb-true b 40 e)
    (either b _ Right _ (λ e. eqb-true b 41 e)
    (either b _ Dash _ (λ e. eqb-true b 45 e)
    (either b _ Angle _ (λ e. eqb-true b 62 e)
    (either b _ (Before Finally) _ (λ e. rw (eqb-true b 70 e) sp_finally)
    (either b _ (Before Globally) _ (λ e. rw (eqb-true b 71 e) sp_globally)
    (either b _ (Between Release) _ (λ e. rw (eqb-true b 82 e) sp_release)
    (either b _ (Between Until) _ (λ e. rw (eqb-true b 85 e) sp_until)
    (either b _ (Before Next) _ (λ e. rw (eqb-true b 88 e) sp_next)
    (either b _ Letter _ (λ e. eqb-true b 112 e)
    (either b _ (Between Or) Other (λ e. rw (eqb-true b 124 e) sp_or) tt))))))))))))))

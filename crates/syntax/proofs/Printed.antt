-- A printed rule is a text that says the rule, so it reads back; and it is short.
use Prim.Native.Nat.{ℕ, zero, suc, ◌+◌, ◌*◌, ◌/◌, ◌%◌, ◌≤◌}
use mathlib.Core.Path.{◌≡◌, refl}
use mathlib.Core.Bool.{Bool, true, false, cond}
use lib.Dec.{ltb}
use mathlib.Core.List.{List, [], ◌∷◌, ◌++◌, append_assoc, append-nil}
use native.Mathlib.Omega.{arith}
use lib.ListN.{length, length-append}
use Rattle.meaning.specs.Formula.{Formula, never, always, prop, neg, next, finally, globally, until, release, and, or, implies, size, parts}
use Rattle.syntax.specs.declared.Op.{Op}
use Rattle.syntax.specs.declared.Token.{Token}
use Rattle.syntax.specs.declared.Token.TheVariants.{Leaf, Prefix, Infix}
use Rattle.syntax.specs.Grammar.{names, spell, Spelt, sp_false, sp_true, sp_prop, sp_not, sp_next, sp_finally, sp_globally, sp_until, sp_release, sp_and, sp_or, sp_arrow, sp_open, sp_close, Spells, end, space, token, Level, arrows, prefixes, tighter, Side, Atom, is_false, is_true, is_prop, Unary, is_not, is_next_lem, is_finally, is_globally, Binary, is_implies, is_or, is_and, is_until, is_release, Text, atom, group, unary, tight, SaidBy}
use Rattle.syntax.specs.Postfix.{postfix}
use Rattle.syntax.specs.Print.{inside, print, Below}
use Rattle.syntax.specs.Reader.{parse}
use Rattle.syntax.proofs.Build.{as_operand, loosest, attach}
use Rattle.syntax.proofs.Parse.{parsed}

-- the bytes s are tokens of a prefix expression that says f
record Shown (f : Formula) (s : List ℕ) : Type 0 where
  tokens : List Token
  spells : Spells tokens s
  text : Text prefixes f tokens

spells_append : {ts us : List Token} {s t : List ℕ} → Spells ts s → Spells us t → Spells (ts ++ us) (s ++ t)
spells_append end r = r
spells_append (space p) r = space (spells_append p r)
spells_append (token t p) r = rw append_assoc (token t (spells_append p r))

-- an expression of any two-sided level is one of the loosest
as_whole : {m : Level} {d : Side} {o : Op} {j : Formula → Formula → Formula} → Binary m d o j → {f : Formula} {s : List Token} → Text m f s → Text arrows f s
unfolding tighter
as_whole is_implies t = t
as_whole is_or t = tight t
as_whole is_and t = tight (tight t)
as_whole is_until t = tight (tight (tight t))
as_whole is_release t = tight (tight (tight t))

one_leaf : {o : Op} {f : Formula} {b : List ℕ} → Spelt (Leaf o) b → Atom o f → Shown f b
unfolding tighter
one_leaf {b = b} t a = record { tokens = _; spells = rw append-nil at (token t end); text = tight (atom a) }

with_prefix : {o : Op} {u : Formula → Formula} {f : Formula} {b s : List ℕ} → Unary o u → Spelt (Prefix o) b → Shown f s → Shown (u f) (b ++ s)
with_prefix a t r = record { tokens = _; spells = token t r.spells; text = unary a r.text }

with_infix : {m : Level} {d : Side} {o : Op} {j : Formula → Formula → Formula} {f g : Formula} {b s t : List ℕ} → Binary m d o j → Spelt (Infix o) b → Shown f s → Shown g t → Shown (j f g) (inside s b t)
unfolding tighter
with_infix {m} {d} {o} {b = b} {s = s} {t = t} a x p q =
    record {
      tokens = _;
      spells = rw (append_assoc s (b ++ t) (41 ∷ []), append_assoc b t (41 ∷ [])) at
          (token sp_open (spells_append (spells_append p.spells (token x q.spells)) (token sp_close end)));
      text = tight (group (as_whole a (attach d a (as_operand a p.text) q.text)));
    }

shown : (f : Formula) → Below names f → Shown f (print f)
unfolding print Below
shown never h = one_leaf sp_false is_false
shown always h = one_leaf sp_true is_true
shown (prop k) h = one_leaf (sp_prop k h) (is_prop k)
shown (neg a) h = with_prefix is_not sp_not (shown a h)
shown (next a) h = with_prefix is_next_lem sp_next (shown a h)
shown (finally a) h = with_prefix is_finally sp_finally (shown a h)
shown (globally a) h = with_prefix is_globally sp_globally (shown a h)
shown (until a b) h = with_infix is_until sp_until (shown a h.0) (shown b h.1)
shown (release a b) h = with_infix is_release sp_release (shown a h.0) (shown b h.1)
shown (and a b) h = with_infix is_and sp_and (shown a h.0) (shown b h.1)
shown (or a b) h = with_infix is_or sp_or (shown a h.0) (shown b h.1)
shown (implies a b) h = with_infix is_implies sp_arrow (shown a h.0) (shown b h.1)

pub printed : (f : Formula) → Below names f → SaidBy f (print f)
printed f h = let r = shown f h in record { tokens = r.tokens; spells = r.spells; text = loosest r.text }

-- a printed rule reads back as the rule
pub reads_back : (f : Formula) → Below names f → parse (print f) ≡ postfix f
reads_back f h = parsed (printed f h)

-- what is below a number is below a greater one
pub below_more : (q p : ℕ) → q ≤ p → (f : Formula) → Below q f → Below p f
unfolding Below
below_more q p h never b = tt
below_more q p h always b = tt
below_more q p h (prop k) b = omega arith
below_more q p h (neg a) b = below_more q p h a b
below_more q p h (next a) b = below_more q p h a b
below_more q p h (finally a) b = below_more q p h a b
below_more q p h (globally a) b = below_more q p h a b
below_more q p h (until a c) b = (below_more q p h a b.0, below_more q p h c b.1)
below_more q p h (release a c) b = (below_more q p h a b.0, below_more q p h c b.1)
below_more q p h (and a c) b = (below_more q p h a b.0, below_more q p h c b.1)
below_more q p h (or a c) b = (below_more q p h a b.0, below_more q p h c b.1)
below_more q p h (implies a c) b = (below_more q p h a b.0, below_more q p h c b.1)

-- how many operators have one side, and how many two
ones : Formula → ℕ
ones never = 0
ones always = 0
ones (prop k) = 0
ones (neg a) = suc (ones a)
ones (next a) = suc (ones a)
ones (finally a) = suc (ones a)
ones (globally a) = suc (ones a)
ones (until a b) = ones a + ones b
ones (release a b) = ones a + ones b
ones (and a b) = ones a + ones b
ones (or a b) = ones a + ones b
ones (implies a b) = ones a + ones b

twos : Formula → ℕ
twos never = 0
twos always = 0
twos (prop k) = 0
twos (neg a) = twos a
twos (next a) = twos a
twos (finally a) = twos a
twos (globally a) = twos a
twos (until a b) = suc (twos a + twos b)
twos (release a b) = suc (twos a + twos b)
twos (and a b) = suc (twos a + twos b)
twos (or a b) = suc (twos a + twos b)
twos (implies a b) = suc (twos a + twos b)

counted : (f : Formula) → size f ≡ 2 * twos f + ones f + 1
unfolding size ones twos
counted never = omega arith
counted always = omega arith
counted (prop k) = omega arith
counted (neg a) = omega (arith, counted a)
counted (next a) = omega (arith, counted a)
counted (finally a) = omega (arith, counted a)
counted (globally a) = omega (arith, counted a)
counted (until a b) = omega (arith, counted a, counted b)
counted (release a b) = omega (arith, counted a, counted b)
counted (and a b) = omega (arith, counted a, counted b)
counted (or a b) = omega (arith, counted a, counted b)
counted (implies a b) = omega (arith, counted a, counted b)

pub length_inside : (s o t : List ℕ) → length (inside s o t) ≡ length s + length o + length t + 2
length_inside s o t = simp length-append (omega arith)

spell_short : (k : ℕ) → length (spell k) ≤ 2
unfolding spell
spell_short k = by_test (ltb k 10)
  where
    by_test : (b : Bool) → length (cond b ((48 + k) ∷ []) ((48 + k / 10) ∷ (48 + k % 10) ∷ [])) ≤ 2
    by_test true = omega arith
    by_test false = omega arith

long : (f : Formula) → length (print f) ≤ 7 * twos f + ones f + 3
unfolding print ones twos
long never = omega arith
long always = omega arith
long (prop k) = omega (arith, spell_short k)
long (neg a) = omega (arith, long a)
long (next a) = omega (arith, long a)
long (finally a) = omega (arith, long a)
long (globally a) = omega (arith, long a)
long (until a b) = omega (arith, long a, long b, length_inside (print a) (85 ∷ []) (print b))
long (release a b) = omega (arith, long a, long b, length_inside (print a) (82 ∷ []) (print b))
long (and a b) = omega (arith, long a, long b, length_inside (print a) (38 ∷ []) (print b))
long (or a b) = omega (arith, long a, long b, length_inside (print a) (124 ∷ []) (print b))
long (implies a b) = omega (arith, long a, long b, length_inside (print a) (45 ∷ 62 ∷ []) (print b))

-- at most 109 bytes: an even number of nodes has a one-sided operator among them
pub short : (f : Formula) → size f ≤ 32 → length (print f) ≤ 109
short f h = omega (arith, counted f, long f)

-- arrows, n of them, between names of two digits
arrowed : ℕ → Formula
arrowed zero = prop 10
arrowed (suc n) = implies (prop 10) (arrowed n)

-- the bound is reached
pub longest : (f : Formula) × (size f ≡ 32) × (parts f ≡ 0) × Below names f × (length (print f) ≡ 109)
unfolding size parts print spell Below arrowed
longest = (neg (arrowed 15), refl, refl, below 15, refl)
  where
    below : (n : ℕ) → Below names (arrowed n)
    below zero = omega arith
    below (suc n) = (omega arith, below n)

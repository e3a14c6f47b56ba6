-- Whatever the scanner takes is a text: a tree is built for it, operand by operand.
use Prim.Native.Nat.{ℕ, zero, suc, ◌≤◌}
use mathlib.Core.Path.{◌≡◌, refl, ap, ◌∙◌}
use mathlib.Core.List.{List, [], ◌∷◌, ◌++◌, append_assoc}
use native.Mathlib.Omega.{arith}
use Rattle.meaning.specs.Formula.{Formula}
use Rattle.syntax.specs.declared.Op.{Op}
use Rattle.syntax.specs.declared.Token.{Token}
use Rattle.syntax.specs.declared.Token.TheVariants.{Leaf, Prefix, Infix, Open, Close}
use Rattle.syntax.specs.Grammar.{Level, arrows, ors, ands, untils, prefixes, leaves, tighter, Side, left, right, Atom, Unary, Binary, is_implies, is_or, is_and, is_until, is_release, Text, atom, group, unary, lefts, rights, tight}
use Rattle.syntax.specs.Reader.{rank}

-- the level l is m or looser
data Loose : Level → Level → Type 0 where
  same : {l : Level} → Loose l l
  up : {l m : Level} → Loose (tighter l) m → Loose l m

rank_tighter : (l : Level) → rank l ≤ rank (tighter l)
unfolding rank tighter
rank_tighter arrows = omega arith
rank_tighter ors = omega arith
rank_tighter ands = omega arith
rank_tighter untils = omega arith
rank_tighter prefixes = omega arith
rank_tighter leaves = omega arith

loose_rank : {l m : Level} → Loose l m → rank l ≤ rank m
loose_rank same = omega arith
loose_rank (up {l} r) = omega (arith, rank_tighter l, loose_rank r)

binary_rank : {m : Level} {d : Side} {o : Op} {j : Formula → Formula → Formula} → Binary m d o j → rank m ≤ 3
unfolding rank
binary_rank is_implies = omega arith
binary_rank is_or = omega arith
binary_rank is_and = omega arith
binary_rank is_until = omega arith
binary_rank is_release = omega arith

from_arrows : {m : Level} {d : Side} {o : Op} {j : Formula → Formula → Formula} → Binary m d o j → Loose arrows m
unfolding tighter
from_arrows is_implies = same
from_arrows is_or = up same
from_arrows is_and = up (up same)
from_arrows is_until = up (up (up same))
from_arrows is_release = up (up (up same))

-- a prefix expression is one of any level
pub as_operand : {m : Level} {d : Side} {o : Op} {j : Formula → Formula → Formula} → Binary m d o j → {f : Formula} {u : List Token} → Text prefixes f u → Text (tighter m) f u
unfolding tighter
as_operand is_implies t = tight (tight (tight t))
as_operand is_or t = tight (tight t)
as_operand is_and t = tight t
as_operand is_until t = t
as_operand is_release t = t

pub loosest : {f : Formula} {u : List Token} → Text prefixes f u → Text arrows f u
unfolding tighter
loosest t = tight (tight (tight (tight t)))

-- the levels that group to the left are the two in the middle
middle : Level → ℕ
middle arrows = 0
middle ors = 1
middle ands = 1
middle untils = 0
middle prefixes = 0
middle leaves = 0

in_the_middle : {m : Level} {o : Op} {j : Formula → Formula → Formula} → Binary m left o j → middle m ≡ 1
unfolding middle
in_the_middle is_or = refl
in_the_middle is_and = refl

outside : {m : Level} {o : Op} {j : Formula → Formula → Formula} → Binary m right o j → middle m ≡ 0
unfolding middle
outside is_implies = refl
outside is_until = refl
outside is_release = refl

one_side : {m : Level} {o o' : Op} {j j' : Formula → Formula → Formula} → Binary m left o j → Binary m right o' j' → ⊥
one_side a b = omega (arith, in_the_middle a, outside b)

-- an operator and an operand after an operand of its level
pub attach : (d : Side) {m : Level} {o : Op} {j : Formula → Formula → Formula} → Binary m d o j → {f g : Formula} {p u : List Token} → Text (tighter m) f p → Text prefixes g u
    → Text m (j f g) (p ++ Infix o ∷ u)
attach left b t r = lefts b (tight t) (as_operand b r)
attach right b t r = rights b t (tight (as_operand b r))

attach_left : (d : Side) {m : Level} {o o' : Op} {j j' : Formula → Formula → Formula} → Binary m left o' j' → Binary m d o j → {f g : Formula} {p u : List Token} → Text m f p → Text prefixes g u
    → Text m (j f g) (p ++ Infix o ∷ u)
attach_left left b' b t r = lefts b t (as_operand b r)
attach_left right b' b t r = absurd (one_side b' b)

-- a text, an operator and an operand are again a text
module _ {m : Level} {d : Side} {o : Op} {j : Formula → Formula → Formula} (b : Binary m d o j) {g : Formula} {u : List Token} (r : Text prefixes g u) where
  extend : {l : Level} {f : Formula} {p : List Token} → Text l f p → Loose l m → (h : Formula) × Text l h (p ++ Infix o ∷ u)
  unfolding rank
  extend (atom a) q = absurd (omega (arith, loose_rank q, binary_rank b))
  extend (group t) q = absurd (omega (arith, loose_rank q, binary_rank b))
  extend (unary a t) q = absurd (omega (arith, loose_rank q, binary_rank b))
  extend (tight t) same = (_, attach d b t r)
  extend (tight t) (up q) = let e = extend t q in (e.0, tight e.1)
  extend (lefts a t v) same = (_, attach_left d a b (lefts a t v) r)
  extend (lefts {j = k} {f = f₁} a x y) (up q) = let e = extend y q in (k f₁ e.0, rw append_assoc (lefts a x e.1))
  extend (rights {j = k} {f = f₁} a x y) q = let e = extend y q in (k f₁ e.0, rw append_assoc (rights a x e.1))

-- d parentheses are open, and the innermost text is whole so far; what stands before the innermost parenthesis wants an operand
unfoldable pub Has : ℕ → List Token → Type 0
Has zero p = (f : Formula) × Text arrows f p
Has (suc d) p = (p' : List Token) × (q : List Token) × (f : Formula) × (p ≡ p' ++ Open ∷ q) × Text arrows f q × ((g : Formula) (u : List Token) → Text prefixes g u → Has d (p' ++ u))

-- with an operand after p, the innermost text is whole
abbrev pub Wants : ℕ → List Token → Type 0
Wants d p = (g : Formula) (u : List Token) → Text prefixes g u → Has d (p ++ u)

pub wants_start : Wants 0 []
unfolding Has
wants_start g u t = (g, loosest t)

pub wants_prefix : (d : ℕ) (p : List Token) {o : Op} {w : Formula → Formula} → Unary o w → Wants d p → Wants d (p ++ Prefix o ∷ [])
wants_prefix d p {w = w} b r g u t = rw append_assoc (r (w g) _ (unary b t))

pub wants_open : (d : ℕ) (p : List Token) → Wants d p → Wants (suc d) (p ++ Open ∷ [])
unfolding Has
wants_open d p r g u t = (p, u, g, append_assoc p (Open ∷ []) u, loosest t, r)

pub wants_infix : (d : ℕ) (p : List Token) {l : Level} {s : Side} {o : Op} {j : Formula → Formula → Formula} → Binary l s o j → Has d p → Wants d (p ++ Infix o ∷ [])
unfolding Has
wants_infix zero p b h g u t = let e = extend b t h.1 (from_arrows b) in (e.0, rw append_assoc e.1)
wants_infix (suc d) p {o = o} b h g u t =
    let e = extend b t h.4 (from_arrows b) in (
      h.0,
      h.1 ++ Infix o ∷ u,
      e.0,
      append_assoc p (Infix o ∷ []) u ∙ ap (λ x. x ++ Infix o ∷ u) h.3 ∙ append_assoc h.0 (Open ∷ h.1) (Infix o ∷ u),
      e.1,
      h.5,
    )

pub has_leaf : (d : ℕ) (p : List Token) {o : Op} {f : Formula} → Atom o f → Wants d p → Has d (p ++ Leaf o ∷ [])
unfolding tighter
has_leaf d p a r = r _ _ (tight (atom a))

pub has_close : (d : ℕ) (p : List Token) → Has (suc d) p → Has d (p ++ Close ∷ [])
unfolding Has tighter
has_close d p h =
    let e : p ++ Close ∷ [] ≡ h.0 ++ Open ∷ (h.1 ++ Close ∷ []) = ap (λ x. x ++ Close ∷ []) h.3 ∙ append_assoc h.0 (Open ∷ h.1) (Close ∷ []) in
    rw e (h.5 h.2 _ (tight (group h.4)))

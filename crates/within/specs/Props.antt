-- The propositions of a rule as a word, and whether an event saw them all.
use mathlib.Core.Logic.Iff
use Rattle.std.specs.Prelude.{ℕ, zero, suc, ◌-◌, ◌^◌, ◌<◌, ◌≡◌, ◌↔◌, ◌⊎◌, Bool, true, false, ◌&&◌, not, eqb, ltb, length, get_or, replicate}
use Rattle.std.proofs.Math.Path.{refl, sym, subst}
use Rattle.std.proofs.Common.{ap, ◌∙◌, inl, inr, ⊎_elim, arith, pow_pos, lt-ltb, le-ltb}
use Rattle.std.proofs.Math.Logic.{⊎_map}
use Rattle.std.proofs.Math.Bool.{So, and-false}
use Rattle.std.proofs.lemmas.Bool.{false≢true}
use mathlib.Core.List.{List, [], ◌∷◌, ◌++◌}
use Rattle.std.proofs.Math.Decide.{dec_lt}
use Rattle.meaning.specs.Bit.{bit}
use Rattle.meaning.specs.Says.{Says}
use Rattle.meaning.specs.Formula.{Formula, never, always, prop, neg, next, finally, globally, until, release, and, or, implies, size}
use Rattle.syntax.specs.declared.Op.{Op}
use Rattle.syntax.specs.declared.Op.TheVariants.{False, True, Prop, Not, Next, Finally, Globally, Until, Release, And, Or, Implies}
use Rattle.syntax.specs.declared.Node.{Node}
use Rattle.syntax.specs.declared.Rule.{Rule}
use Rattle.syntax.specs.Postfix.{postfix}
use Rattle.syntax.specs.Print.{Below}
use Rattle.syntax.specs.Value.{rule_of, blank}
use Rattle.syntax.proofs.Values.{length_postfix}
use Rattle.words.specs.Word.{only_of, without_of}
use Rattle.words.specs.Below.{union_below}
use Rattle.words.specs.Laws.{bit_zero, bit_single, bit_only, bit_and_lem, bit_not, same_bits}
use Rattle.words.specs.Truth.{says_and, says_itself}
use Rattle.words.specs.Tests.{eq_says}
use Rattle.words.specs.Folds.{any_says}
use Rattle.words.specs.Unions.{bit_union}
use Rattle.shape.specs.Ops.{op_at}
use Rattle.node_value.proofs.Rows.{nodes_at}
use Rattle.within.specs.Seen.{Uses}

-- the proposition that a node is, as a set
abbrev pub prop_set : Op → ℕ
prop_set False = 0
prop_set True = 0
prop_set (Prop p) = only_of (ltb p 64) (2 ^ p)
prop_set Not = 0
prop_set Next = 0
prop_set Finally = 0
prop_set Globally = 0
prop_set Until = 0
prop_set Release = 0
prop_set And = 0
prop_set Or = 0
prop_set Implies = 0

-- those of the first n nodes
abbrev pub props_below : List Node → ℕ → ℕ
props_below nodes n = union_below n (λ k. prop_set (op_at nodes k))

unfoldable pub props_of : Rule → ℕ
props_of rule = props_below rule.nodes rule.len

-- whether all of them were seen
unfoldable pub sees_all : ℕ → ℕ → Bool
sees_all props see = eqb (without_of props see) 0

-- ---- what they say

module _ (p : ℕ) (l : p < 64) where
  only_p : prop_set (Prop p) ≡ 2 ^ p
  only_p = rw (lt-ltb p 64 l)

  -- a node whose set is empty is not the proposition p
  apart : (o : Op) → prop_set o ≡ 0 → o ≡ Prop p → ⊥
  apart o e h = omega (arith, pow_pos p, sym only_p ∙ sym (ap prop_set h) ∙ e)

  none_named : (o : Op) → prop_set o ≡ 0 → Says (bit (prop_set o) p) (o ≡ Prop p)
  none_named o e = (λ s. absurd (false≢true (rw (e, bit_zero) at s)), λ h. absurd (apart o e h))

  prop_named : (k : ℕ) → Says (bit (prop_set (Prop k)) p) (Prop k ≡ Prop p)
  prop_named k = (
    λ s.
        let h : So (ltb k 64 && eqb p k) = rw (bit_only, bit_single) at s in
        let e : p ≡ k = (eq_says p k).0 ((says_and (says_itself (ltb k 64)) (says_itself (eqb p k))).0 h).1 in
        ap Prop (sym e),
    λ e. let q : k ≡ p = cc in rw (q, bit_only, lt-ltb p 64 l, bit_single) ((eq_says p p).1 refl),
  )

  -- a node's set has p where it is the proposition p
  named : (o : Op) → Says (bit (prop_set o) p) (o ≡ Prop p)
  named False = none_named False refl
  named True = none_named True refl
  named (Prop k) = prop_named k
  named Not = none_named Not refl
  named Next = none_named Next refl
  named Finally = none_named Finally refl
  named Globally = none_named Globally refl
  named Until = none_named Until refl
  named Release = none_named Release refl
  named And = none_named And refl
  named Or = none_named Or refl
  named Implies = none_named Implies refl

-- some node of a list is the proposition p
abbrev Has : ℕ → List Op → Type 0
Has p [] = ⊥
Has p (o ∷ os) = (o ≡ Prop p) ⊎ Has p os

module _ (p : ℕ) (l : p < 64) where
  has_append : (xs ys : List Op) → Has p (xs ++ ys) ↔ (Has p xs ⊎ Has p ys)
  has_append [] ys = (inr, ⊎_elim (λ z. absurd z) (λ h. h))
  has_append (x ∷ xs) ys =
      let r = has_append xs ys in (
        ⊎_elim (λ e. inl (inl e)) (λ h. ⊎_elim (λ h. inl (inr h)) inr (r.0 h)),
        ⊎_elim (⊎_elim inl (λ h. inr (r.1 (inl h)))) (λ h. inr (r.1 (inr h))),
      )

  has_at : (os : List Op) → Has p os ↔ ((k : ℕ) × (k < length os) × (get_or os k False ≡ Prop p))
  has_at [] = (λ z. absurd z, λ (k, l, e). absurd (omega arith))
  has_at (o ∷ os) = (⊎_elim (λ e. (0, omega arith, e)) (λ h. let (k, l, e) = (has_at os).0 h in (suc k, omega arith, e)), λ (k, l, e). back k l e (has_at os).1)
    where
      back : (k : ℕ) → k < suc (length os) → get_or (o ∷ os) k False ≡ Prop p → (((k : ℕ) × (k < length os) × (get_or os k False ≡ Prop p)) → Has p os) → Has p (o ∷ os)
      back zero l e rest = inl e
      back (suc k) l e rest = inr (rest (k, omega arith, e))

  -- by how many operands a node takes
  has_leaf : (o : Op) → prop_set o ≡ 0 → Has p (o ∷ []) ↔ ⊥
  has_leaf o d = (⊎_elim (apart p l o d) (λ z. z), λ z. absurd z)

  has_one : (o : Op) → prop_set o ≡ 0 → (a : Formula) → Has p (postfix a) ↔ Uses p a → Has p (postfix a ++ o ∷ []) ↔ Uses p a
  has_one o d a r = (
    λ h. ⊎_elim r.0 (λ h. absurd ((has_leaf o d).0 h)) ((has_append (postfix a) (o ∷ [])).0 h),
    λ u. (has_append (postfix a) (o ∷ [])).1 (inl (r.1 u)),
  )

  has_two : (o : Op) → prop_set o ≡ 0 → (a b : Formula) → Has p (postfix a) ↔ Uses p a → Has p (postfix b) ↔ Uses p b
      → Has p (postfix a ++ (postfix b ++ o ∷ [])) ↔ (Uses p a ⊎ Uses p b)
  has_two o d a b r s = (
    λ h. ⊎_map r.0 (has_one o d b s).0 ((has_append (postfix a) (postfix b ++ o ∷ [])).0 h),
    λ u. (has_append (postfix a) (postfix b ++ o ∷ [])).1 (⊎_map r.1 (has_one o d b s).1 u),
  )

  has_prop_lem : (k : ℕ) → Has p (Prop k ∷ []) ↔ (k ≡ p)
  has_prop_lem k = (⊎_elim (λ e. cc) (λ z. absurd z), λ e. inl (ap Prop e))

  has_uses : (f : Formula) → Has p (postfix f) ↔ Uses p f
  unfolding postfix Uses
  has_uses never = has_leaf False refl
  has_uses always = has_leaf True refl
  has_uses (prop k) = has_prop_lem k
  has_uses (neg a) = has_one Not refl a (has_uses a)
  has_uses (next a) = has_one Next refl a (has_uses a)
  has_uses (finally a) = has_one Finally refl a (has_uses a)
  has_uses (globally a) = has_one Globally refl a (has_uses a)
  has_uses (until a b) = has_two Until refl a b (has_uses a) (has_uses b)
  has_uses (release a b) = has_two Release refl a b (has_uses a) (has_uses b)
  has_uses (and a b) = has_two And refl a b (has_uses a) (has_uses b)
  has_uses (or a b) = has_two Or refl a b (has_uses a) (has_uses b)
  has_uses (implies a b) = has_two Implies refl a b (has_uses a) (has_uses b)

  -- the word has the propositions that occur in the rule
  pub props_say : (f : Formula) → Says (bit (props_of (rule_of f)) p) (Uses p f)
  unfolding props_of
  props_say f =
      subst (λ (b : Bool). Says b (Uses p f)) (sym (bit_union (size f) (λ k. prop_set (op_at nodes k)) p))
      (Iff.trans (any_says (λ k. bit (prop_set (op_at nodes k)) p) (λ k. op_at nodes k ≡ Prop p) (λ k. named p l (op_at nodes k)) (size f)) (
        λ (k, h, e). (has_uses f).0 ((has_at (postfix f)).1 (k, omega (arith, length_postfix f), sym (here k h) ∙ e)),
        λ u. let (k, h, e) = (has_at (postfix f)).0 ((has_uses f).1 u) in let b : k < size f = omega (arith, length_postfix f) in (k, b, here k b ∙ e),
      ))
    where
      nodes : List Node
      nodes = (rule_of f).nodes

      here : (k : ℕ) → k < size f → op_at nodes k ≡ get_or (postfix f) k False
      here k h = nodes_at (postfix f) (replicate (32 - size f) blank) k (omega (arith, length_postfix f))

-- a rule of propositions below n has no other
uses_below : (n p : ℕ) (f : Formula) → Below n f → Uses p f → p < n
unfolding Below Uses
uses_below n p never b u = absurd u
uses_below n p always b u = absurd u
uses_below n p (prop k) b u = subst (λ (q : ℕ). q < n) u b
uses_below n p (neg a) b u = uses_below n p a b u
uses_below n p (next a) b u = uses_below n p a b u
uses_below n p (finally a) b u = uses_below n p a b u
uses_below n p (globally a) b u = uses_below n p a b u
uses_below n p (until a c) b u = ⊎_elim (uses_below n p a b.0) (uses_below n p c b.1) u
uses_below n p (release a c) b u = ⊎_elim (uses_below n p a b.0) (uses_below n p c b.1) u
uses_below n p (and a c) b u = ⊎_elim (uses_below n p a b.0) (uses_below n p c b.1) u
uses_below n p (or a c) b u = ⊎_elim (uses_below n p a b.0) (uses_below n p c b.1) u
uses_below n p (implies a c) b u = ⊎_elim (uses_below n p a b.0) (uses_below n p c b.1) u

-- an event saw all propositions of the rule
pub sees_say : (f : Formula) → Below 64 f → (see : ℕ) → see < 2 ^ 64 → Says (sees_all (props_of (rule_of f)) see) ((p : ℕ) → Uses p f → So (bit see p))
unfolding sees_all
sees_say f below see small = Iff.trans (eq_says (without_of (props_of (rule_of f)) see) 0) (none, all)
  where
    props : ℕ
    props = props_of (rule_of f)

    left : (k : ℕ) → bit (without_of props see) k ≡ (bit props k && (ltb k 64 && not (bit see k)))
    left k = rw (bit_and_lem, bit_not 64 small)

    none : without_of props see ≡ 0 → (p : ℕ) → Uses p f → So (bit see p)
    none e p u =
        let l : p < 64 = uses_below 64 p f below u in
        let h : (true && (true && not (bit see p))) ≡ false = rw ((props_say p l f).1 u, lt-ltb p 64 l) at (sym (left p) ∙ ap (λ (x : ℕ). bit x p) e ∙ bit_zero p) in
        go (bit see p) h
      where
        go : (b : Bool) → not b ≡ false → So b
        go true h = refl
        go false h = absurd (false≢true (sym h))

    all : ((p : ℕ) → Uses p f → So (bit see p)) → without_of props see ≡ 0
    all h = same_bits (without_of props see) 0 (λ k. left k ∙ elim (dec_lt k 64) [ yes l ↦ rw (lt-ltb k 64 l) (go k l (bit props k) refl) | no m ↦ rw (le-ltb k 64 (omega arith)) (and-false (bit props k)) ] ∙ sym (bit_zero k))
      where
        go : (k : ℕ) → k < 64 → (b : Bool) → bit props k ≡ b → (b && not (bit see k)) ≡ false
        go k l true e = rw (h k ((props_say k l f).0 e))
        go k l false e = refl

-- The nodes of a rule's value are those of its tree.
use Rattle.std.specs.Prelude.{ℕ, zero, suc, ◌+◌, ◌-◌, ◌<◌, ◌≡◌, false, List, [], ◌∷◌, ◌++◌, length, get_or, replicate}
use Rattle.std.proofs.Math.Path.{refl}
use Rattle.std.proofs.Common.{sym, ◌∙◌, arith, zero-add}
use Rattle.meaning.specs.Formula.{Formula, never, always, prop, neg, next, finally, globally, until, release, and, or, implies, size}
use Rattle.syntax.specs.declared.Op.{Op}
use Rattle.syntax.specs.declared.Op.TheVariants.{False, True, Prop, Not, Next, Finally, Globally, Until, Release, And, Or, Implies}
use Rattle.syntax.specs.declared.Node.{Node}
use Rattle.syntax.specs.Postfix.{postfix, sides}
use Rattle.syntax.specs.Value.{blank, nodes_of, rule_of}
use Rattle.syntax.proofs.Values.{length_postfix}
use Rattle.theory.specs.Each.{Numbered, numbered_append, numbered_of}
use Rattle.shape.specs.Ops.{op_at, is_part}
use Rattle.truth_laws.specs.Tree.{leaf, one, two, tree_of, nodes_in, Stands, nodes_tree}

-- the operator o is node k
Is : List Node → Op → ℕ → Type 0
Is nodes o k = op_at nodes k ≡ o

nodes_at : (os : List Op) (rest : List Node) (k : ℕ) → k < length os → op_at (nodes_of os ++ rest) k ≡ get_or os k False
unfolding nodes_of
nodes_at [] rest k h = absurd (omega arith)
nodes_at (o ∷ os) rest zero h = refl
nodes_at (o ∷ os) rest (suc k) h = nodes_at os rest k (omega arith)

module _ (nodes : List Node) where
  split : (a : Formula) (os : List Op) (i : ℕ) → Numbered (Is nodes) (postfix a ++ os) i
      → Numbered (Is nodes) (postfix a) i × Numbered (Is nodes) os (i + nodes_in (tree_of a))
  split a os i h =
      let e : length (postfix a) ≡ nodes_in (tree_of a) = length_postfix a ∙ sym (nodes_tree a) in
      rw e at ((numbered_append (Is nodes) (postfix a) os i).0 h)

  first : (o : Op) (i : ℕ) → Numbered (Is nodes) (o ∷ []) i → op_at nodes i ≡ o
  unfolding Is
  first o i h = h.0

  -- what an operand's nodes show
  Shown : Formula → Type 0
  Shown a = (i : ℕ) → Numbered (Is nodes) (postfix a) i → Stands nodes (tree_of a) i

  of_leaf : (o : Op) → sides o ≡ 0 → is_part o ≡ false → (i : ℕ) → Numbered (Is nodes) (o ∷ []) i → Stands nodes (leaf o) i
  unfolding Stands
  of_leaf o e p i h = (first o i h, e, p)

  of_one : (o : Op) → sides o ≡ 1 → (a : Formula) → Shown a → (i : ℕ) → Numbered (Is nodes) (postfix a ++ o ∷ []) i → Stands nodes (one o (tree_of a)) i
  unfolding Stands Shown
  of_one o e a f i h = let s = split a (o ∷ []) i h in (f i s.0, first o _ s.1, e)

  of_two : (o : Op) → sides o ≡ 2 → (a b : Formula) → Shown a → Shown b → (i : ℕ) → Numbered (Is nodes) (postfix a ++ (postfix b ++ o ∷ [])) i
      → Stands nodes (two o (tree_of a) (tree_of b)) i
  unfolding Stands Shown
  of_two o e a b f g i h =
      let s = split a (postfix b ++ o ∷ []) i h in
      let r = split b (o ∷ []) _ s.1 in
      (f i s.0, g _ r.0, first o _ r.1, e)

  stands : (f : Formula) → Shown f
  unfolding postfix tree_of Shown
  stands never = of_leaf False refl refl
  stands always = of_leaf True refl refl
  stands (prop p) = of_leaf (Prop p) refl refl
  stands (neg a) = of_one Not refl a (stands a)
  stands (next a) = of_one Next refl a (stands a)
  stands (finally a) = of_one Finally refl a (stands a)
  stands (globally a) = of_one Globally refl a (stands a)
  stands (until a b) = of_two Until refl a b (stands a) (stands b)
  stands (release a b) = of_two Release refl a b (stands a) (stands b)
  stands (and a b) = of_two And refl a b (stands a) (stands b)
  stands (or a b) = of_two Or refl a b (stands a) (stands b)
  stands (implies a b) = of_two Implies refl a b (stands a) (stands b)

pub rule_stands : (f : Formula) → Stands (rule_of f).nodes (tree_of f) 0
unfolding Shown Is
rule_stands f = stands (rule_of f).nodes f 0
    (numbered_of (Is (rule_of f).nodes) False (postfix f) 0 (λ k l. rw zero-add (nodes_at (postfix f) (replicate (32 - size f) blank) k l)))

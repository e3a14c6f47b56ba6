-- The value of a rule: its nodes are those of the rule, its temporal nodes are the rule's parts, and it is of no other rule.
use Prim.Native.Nat.{suc, ◌+◌, ◌-◌, ◌≤◌}
use mathlib.Core.Path.{◌≡◌, refl, sym, ap, ◌∙◌}
use mathlib.Core.List.{List, [], ◌∷◌, ◌++◌}
use native.Mathlib.Omega.{arith}
use lib.ListN.{length, replicate, length-append, length-replicate}
use lib.Seq.{take_at, drop_at}
use Rattle.meaning.specs.Formula.{Formula, never, always, prop, neg, next, finally, globally, until, release, and, or, implies, size, parts}
use Rattle.syntax.specs.declared.Op.{Op}
use Rattle.syntax.specs.declared.Op.TheVariants.{Not, Next, Finally, Globally, Until, Release, And, Or, Implies}
use Rattle.syntax.specs.declared.Node.{Node}
use Rattle.syntax.specs.Postfix.{postfix, decode}
use Rattle.syntax.specs.Value.{blank, nodes_of, ops_of, rule_of, held, beyond, count}
use Rattle.syntax.proofs.Parse.{decode_one, postfix_one}

-- nodes and their operators
pub ops_nodes : (os : List Op) → ops_of (nodes_of os) ≡ os
unfolding ops_of nodes_of
ops_nodes [] = refl
ops_nodes (o ∷ os) = ap (λ x. o ∷ x) (ops_nodes os)

pub nodes_ops : (ns : List Node) → nodes_of (ops_of ns) ≡ ns
unfolding ops_of nodes_of
nodes_ops [] = refl
nodes_ops (n ∷ ns) = ap (λ x. n ∷ x) (nodes_ops ns)

pub length_nodes : (os : List Op) → length (nodes_of os) ≡ length os
unfolding nodes_of
length_nodes [] = refl
length_nodes (o ∷ os) = ap suc (length_nodes os)

-- a rule has as many nodes as operators and leaves
pub length_postfix : (f : Formula) → length (postfix f) ≡ size f
unfolding postfix size
length_postfix never = refl
length_postfix always = refl
length_postfix (prop k) = refl
length_postfix (neg a) = simp length-append (omega (arith, length_postfix a))
length_postfix (next a) = simp length-append (omega (arith, length_postfix a))
length_postfix (finally a) = simp length-append (omega (arith, length_postfix a))
length_postfix (globally a) = simp length-append (omega (arith, length_postfix a))
length_postfix (until a b) = simp length-append (omega (arith, length_postfix a, length_postfix b))
length_postfix (release a b) = simp length-append (omega (arith, length_postfix a, length_postfix b))
length_postfix (and a b) = simp length-append (omega (arith, length_postfix a, length_postfix b))
length_postfix (or a b) = simp length-append (omega (arith, length_postfix a, length_postfix b))
length_postfix (implies a b) = simp length-append (omega (arith, length_postfix a, length_postfix b))

count_append : (os ps : List Op) → count (os ++ ps) ≡ count os + count ps
unfolding count
count_append [] ps = omega arith
count_append (o ∷ os) ps = omega (arith, count_append os ps)

-- and as many temporal ones among them as parts
pub count_postfix : (f : Formula) → count (postfix f) ≡ parts f
unfolding count postfix parts
count_postfix never = refl
count_postfix always = refl
count_postfix (prop k) = refl
count_postfix (neg a) = omega (arith, count_append (postfix a) (Not ∷ []), count_postfix a)
count_postfix (next a) = omega (arith, count_append (postfix a) (Next ∷ []), count_postfix a)
count_postfix (finally a) = omega (arith, count_append (postfix a) (Finally ∷ []), count_postfix a)
count_postfix (globally a) = omega (arith, count_append (postfix a) (Globally ∷ []), count_postfix a)
count_postfix (until a b) = omega (arith, count_append (postfix a) (postfix b ++ Until ∷ []), count_append (postfix b) (Until ∷ []), count_postfix a, count_postfix b)
count_postfix (release a b) = omega (arith, count_append (postfix a) (postfix b ++ Release ∷ []), count_append (postfix b) (Release ∷ []), count_postfix a, count_postfix b)
count_postfix (and a b) = omega (arith, count_append (postfix a) (postfix b ++ And ∷ []), count_append (postfix b) (And ∷ []), count_postfix a, count_postfix b)
count_postfix (or a b) = omega (arith, count_append (postfix a) (postfix b ++ Or ∷ []), count_append (postfix b) (Or ∷ []), count_postfix a, count_postfix b)
count_postfix (implies a b) = omega (arith, count_append (postfix a) (postfix b ++ Implies ∷ []), count_append (postfix b) (Implies ∷ []), count_postfix a, count_postfix b)

module _ (f : Formula) where
  front : length (nodes_of (postfix f)) ≡ size f
  front = length_nodes (postfix f) ∙ length_postfix f

  pub held_is : held (rule_of f) ≡ postfix f
  held_is = ap ops_of (take_at (nodes_of (postfix f)) (replicate (32 - size f) blank) (size f) front) ∙ ops_nodes (postfix f)

  pub beyond_is : beyond (rule_of f) ≡ ops_of (replicate (32 - size f) blank)
  beyond_is = ap ops_of (drop_at (nodes_of (postfix f)) (replicate (32 - size f) blank) (size f) front)

  -- the parts of the rule are the temporal nodes of its value
  pub parts_held : count (held (rule_of f)) ≡ parts f
  parts_held = ap count held_is ∙ count_postfix f

  -- its nodes, read as postfix, are the rule
  pub decode_held : decode (held (rule_of f)) [] ≡ f ∷ []
  decode_held = ap (λ os. decode os []) held_is ∙ decode_one f

  pub full_value : size f ≤ 32 → length (rule_of f).nodes ≡ 32
  full_value h = length-append (nodes_of (postfix f)) (replicate (32 - size f) blank) ∙ (let e = front in let g = length-replicate (32 - size f) blank in omega arith)

-- a value is of one rule
pub one_value : (f g : Formula) → rule_of f ≡ rule_of g → f ≡ g
one_value f g e = postfix_one f g (sym (held_is f) ∙ ap held e ∙ held_is g)

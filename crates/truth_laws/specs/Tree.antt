-- A rule as a tree of operators, by how many operands they take. Numbers, places and orders depend on no more.
use Rattle.std.specs.Prelude.{ℕ, suc, ◌+◌, ◌≡◌, refl, Bool, true, false, cond, List, [], ◌∷◌, ◌++◌, length}
use Rattle.std.proofs.Common.{ap, ap₂, ◌∙◌, arith, length-append}
use Rattle.meaning.specs.Formula.{Formula, never, always, prop, neg, next, finally, globally, until, release, and, or, implies, size, parts}
use Rattle.syntax.specs.declared.Op.{Op}
use Rattle.syntax.specs.declared.Op.TheVariants.{False, True, Prop, Not, Next, Finally, Globally, Until, Release, And, Or, Implies}
use Rattle.syntax.specs.declared.Node.{Node}
use Rattle.words.specs.Word.{digit}
use Rattle.syntax.specs.Postfix.{sides}
use Rattle.shape.specs.Ops.{op_at, is_part}

pub data Tree : Type 0 where
  leaf : Op → Tree
  one : Op → Tree → Tree
  two : Op → Tree → Tree → Tree

unfoldable pub tree_of : Formula → Tree
tree_of never = leaf False
tree_of always = leaf True
tree_of (prop p) = leaf (Prop p)
tree_of (neg a) = one Not (tree_of a)
tree_of (next a) = one Next (tree_of a)
tree_of (finally a) = one Finally (tree_of a)
tree_of (globally a) = one Globally (tree_of a)
tree_of (until a b) = two Until (tree_of a) (tree_of b)
tree_of (release a b) = two Release (tree_of a) (tree_of b)
tree_of (and a b) = two And (tree_of a) (tree_of b)
tree_of (or a b) = two Or (tree_of a) (tree_of b)
tree_of (implies a b) = two Implies (tree_of a) (tree_of b)

-- how many nodes, and how many of them are parts
unfoldable pub nodes_in : Tree → ℕ
nodes_in (leaf o) = 1
nodes_in (one o a) = suc (nodes_in a)
nodes_in (two o a b) = suc (nodes_in a + nodes_in b)

unfoldable pub count_in : Tree → ℕ
count_in (leaf o) = 0
count_in (one o a) = digit (is_part o) + count_in a
count_in (two o a b) = count_in a + (digit (is_part o) + count_in b)

-- the nodes of the parts in printed order, where the tree's first node is node i
abbrev pub own : Op → ℕ → List ℕ → List ℕ
own o i xs = cond (is_part o) (i ∷ xs) xs

unfoldable pub placed : Tree → ℕ → List ℕ
placed (leaf o) i = []
placed (one o a) i = own o (i + nodes_in a) (placed a i)
placed (two o a b) i = placed a i ++ own o (i + nodes_in a + nodes_in b) (placed b (i + nodes_in a))

-- the tree's operators stand at the nodes from i on, each behind its operands
unfoldable pub Stands : List Node → Tree → ℕ → Type 0
Stands nodes (leaf o) i = (op_at nodes i ≡ o) × (sides o ≡ 0) × (is_part o ≡ false)
Stands nodes (one o a) i = Stands nodes a i × (op_at nodes (i + nodes_in a) ≡ o) × (sides o ≡ 1)
Stands nodes (two o a b) i = Stands nodes a i × Stands nodes b (i + nodes_in a) × (op_at nodes (i + nodes_in a + nodes_in b) ≡ o) × (sides o ≡ 2)

pub nodes_tree : (f : Formula) → nodes_in (tree_of f) ≡ size f
unfolding tree_of nodes_in size
nodes_tree never = refl
nodes_tree always = refl
nodes_tree (prop p) = refl
nodes_tree (neg a) = ap suc (nodes_tree a)
nodes_tree (next a) = ap suc (nodes_tree a)
nodes_tree (finally a) = ap suc (nodes_tree a)
nodes_tree (globally a) = ap suc (nodes_tree a)
nodes_tree (until a b) = ap₂ (λ (m n : ℕ). suc (m + n)) (nodes_tree a) (nodes_tree b)
nodes_tree (release a b) = ap₂ (λ (m n : ℕ). suc (m + n)) (nodes_tree a) (nodes_tree b)
nodes_tree (and a b) = ap₂ (λ (m n : ℕ). suc (m + n)) (nodes_tree a) (nodes_tree b)
nodes_tree (or a b) = ap₂ (λ (m n : ℕ). suc (m + n)) (nodes_tree a) (nodes_tree b)
nodes_tree (implies a b) = ap₂ (λ (m n : ℕ). suc (m + n)) (nodes_tree a) (nodes_tree b)

pub count_tree : (f : Formula) → count_in (tree_of f) ≡ parts f
unfolding tree_of count_in parts
count_tree never = refl
count_tree always = refl
count_tree (prop p) = refl
count_tree (neg a) = omega (arith, count_tree a)
count_tree (next a) = omega (arith, count_tree a)
count_tree (finally a) = omega (arith, count_tree a)
count_tree (globally a) = omega (arith, count_tree a)
count_tree (until a b) = omega (arith, count_tree a, count_tree b)
count_tree (release a b) = omega (arith, count_tree a, count_tree b)
count_tree (and a b) = omega (arith, count_tree a, count_tree b)
count_tree (or a b) = omega (arith, count_tree a, count_tree b)
count_tree (implies a b) = omega (arith, count_tree a, count_tree b)

length_own : (o : Op) (i : ℕ) (xs : List ℕ) → length (own o i xs) ≡ digit (is_part o) + length xs
length_own o i xs = go (is_part o)
  where
    go : (b : Bool) → length (cond b (i ∷ xs) xs) ≡ digit b + length xs
    go true = omega arith
    go false = omega arith

pub length_placed : (t : Tree) (i : ℕ) → length (placed t i) ≡ count_in t
unfolding placed count_in
length_placed (leaf o) i = refl
length_placed (one o a) i = omega (arith, length_own o (i + nodes_in a) (placed a i), length_placed a i)
length_placed (two o a b) i =
    length-append (placed a i) (own o (i + nodes_in a + nodes_in b) (placed b (i + nodes_in a)))
    ∙ omega (arith, length_own o (i + nodes_in a + nodes_in b) (placed b (i + nodes_in a)), length_placed a i, length_placed b (i + nodes_in a))

-- Rules as values: the nodes in postfix order, and then False.
use Rattle.std.specs.Prelude.{ℕ, ◌+◌, ◌-◌, List, [], ◌∷◌, ◌++◌, Bool, true, false, cond, ltb, get_or, take, drop, replicate}
use Rattle.meaning.specs.Formula.{Formula, never, size}
use Rattle.meaning.specs.Limits.{most_nodes}
use Rattle.syntax.specs.declared.Op.{Op}
use Rattle.syntax.specs.declared.Op.TheVariants.{False, True, Prop, Not, Next, Finally, Globally, Until, Release, And, Or, Implies}
use Rattle.syntax.specs.declared.Node.{Node}
use Rattle.syntax.specs.declared.Rule.{Rule}
use Rattle.syntax.specs.Postfix.{postfix, decode}

-- what stands where no node does
abbrev pub blank : Node
blank = record { op = False }

-- the operator of the node at i
abbrev pub op_at : List Node → ℕ → Op
op_at nodes i = (get_or nodes i blank).op

abbrev pub empty_rule : Rule
empty_rule = record { len = 0; nodes = replicate most_nodes blank }

unfoldable pub nodes_of : List Op → List Node
nodes_of [] = []
nodes_of (o ∷ os) = record { op = o } ∷ nodes_of os

unfoldable pub ops_of : List Node → List Op
ops_of [] = []
ops_of (n ∷ ns) = n.op ∷ ops_of ns

-- the value of a rule of no more nodes than a value has
abbrev pub rule_of : Formula → Rule
rule_of f = record { len = size f; nodes = nodes_of (postfix f) ++ replicate (most_nodes - size f) blank }

-- how many nodes of a value stand in its array
abbrev pub stored : Rule → ℕ
stored r = cond (ltb most_nodes r.len) most_nodes r.len

-- the nodes of a value, and those beyond its length
abbrev pub held : Rule → List Op
held r = ops_of (take r.len r.nodes)

abbrev pub beyond : Rule → List Op
beyond r = ops_of (drop r.len r.nodes)

-- the rule on top of a stack
abbrev pub top_of : List Formula → Formula
top_of [] = never
top_of (f ∷ fs) = f

-- the rule that a value's nodes are
unfoldable pub formula_of : Rule → Formula
formula_of r = top_of (decode (held r) [])

-- whether an operator is a temporal part
abbrev pub is_part : Op → Bool
is_part False = false
is_part True = false
is_part (Prop k) = false
is_part Not = false
is_part Next = true
is_part Finally = true
is_part Globally = true
is_part Until = true
is_part Release = true
is_part And = false
is_part Or = false
is_part Implies = false

-- how many of them there are among nodes
unfoldable pub count : List Op → ℕ
count [] = 0
count (o ∷ os) = cond (is_part o) 1 0 + count os

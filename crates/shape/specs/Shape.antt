-- Where operands begin, and which node is which part, as the loops find it. Place p is behind p nodes.
use Rattle.std.specs.Prelude.{ℕ, zero, suc, ◌-◌, ◌≡◌, cond, List, ltb, eqb, get_or, set, replicate}
use Rattle.syntax.specs.declared.Op.{Op}
use Rattle.syntax.specs.declared.Op.TheVariants.{False}
use Rattle.syntax.specs.declared.Node.{Node}
use Rattle.syntax.specs.declared.Rule.{Rule}
use Rattle.shape.specs.declared.Shape.{Shape}
use Rattle.words.specs.Below.{count_below, first_below, list_below, word_of}
use Rattle.syntax.specs.Postfix.{sides}
use Rattle.shape.specs.Ops.{op_at, is_part, is_step}

-- where what node i ends begins: its last operand begins at `one`, the operand before that at `two`
abbrev pub begin_of : Op → ℕ → ℕ → ℕ → ℕ
begin_of op i one two = cond (eqb (sides op) 0) i (cond (eqb (sides op) 1) one two)

-- for each place where the operand that ends there begins, after n nodes
unfoldable pub begins_of : List Node → ℕ → List ℕ
begins_of nodes zero = replicate 33 0
begins_of nodes (suc n) =
    let b = begins_of nodes n in
    set b (suc n) (begin_of (op_at nodes n) n (get_or b n 0) (get_or b (get_or b n 0) 0))

-- for each place the number of parts before it, after n nodes
abbrev pub parts_before : List Node → ℕ → ℕ
parts_before nodes n = count_below n (λ i. is_part (op_at nodes i))

unfoldable pub counts_of : List Node → ℕ → List ℕ
counts_of nodes zero = replicate 33 0
counts_of nodes (suc n) = set (counts_of nodes n) (suc n) (parts_before nodes (suc n))

-- one more node in the order, as part `at`
unfoldable pub inserted_of : List ℕ → ℕ → ℕ → List ℕ
inserted_of l at node = list_below 6 (λ k. cond (ltb k at) (get_or l k 0) (cond (eqb k at) node (get_or l (k - 1) 0)))

abbrev pub ordered_of : Op → List ℕ → ℕ → ℕ → List ℕ
ordered_of op l at i = cond (is_part op) (inserted_of l at i) l

-- the nodes of the parts in the order of the printed text, after n nodes: a part stands before the parts of its last operand
unfoldable pub order_of : List Node → List ℕ → List ℕ → ℕ → List ℕ
order_of nodes begins counts zero = replicate 6 0
order_of nodes begins counts (suc n) = ordered_of (op_at nodes n) (order_of nodes begins counts n) (get_or counts (get_or begins n 0) 0) n

-- which part node i is, and the number of parts if it is none
abbrev pub number_in : List ℕ → ℕ → ℕ → ℕ
number_in l parts i = first_below parts (λ k. eqb (get_or l k 0) i)

unfoldable pub numbers_of : List ℕ → ℕ → List ℕ
numbers_of l parts = list_below 32 (number_in l parts)

-- the operators of the first n parts
unfoldable pub kinds_after : List Node → List ℕ → ℕ → List Node
kinds_after nodes l zero = replicate 6 (record { op = False })
kinds_after nodes l (suc n) = set (kinds_after nodes l n) n (record { op = op_at nodes (get_or l n 0) })

abbrev pub kinds_of : List Node → List ℕ → List Node
kinds_of nodes l = kinds_after nodes l 6

-- which parts are X
abbrev pub nexts_in : List Node → ℕ → ℕ
nexts_in kinds parts = word_of parts (λ k. is_step (op_at kinds k))

-- of a whole rule
abbrev pub parts_in : Rule → ℕ
parts_in rule = get_or (counts_of rule.nodes rule.len) rule.len 0

abbrev pub order_in : Rule → List ℕ
order_in rule = order_of rule.nodes (begins_of rule.nodes rule.len) (counts_of rule.nodes rule.len) rule.len

-- that s is a rule's shape
abbrev pub Shaped : Rule → Shape → Type 0
Shaped rule s =
    (s.begins ≡ begins_of rule.nodes rule.len) × (s.parts ≡ parts_in rule) × (s.order ≡ order_in rule)
    × (s.kinds.nodes ≡ kinds_of rule.nodes (order_in rule)) × (s.numbers ≡ numbers_of (order_in rule) (parts_in rule))
    × (s.nexts ≡ nexts_in (kinds_of rule.nodes (order_in rule)) (parts_in rule))

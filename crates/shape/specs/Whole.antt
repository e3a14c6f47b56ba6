-- The whole value that `shape_of` returns, from what their calls ensure.
use Rattle.std.specs.Prelude.{ℕ, ◌≡◌, List, get_or}
use Rattle.syntax.specs.declared.Node.{Node}
use Rattle.syntax.specs.declared.Rule.{Rule}
use Rattle.shape.specs.Shape.{begins_of, counts_of, order_of, numbers_of, kinds_of, nexts_in, parts_in, order_in}

pub shape_whole :
    (rule : Rule) (begins counts order : List ℕ) (kinds : List Node) (numbers : List ℕ) (nexts : ℕ) →
    begins ≡ begins_of rule.nodes rule.len → counts ≡ counts_of rule.nodes rule.len →
    order ≡ order_of rule.nodes begins counts rule.len → kinds ≡ kinds_of rule.nodes order →
    numbers ≡ numbers_of order (get_or counts rule.len 0) → nexts ≡ nexts_in kinds (get_or counts rule.len 0) →
    (begins ≡ begins_of rule.nodes rule.len) × (get_or counts rule.len 0 ≡ parts_in rule) × (order ≡ order_in rule)
    × (kinds ≡ kinds_of rule.nodes (order_in rule)) × (numbers ≡ numbers_of (order_in rule) (parts_in rule))
    × (nexts ≡ nexts_in (kinds_of rule.nodes (order_in rule)) (parts_in rule))
shape_whole rule begins counts order kinds numbers nexts b c o k n x =
    (b, rw c, rw (o, b, c), rw (k, o, b, c), rw (n, o, b, c), rw (x, k, o, b, c))

-- A box in words of 64 bits: what any words say, and the words for what is held. First the table (props, states, start, just, four fairness sets, 64 labels, 64 next
-- sets), then the rule (its length, 32 nodes), the live set, and the monitor (whether an event came, the number expected, its two sets); the other words are 0 in a box that is made.
use Rattle.std.specs.Prelude.{ℕ, ◌+◌, ◌-◌, ◌%◌, Bool, true, not, cond, List, eqb, ltb, get_or}
use Rattle.words.specs.Below.{all_below, list_below}
use Rattle.plant.specs.declared.Plant.{Plant}
use Rattle.plant.specs.declared.Table.{Table}
use Rattle.syntax.specs.declared.Op.{Op}
use Rattle.syntax.specs.declared.Op.TheVariants.{False, True, Prop, Not, Next, Finally, Globally, Until, Release, And, Or, Implies}
use Rattle.syntax.specs.declared.Node.{Node}
use Rattle.syntax.specs.declared.Rule.{Rule}
use Rattle.syntax.specs.Value.{blank}
use Rattle.sides.specs.declared.Monitor.{Monitor}
use Rattle.slate.specs.declared.Held.{Held}

-- ---- reading

-- whether a word can stand at p: a label has 16 bits, a node one of 267 codes, and whether an event came is 0 or 1
unfoldable pub can_be : ℕ → ℕ → Bool
can_be p x = cond (ltb p 8) true (cond (ltb p 72) (ltb x 65536) (cond (ltb p 137) true (cond (ltb p 169) (ltb x 267) (cond (eqb p 233) (ltb x 2) true))))

-- no word is more than its field can hold
unfoldable pub fits_in : List ℕ → Bool
fits_in w = all_below 384 (λ p. can_be p (get_or w p 0))

-- the operator of a code
unfoldable pub op_of : ℕ → Op
op_of n =
    cond (eqb n 0) False (cond (eqb n 1) True (cond (eqb n 2) Not (cond (eqb n 3) Next (cond (eqb n 4) Finally (cond (eqb n 5) Globally
    (cond (eqb n 6) Until (cond (eqb n 7) Release (cond (eqb n 8) And (cond (eqb n 9) Or (cond (eqb n 10) Implies (Prop ((n - 11) % 256))))))))))))

unfoldable pub labels_in : List ℕ → List ℕ
labels_in w = list_below 64 (λ i. get_or w (8 + i) 0 % 65536)

-- 64 words from one on
unfoldable pub words_in : List ℕ → ℕ → List ℕ
words_in w from = list_below 64 (λ i. get_or w (from + i) 0)

abbrev pub node_in : List ℕ → ℕ → Node
node_in w i = record { op = op_of (get_or w (137 + i) 0) }

unfoldable pub nodes_in : List ℕ → List Node
nodes_in w = list_below 32 (node_in w)

-- no proposition where a word is more than its field can hold
unfoldable pub props_in : List ℕ → ℕ
props_in w = cond (fits_in w) (get_or w 0 0) 0

unfoldable pub table_in : List ℕ → Table
table_in w = record {
  plant = record { props = props_in w; states = get_or w 1 0; start = get_or w 2 0; just = get_or w 3 0 };
  fair = list_below 4 (λ i. get_or w (4 + i) 0);
  label = labels_in w;
  next = words_in w 72;
}

unfoldable pub rule_in : List ℕ → Rule
rule_in w = record { len = get_or w 136 0; nodes = nodes_in w }

unfoldable pub monitor_in : List ℕ → Monitor
monitor_in w = record { seen = not (eqb (get_or w 233 0) 0); keeps = record { words = words_in w 235 }; breaks = record { words = words_in w 299 }; expected = get_or w 234 0 }

-- WHAT A BOX HOLDS, whatever its words are
unfoldable pub held_in : List ℕ → Held
held_in w = record { table = table_in w; rule = rule_in w; live = record { words = words_in w 169 }; monitor = monitor_in w }

-- ---- writing

abbrev pub code_of : Op → ℕ
code_of False = 0
code_of True = 1
code_of Not = 2
code_of Next = 3
code_of Finally = 4
code_of Globally = 5
code_of Until = 6
code_of Release = 7
code_of And = 8
code_of Or = 9
code_of Implies = 10
code_of (Prop k) = 11 + k

unfoldable pub plant_word : Plant → ℕ → ℕ
plant_word t p = cond (eqb p 0) t.props (cond (eqb p 1) t.states (cond (eqb p 2) t.start t.just))

unfoldable pub table_word : Table → ℕ → ℕ
table_word t p = cond (ltb p 4) (plant_word t.plant p) (cond (ltb p 8) (get_or t.fair (p - 4) 0) (cond (ltb p 72) (get_or t.label (p - 8) 0) (get_or t.next (p - 72) 0)))

unfoldable pub rule_word : Rule → ℕ → ℕ
rule_word r p = cond (eqb p 0) r.len (code_of (get_or r.nodes (p - 1) blank).op)

unfoldable pub monitor_word : Monitor → ℕ → ℕ
monitor_word m p =
    cond (eqb p 0) (cond m.seen 1 0) (cond (eqb p 1) m.expected (cond (ltb p 66) (get_or m.keeps.words (p - 2) 0) (get_or m.breaks.words (p - 66) 0)))

-- a monitor by its parts, as they are lent
abbrev pub monitor_by : Bool → ℕ → List ℕ → List ℕ → Monitor
monitor_by seen expected keeps breaks = record { seen = seen; keeps = record { words = keeps }; breaks = record { words = breaks }; expected = expected }

-- word p of a box that holds this
unfoldable pub held_word : Held → ℕ → ℕ
held_word h p =
    cond (ltb p 136) (table_word h.table p)
    (cond (ltb p 169) (rule_word h.rule (p - 136)) (cond (ltb p 233) (get_or h.live.words (p - 169) 0) (cond (ltb p 363) (monitor_word h.monitor (p - 233)) 0)))

-- A BOX THAT HOLDS THIS
unfoldable pub stored_of : Held → List ℕ
stored_of h = list_below 384 (held_word h)

-- the same box with another monitor
unfoldable pub changed_word : List ℕ → Monitor → ℕ → ℕ
changed_word w m p = cond (ltb p 233) (get_or w p 0) (cond (ltb p 363) (monitor_word m (p - 233)) (get_or w p 0))

unfoldable pub with_monitor : List ℕ → Monitor → List ℕ
with_monitor w m = list_below 384 (changed_word w m)

-- By what a call is refused (01, Refusal numbers), for every call that takes a table, a rule value, sets of pairs, an event or a buffer: a table for each, its rows in the
-- order in which they are tried. That the calls answer so is proved in Refusals. There is no proof on this page.
use Rattle.std.specs.Prelude.{ℕ, ◌^◌, ◌≤◌, ◌<◌, ◌≡◌, ◌⊎◌, Bool, List, length}
use Rattle.std.proofs.Math.Bool.{So}
use Rattle.meaning.specs.Formula.{Formula, parts}
use Rattle.meaning.specs.Run as run
use Rattle.meaning.specs.Pair.{Live}
use Rattle.meaning.specs.Limits.{witness_room, Legal}
use Rattle.pairs.specs.declared.Pairs.{Pairs}
use Rattle.pairs.specs.Sets.{inside}
use Rattle.model.specs.Monitor.{side}
use Rattle.answers.specs.declared.Kind.{Kind}
use Rattle.answers.specs.declared.Kind.TheVariants.{Counts, Bits, Value, IllegalEvent, Room, NoPair, Number}
use Rattle.answers.specs.Paper.{Paper, refused}
use Rattle.plant.specs.declared.Plant.{Plant}
use Rattle.plant.specs.Table.{plant_of, Lengths, BitBeyond}
use Rattle.plant.specs.Written.{table_text}
use Rattle.syntax.specs.declared.Rule.{Rule}
use Rattle.syntax.specs.Grammar.{names}
use Rattle.syntax.specs.Print.{print}
use Rattle.syntax.specs.Value.{formula_of}
use Rattle.rule_value.specs.Valid.{RuleValue}
use Rattle.event_log.specs.declared.Event.{Event}
use Rattle.event_log.specs.Legal.{seen_of}
use Rattle.sides.specs.declared.Monitor.{Monitor}
use Rattle.sides.specs.Held.{model_of}
use Rattle.event_numbers.specs.Numbers.{number_of, InTurn}

-- ---- a table of causes

-- row by row: a kind of refusal, and what it is given for
pub data Rows : Type 1 where
  end : Rows
  row : Kind → Type 0 → Rows → Rows

-- the first row that applies is of kind k
unfoldable pub First : Rows → Kind → Type 0
First end k = ⊥
First (row j cause rest) k = ((k ≡ j) × cause) ⊎ ((cause → ⊥) × First rest k)

-- refused by k at place q, which is 0 in all these tables
abbrev pub Because : Rows → Kind → ℕ → Type 0
Because rows k q = First rows k × (q ≡ 0)

-- no row applies
unfoldable pub NoCause : Rows → Type 0
NoCause end = Unit {0}
NoCause (row j cause rest) = (cause → ⊥) × NoCause rest

-- an answer on paper that is no refusal
abbrev pub Taken : Paper → Type 0
Taken a = (n q : ℕ) → a ≡ refused n q → ⊥

-- 1 and 2, of the table that is handed in
abbrev pub of_table : Plant → List ℕ → List ℕ → List ℕ → Rows → Rows
of_table p fair label next rest = row Counts (Lengths p (length fair) (length label) (length next) → ⊥) (row Bits (BitBeyond p fair label next) rest)

-- ---- the calls that take a table and a rule

-- what each is handed beside these; `step` is the step by value and the step in place; `witness` has the kind of run that is asked for (true: it keeps the rule) and the lent buffer
pub data Call : Type 0 where
  prepare : Call
  opening : Pairs → Call
  look : Monitor → Call
  step : Pairs → Monitor → Event → Call
  witness : Monitor → Bool → List ℕ → Call

module _ (p : Plant) (fair label next : List ℕ) (rule : Rule) where
  abbrev pub table : run.Plant
  table = plant_of p fair label next

  abbrev pub formula : Formula
  formula = formula_of rule

  -- 9, of the rule value: it is that of no rule within the limits that has the table's propositions alone
  abbrev pub NoRule : Type 0
  NoRule = RuleValue rule p.props → ⊥

  -- 9, of a set of pairs: one of them has no state of the table, or no truth values of the rule's parts
  pub record PairBeyond (set : Pairs) : Type 0 where
    pub state : ℕ
    pub values : ℕ
    pub held : So (inside set.words state values)
    pub beyond : (p.states ≤ state) ⊎ (2 ^ parts formula ≤ values)

  -- 9, of a monitor's state: such a pair in one of its sets, or it expects a number behind 2 ^ 32, by which it says that none is left (02, h)
  abbrev pub StateBeyond : Monitor → Type 0
  StateBeyond m = PairBeyond m.keeps ⊎ (PairBeyond m.breaks ⊎ (2 ^ 32 < m.expected))

  -- 10
  abbrev pub Illegal : Event → Type 0
  Illegal e = Legal table (seen_of e) → ⊥

  -- 16: the number that the event takes is not in turn (02, h)
  abbrev pub OutOfTurn : Monitor → Event → Type 0
  OutOfTurn m e = InTurn m.seen m.expected (number_of e.num m.expected) → ⊥

  -- 13: the set that is asked for has no live pair
  abbrev pub NoLive : Monitor → Bool → Type 0
  NoLive m keeps = (s v : ℕ) → So (inside (side (model_of m) keeps) s v) → Live table formula s v → ⊥

  -- the table of each call
  abbrev pub causes : Call → Rows
  causes prepare = of_table p fair label next (row Value NoRule end)
  causes (opening live) = of_table p fair label next (row Value (NoRule ⊎ PairBeyond live) end)
  causes (look m) = of_table p fair label next (row Value (NoRule ⊎ StateBeyond m) end)
  causes (step live m e) = of_table p fair label next (row Value (NoRule ⊎ (PairBeyond live ⊎ StateBeyond m)) (row IllegalEvent (Illegal e) (row Number (OutOfTurn m e) end)))
  causes (witness m keeps buffer) = of_table p fair label next (row Value (NoRule ⊎ StateBeyond m) (row Room (length buffer < witness_room) (row NoPair (NoLive m keeps) end)))

-- ---- the printer

-- 9 for all propositions that have a name, and 11
abbrev pub print_causes : Rule → List ℕ → Rows
print_causes rule buffer = row Value (RuleValue rule names → ⊥) (row Room (length buffer < length (print (formula_of rule))) end)

-- ---- the writer of tables

-- 1 and 2, and 11 for a buffer shorter than the table's own text
abbrev pub write_causes : Plant → List ℕ → List ℕ → List ℕ → List ℕ → Rows
write_causes p fair label next buffer = of_table p fair label next (row Room (length buffer < length (table_text (plant_of p fair label next))) end)

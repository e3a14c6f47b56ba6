-- The checks as code does them. That they are those of Calls is proved in proofs/Given.
use Rattle.std.specs.Prelude.{ℕ, ◌-◌, ◌^◌, Bool, ◌&&◌, List, leb}
use Rattle.meaning.specs.Formula.{parts}
use Rattle.pairs.specs.declared.Pairs.{Pairs}
use Rattle.pairs.specs.Sets.{join_of}
use Rattle.answers.specs.Results.{Outcome}
use Rattle.answers.specs.Chain.{and_then}
use Rattle.plant.specs.declared.Plant.{Plant}
use Rattle.syntax.specs.declared.Rule.{Rule}
use Rattle.syntax.specs.Value.{formula_of}
use Rattle.event_log.specs.declared.Event.{Event}
use Rattle.checks.specs.Checks.{pairs_fit}
use Rattle.sides.specs.declared.Monitor.{Monitor}
use Rattle.event_numbers.specs.Numbers.{event_outcome}
use Rattle.monitor.specs.Calls.{checked_of}

module _ (p : Plant) (fair label next : List ℕ) (rule : Rule) where
  -- the pairs are of the table's states and the rule's valuations
  abbrev pub fit_of : List ℕ → Bool
  fit_of l = pairs_fit l (2 ^ p.states - 1) (2 ^ parts (formula_of rule))

  -- 1, 2, and 9 with two sets of pairs and a number
  unfoldable pub held_of : List ℕ → List ℕ → ℕ → Outcome
  held_of one two expected = checked_of p fair label next rule (fit_of one && (fit_of two && leb expected (2 ^ 32)))

  -- and 10 and 16; the two sides in one pass
  unfoldable pub caught_of : Pairs → Monitor → Event → Outcome
  caught_of live m e = and_then (held_of live.words (join_of m.keeps.words m.breaks.words) m.expected) (event_outcome e p.props m.seen m.expected)

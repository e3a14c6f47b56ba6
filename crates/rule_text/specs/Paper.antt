-- What each answer of read_rule is given for (01, Rule text, and 01, Refusal numbers).
use Rattle.std.specs.Prelude.{ℕ, ◌≤◌, ◌<◌, ◌≡◌, List, length}
use Rattle.answers.specs.declared.Kind.{Kind}
use Rattle.answers.specs.declared.Kind.TheVariants.{Counts, Bits, RuleLength, RuleText, Proposition, Nodes, Parts}
use Rattle.meaning.specs.Formula.{Formula, size, parts}
use Rattle.meaning.specs.Limits.{AcceptedTable, most_nodes, most_parts}
use Rattle.plant.specs.declared.Plant.{Plant}
use Rattle.plant.specs.Table.{plant_of, Lengths, BitBeyond}
use Rattle.syntax.specs.declared.Rule.{Rule}
use Rattle.syntax.specs.Grammar.{longest_rule, SaidBy, Refused, Unknown}
use Rattle.syntax.specs.Print.{Below}
use Rattle.syntax.specs.Value.{rule_of}

-- the table beside the text is in order: neither 1 nor 2
pub record Beside (p : Plant) (fair label next : List ℕ) : Type 0 where
  pub fairs : length fair ≡ p.just
  pub table : AcceptedTable (plant_of p fair label next)

-- and s is at most 512 bytes long, and of the grammar, and says f: neither 4 nor 5
pub record Reads (p : Plant) (fair label next s : List ℕ) (f : Formula) : Type 0 where
  pub beside : Beside p fair label next
  pub short : length s ≤ longest_rule
  pub says : SaidBy f s

-- s is accepted, and gives r: the value of the rule that it says, which is within the limits
pub record Takes (p : Plant) (fair label next s : List ℕ) (r : Rule) : Type 0 where
  pub formula : Formula
  pub reads : Reads p fair label next s formula
  pub below : Below p.props formula
  pub small : size formula ≤ most_nodes
  pub few : parts formula ≤ most_parts
  pub is : r ≡ rule_of formula

-- a row for each refusal (01, Refusal numbers): what it is given for, where no row before it applies, and at which place
pub data Because (p : Plant) (fair label next s : List ℕ) : Kind → ℕ → Type 0 where
  counts : (Lengths p (length fair) (length label) (length next) → ⊥) → Because p fair label next s Counts 0
  bits : Lengths p (length fair) (length label) (length next) → BitBeyond p fair label next → Because p fair label next s Bits 0
  too_long : Beside p fair label next → longest_rule < length s → Because p fair label next s RuleLength longest_rule
  no_text : {k : ℕ} → Beside p fair label next → length s ≤ longest_rule → Refused s k → Because p fair label next s RuleText k
  unknown : {k : ℕ} {f : Formula} → Reads p fair label next s f → Unknown p.props s k → Because p fair label next s Proposition k
  too_large : {f : Formula} → Reads p fair label next s f → Below p.props f → most_nodes < size f → Because p fair label next s Nodes 0
  too_many : {f : Formula} → Reads p fair label next s f → Below p.props f → size f ≤ most_nodes → most_parts < parts f → Because p fair label next s Parts 0

-- What reading a rule's text answers: the checks one after the other (01, Refusal numbers).
use Rattle.std.specs.Prelude.{ℕ, ◌+◌, List, [], ◌∷◌, Bool, false, ◌&&◌, cond, eqb, leb, ltb, length, Ok, Err, Result}
use Rattle.meaning.specs.Limits.{most_nodes, most_parts}
use Rattle.answers.specs.declared.Kind.{Kind}
use Rattle.answers.specs.declared.Kind.TheVariants.{RuleLength, RuleText, Proposition, Nodes, Parts}
use Rattle.answers.specs.Results.{Outcome}
use Rattle.answers.specs.Paper.{refused_at}
use Rattle.plant.specs.declared.Plant.{Plant}
use Rattle.plant.specs.Table.{table_outcome}
use Rattle.syntax.specs.declared.Rule.{Rule}
use Rattle.syntax.specs.Bytes.{name_of}
use Rattle.syntax.specs.Reader.{parse}
use Rattle.syntax.specs.Scan.{scan}
use Rattle.syntax.specs.Value.{empty_rule, held, count}
use Rattle.syntax.specs.Grammar.{longest_rule}
use Rattle.reader.specs.Draft.{written}
use Rattle.rule_text.specs.declared.RuleRead.{RuleRead}
use Rattle.std.specs.Prelude.{Option}
use Rattle.std.specs.Prelude.{Some, None}

-- a refusal, and beside it the value with no node
abbrev pub no_rule : Kind → ℕ → RuleRead
no_rule k place = record { outcome = Err (refused_at k place); rule = empty_rule }

-- the rule that a text gives
abbrev pub accepted : Rule → RuleRead
accepted r = record { outcome = Ok tt; rule = r }

-- b is a `p` whose number, with which s begins, is not below q
unfoldable pub unknown : ℕ → ℕ → List ℕ → Bool
unknown q b [] = false
unknown q b (d ∷ s) = eqb b 112 && leb q (name_of (d ∷ s))

-- the first such `p` of a text that stands from place i on
unfoldable pub unknown_at : ℕ → ℕ → List ℕ → Option ℕ
unknown_at q i [] = None
unknown_at q i (b ∷ s) = cond (unknown q b s) (Some i) (unknown_at q (i + 1) s)

-- 7 and 8
abbrev pub limited : Rule → RuleRead
limited r = cond (ltb most_nodes r.len) (no_rule Nodes 0) (cond (ltb most_parts (count (held r))) (no_rule Parts 0) (accepted r))

-- 6
abbrev pub of_found : RuleRead → Option ℕ → RuleRead
of_found r (Some k) = no_rule Proposition k
of_found r None = r

-- what a text of the grammar is answered, for q propositions
abbrev pub named : List ℕ → ℕ → RuleRead
named s q = of_found (limited (written empty_rule (parse s))) (unknown_at q 0 s)

-- 5
abbrev pub of_scan : RuleRead → Result (Unit {0}) ℕ → RuleRead
of_scan r (Err k) = no_rule RuleText k
of_scan r (Ok _) = r

-- 4, and with it what a text alone is answered, for q propositions
abbrev pub text_read : List ℕ → ℕ → RuleRead
text_read s q = cond (ltb longest_rule (length s)) (no_rule RuleLength longest_rule) (of_scan (named s q) (scan s))

-- 1 and 2
abbrev pub of_table : RuleRead → Outcome → RuleRead
of_table r (Err x) = no_rule x.kind x.place
of_table r (Ok _) = r

-- what a text is answered, with the table lent beside it
abbrev pub rule_read : Plant → List ℕ → List ℕ → List ℕ → List ℕ → RuleRead
rule_read p fair label next s = of_table (text_read s p.props) (table_outcome p fair label next)

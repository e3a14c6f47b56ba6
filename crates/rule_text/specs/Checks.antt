-- What the tests of the checks' code say.
use Rattle.std.specs.Prelude.{ℕ, ◌+◌, ◌≤◌, ◌<◌, ◌≡◌, List, false, ◌&&◌, cond, length, get_or, drop, Ok, Err}
use Rattle.std.proofs.Math.Path.{sym, ap}
use Rattle.std.proofs.Common.{◌∙◌, arith, eq-eqb, ne_eqb, lt-ltb, le-ltb}
use Rattle.std.proofs.Math.Dec.{eqb, leb}
use Rattle.meaning.specs.Limits.{most_nodes, most_parts}
use Rattle.answers.specs.declared.Kind.TheVariants.{RuleLength, RuleText, Proposition, Nodes, Parts}
use Rattle.answers.specs.Results.{Outcome}
use Rattle.plant.specs.declared.Plant.{Plant}
use Rattle.plant.specs.Table.{table_outcome}
use Rattle.syntax.specs.declared.Rule.{Rule}
use Rattle.syntax.specs.Bytes.{name_of}
use Rattle.syntax.specs.Reader.{parse}
use Rattle.syntax.specs.Scan.{scan}
use Rattle.syntax.specs.Value.{empty_rule, held, count}
use Rattle.syntax.proofs.Places.{byte, at_end_lem}
use Rattle.syntax.specs.Grammar.{longest_rule}
use Rattle.reader.specs.Draft.{written}
use Rattle.std.specs.Prelude.{Some, None}
use Rattle.rule_text.specs.Reading.{no_rule, accepted, unknown, unknown_at, limited, of_found, named, of_scan, text_read, of_table, rule_read}

module _ (q : ℕ) (s : List ℕ) (i : ℕ) where
  -- nothing follows
  pub unknown_end : i < length s → length s ≤ i + 1 → false ≡ unknown q (get_or s i 0) (drop (i + 1) s)
  unfolding unknown
  unknown_end h g = sym (ap (unknown q (get_or s i 0)) (at_end_lem s (i + 1) (omega arith) g))

  unknown_next : i + 1 < length s → unknown q (get_or s i 0) (drop (i + 1) s) ≡ (eqb (get_or s i 0) 112 && leb q (name_of (drop (i + 1) s)))
  unfolding unknown
  unknown_next h = let e = byte s (i + 1) h in ap (unknown q (get_or s i 0)) e ∙ ap (λ t. eqb (get_or s i 0) 112 && leb q (name_of t)) (sym e)

  pub unknown_other : i + 1 < length s → (get_or s i 0 ≡ 112 → ⊥) → false ≡ unknown q (get_or s i 0) (drop (i + 1) s)
  unknown_other h e = sym (unknown_next h ∙ ap (λ b. b && leb q (name_of (drop (i + 1) s))) (ne_eqb _ _ e))

  pub unknown_name : i + 1 < length s → get_or s i 0 ≡ 112 → leb q (name_of (drop (i + 1) s)) ≡ unknown q (get_or s i 0) (drop (i + 1) s)
  unknown_name h e = sym (unknown_next h ∙ ap (λ b. b && leb q (name_of (drop (i + 1) s))) (eq-eqb _ _ e))

  pub unknown_turn : i < length s → unknown_at q i (drop i s) ≡ cond (unknown q (get_or s i 0) (drop (i + 1) s)) (Some i) (unknown_at q (i + 1) (drop (i + 1) s))
  unfolding unknown_at
  unknown_turn h = ap (unknown_at q i) (byte s i h)

  pub unknown_none : i ≤ length s → length s ≤ i → unknown_at q i (drop i s) ≡ None
  unfolding unknown_at
  unknown_none h g = ap (unknown_at q i) (at_end_lem s i h g)

module _ (r : Rule) where
  pub limited_long : most_nodes < r.len → limited r ≡ no_rule Nodes 0
  limited_long h = simp (lt-ltb most_nodes r.len h)

  pub limited_many : r.len ≤ most_nodes → most_parts < count (held r) → limited r ≡ no_rule Parts 0
  limited_many h g = simp (le-ltb most_nodes r.len h, lt-ltb most_parts (count (held r)) g)

  pub limited_fine : r.len ≤ most_nodes → count (held r) ≤ most_parts → limited r ≡ accepted r
  limited_fine h g = simp (le-ltb most_nodes r.len h, le-ltb most_parts (count (held r)) g)

module _ (s : List ℕ) (q : ℕ) where
  pub named_unknown : (k : ℕ) → unknown_at q 0 s ≡ Some k → named s q ≡ no_rule Proposition k
  named_unknown k e = ap (of_found (limited (written empty_rule (parse s)))) e

  pub named_fine : unknown_at q 0 s ≡ None → named s q ≡ limited (written empty_rule (parse s))
  named_fine e = ap (of_found (limited (written empty_rule (parse s)))) e

  pub read_long : longest_rule < length s → text_read s q ≡ no_rule RuleLength longest_rule
  read_long h = simp (lt-ltb longest_rule (length s) h)

  pub read_bad : (k : ℕ) → length s ≤ longest_rule → scan s ≡ Err k → text_read s q ≡ no_rule RuleText k
  read_bad k h e = ap (λ b. cond b (no_rule RuleLength longest_rule) (of_scan (named s q) (scan s))) (le-ltb longest_rule (length s) h) ∙ ap (of_scan (named s q)) e

  pub read_good_lem : length s ≤ longest_rule → scan s ≡ Ok tt → text_read s q ≡ named s q
  read_good_lem h e = ap (λ b. cond b (no_rule RuleLength longest_rule) (of_scan (named s q) (scan s))) (le-ltb longest_rule (length s) h) ∙ ap (of_scan (named s q)) e

-- what the table's check answered decides
pub by_table : (p : Plant) (fair label next s : List ℕ) {t x : Outcome} → t ≡ table_outcome p fair label next → t ≡ x → of_table (text_read s p.props) x ≡ rule_read p fair label next s
by_table p fair label next s e f = ap (of_table (text_read s p.props)) (sym f ∙ e)

-- The tables worked out from a rule's nodes are those of the rule.
use Rattle.std.specs.Prelude.{ℕ, ◌+◌, ◌^◌, ◌≤◌, ◌<◌, ◌≡◌, Bool, true, List, get_or}
use Rattle.std.proofs.Common.{sym, ap, subst, ◌∙◌, arith, zero-add, lt_of_lt_of_le, pow_mono, lt-ltb}
use Rattle.std.proofs.Math.Decide.{dec_lt}
use Rattle.std.proofs.Math.ListN.{get_or-eq_default}
use Rattle.meaning.specs.Bit.{bit}
use Rattle.meaning.specs.Formula.{Formula, size, parts}
use Rattle.meaning.specs.Run.{Plant}
use Rattle.meaning.specs.Limits.{AcceptedTable}
use Rattle.syntax.specs.declared.Rule.{Rule}
use Rattle.syntax.specs.Print.{Below}
use Rattle.syntax.specs.Value.{rule_of}
use Rattle.words.specs.Word.{only_of}
use Rattle.words.specs.Lists.{words_at, length_words}
use Rattle.words.specs.Unions.{word_at_lem}
use Rattle.meaning.specs.Step.{next_part, table}
use Rattle.theory.specs.Each.{numbered_at}
use Rattle.theory.specs.Parts.{part_of, length_table}
use Rattle.model.specs.Values.{Shows}
use Rattle.model.specs.Tables.{Rows, is_next}
use Rattle.shape.specs.Ops.{op_at, is_step}
use Rattle.truth.specs.Ready.{Ready}
use Rattle.shape.specs.Shape.{kinds_of, nexts_in, parts_in, order_in}
use Rattle.truth.specs.Nodes.{word_at, holds_of}
use Rattle.truth.specs.Asked.{Asked, Low, High, Operand, Settled}
use Rattle.truth.specs.Tables.{words_in, rows_in, tables_of}
use Rattle.truth.specs.RightTables.{RightTables}
use Rattle.truth_laws.specs.Tree.{tree_of, nodes_in, nodes_tree, count_tree}
use Rattle.truth_laws.proofs.Stands.{rule_stands}
use Rattle.truth_laws.proofs.Numbers.{parts_in_lem}
use Rattle.truth_laws.proofs.Occurs.{Occurs, occurs_whole}
use Rattle.truth_laws.proofs.Shown.{small, shown}
use Rattle.truth_laws.specs.Told.{meant}
use Rattle.truth_laws.proofs.Entries.{Row, entry_small, rows_right}

-- as many parts as the rule has
count : (f : Formula) → size f ≤ 32 → parts_in (rule_of f) ≡ parts f
count f few = parts_in_lem (rule_of f) (tree_of f) (rule_stands f) (sym (nodes_tree f)) (omega (arith, nodes_tree f)) ∙ count_tree f

module _ (T : Plant) (f : Formula) (A : AcceptedTable T) (few : size f ≤ 32) (six : parts f ≤ 6) (below : Below T.props f) where
  abbrev rule : Rule
  rule = rule_of f

  whole : Occurs rule (tree_of f) 0 0
  whole = occurs_whole f few six

  row : (k : ℕ) → k < parts f → Row T A rule (part_of f k) k
  row k lk =
      let all = rows_right T A rule f below 0 0 whole in
      rw zero-add at (numbered_at (Row T A rule) (next_part 0 (λ l v. true)) (table f 0) 0 all k (omega (arith, length_table f 0)))

  rows : (asked : Asked) → Rows T f (rows_in asked T.label rule) (meant asked)
  rows asked = record {
    words = λ v k. entry_small T A rule few asked _;
    holds = λ v k s lv lk ls. (row k lk).tells asked v (lt_of_lt_of_le lv (pow_mono six)) s ls;
  }

  nexts : (k : ℕ) → k < parts f → bit (nexts_in (kinds_of rule.nodes (order_in rule)) (parts_in rule)) k ≡ is_next (part_of f k)
  nexts k lk = word_at_lem (parts_in rule) (λ k. is_step (op_at (kinds_of rule.nodes (order_in rule)) k)) k (omega (arith, count f few)) ∙ (row k lk).steps

  -- the rule's own words are those behind its last node
  abbrev last : ℕ → ℕ
  last v = word_at (words_in T.label rule) (size f) v

  abbrev own : List ℕ
  own = holds_of (words_in T.label rule) rule.len

  own_at : (v : ℕ) → v < 64 → get_or own v 0 ≡ last v
  own_at v lv = words_at 64 last v lv ∙ ap (λ (b : Bool). only_of b (last v)) (lt-ltb v 64 lv)

  holds : (v : ℕ) → v < 64 → Shows T f 0 v (get_or own v 0)
  holds v lv =
      let e : size f ≡ 0 + nodes_in (tree_of f) = omega (arith, nodes_tree f) in
      subst (Shows T f 0 v) (sym (own_at v lv ∙ ap (λ p. word_at (words_in T.label rule) p v) e)) (shown T A rule f whole below v lv)

  words : (v : ℕ) → get_or own v 0 < 2 ^ 64
  words v = elim (dec_lt v 64) [
    | yes lv ↦ rw (own_at v lv) (small T A rule few (size f) v)
    | no h ↦ rw (get_or-eq_default own 0 {n = v} (omega (arith, length_words 64 last))) (omega arith)
  ]

  right : RightTables T f (tables_of T.label rule)
  unfolding tables_of
  right = record {
    count = count f few;
    nexts = nexts;
    low = rows Low;
    high = rows High;
    operand = rows Operand;
    settled = rows Settled;
    holds = holds;
    words = words;
  }

-- the loops may run
pub tables_ready : (T : Plant) (f : Formula) (rule : Rule) → AcceptedTable T → rule ≡ rule_of f → size f ≤ 32 → parts f ≤ 6 → Ready T.label rule
tables_ready T f rule A e few six = subst (λ (r : Rule). Ready T.label r) (sym e) (record {
  labels = omega (arith, A.labels, A.few_states);
  long = few;
  few = omega (arith, count f few);
})

-- the parts of a rule for which they may are few
pub few_parts : {label : List ℕ} {rule : Rule} → Ready label rule → (tables_of label rule).parts ≤ 6
unfolding tables_of
few_parts ok = ok.few

-- whatever the table and the rule that the calls accept, the tables worked out are right
pub tables_right : (T : Plant) (f : Formula) (rule : Rule) → AcceptedTable T → rule ≡ rule_of f → size f ≤ 32 → parts f ≤ 6 → Below T.props f
    → RightTables T f (tables_of T.label rule)
tables_right T f rule A e few six below = subst (λ (r : Rule). RightTables T f (tables_of T.label r)) (sym e) (right T f A few six below)

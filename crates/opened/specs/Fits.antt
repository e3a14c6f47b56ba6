-- What was opened is fit to be followed: its table's parts can be lent, and its live set and its monitor are of its table and its rule.
use Rattle.std.specs.Prelude.{ℕ, ◌≤◌, ◌≡◌, List, length, Ok}
use Rattle.std.proofs.Common.{ap}
use Rattle.answers.specs.declared.Refusal.{Refusal}
use Rattle.answers.specs.Results.{Outcome}
use Rattle.plant.specs.declared.Table.{Table}
use Rattle.plant.specs.Read.{table_read}
use Rattle.syntax.proofs.Values.{full_value}
use Rattle.rule_text.specs.declared.RuleRead.{RuleRead}
use Rattle.rule_text.specs.Reading.{rule_read}
use Rattle.rule_text.specs.Paper.{Takes}
use Rattle.rule.proofs.Promises as rules
use Rattle.live.specs.declared.Prepared.{Prepared}
use Rattle.live.specs.Prepare.{prepared_of}
use Rattle.monitor.specs.Calls.{open_call}
use Rattle.course.specs.Course.{Fitting}
use Rattle.opened.specs.declared.Opened.{Opened}
use Rattle.opened.specs.Opened.{not_opened, made, fair_in, label_in, next_in}

-- a rule that was read has all its nodes, and counts at most as many
module _ (t : Table) (text : List ℕ) (ok : (rule_read t.plant (fair_in t) (label_in t) (next_in t) text).outcome ≡ Ok tt) where
  abbrev pub read : RuleRead
  read = rule_read t.plant (fair_in t) (label_in t) (next_in t) text

  takes : Takes t.plant (fair_in t) (label_in t) (next_in t) text read.rule
  takes = (rules.accepted_exactly t.plant (fair_in t) (label_in t) (next_in t) text read.rule).0 (ap (λ (o : Outcome). record { outcome = o; rule = read.rule }) ok)

  pub full_read : length read.rule.nodes ≡ 32
  full_read = rw takes.is (full_value takes.formula takes.small)

  pub short_read : read.rule.len ≤ 32
  short_read = rw takes.is takes.small

-- ---- what holds of all that is opened: beside any refusal, and of what was read and made where the checks pass

module _ (P : Opened → Type 0) (refused : (r : Refusal) → P (not_opened r)) where
  module _ (table rule : List ℕ) where
    abbrev pub t : Table
    t = (table_read table).table

    abbrev pub rule_read_lem : RuleRead
    rule_read_lem = rule_read t.plant (fair_in t) (label_in t) (next_in t) rule

    abbrev pub prepared : Prepared
    prepared = prepared_of t.plant (fair_in t) (label_in t) (next_in t) rule_read_lem.rule

    abbrev pub all_made : Opened
    all_made = made t rule_read_lem.rule prepared.live (open_call t.plant (fair_in t) (label_in t) (next_in t) rule_read_lem.rule prepared.live).monitor

-- a log may be followed from what was opened
abbrev pub Fits : Opened → Type 0
Fits o = Fitting o.table.plant (fair_in o.table) (label_in o.table) (next_in o.table) o.rule o.live o.monitor

-- More of specs/Fits. What was opened is fit to be followed: its table's parts can be lent, and its live set and its monitor are of its table and its rule.
use Rattle.std.specs.Prelude.{ℕ, ◌≤◌, ◌≡◌, refl, List, length, Ok, Err}
use Rattle.std.proofs.Common.{zero-le}
use Rattle.answers.specs.declared.Refusal.{Refusal}
use Rattle.answers.specs.Results.{Outcome}
use Rattle.answers.specs.Chain.{refused_none}
use Rattle.plant.specs.declared.Table.{Table}
use Rattle.plant.specs.Read.{table_read}
use Rattle.rule_text.specs.declared.RuleRead.{RuleRead}
use Rattle.rule_text.specs.Reading.{rule_read}
use Rattle.live.specs.declared.Prepared.{Prepared}
use Rattle.live.specs.Promises.{prepare_accepted}
use Rattle.course.proofs.CourseRight.{opened_fitting}
use Rattle.opened.specs.declared.Opened.{Opened}
use Rattle.opened.specs.Lent.{Lent, none, lent}
use Rattle.opened.specs.Opened.{not_opened, or_refused, fair_in, label_in, next_in, rule_opened, parts_opened, table_opened, opened_of}
use Rattle.opened.specs.Fits.{Fits, full_read, read, short_read}
use Rattle.opened.specs.Fits as of_fits

-- ---- what holds of all that is opened: beside any refusal, and of what was read and made where the checks pass

module _ (P : Opened → Type 0) (refused : (r : Refusal) → P (not_opened r)) where
  by_outcome : (o : Outcome) (x : Opened) → (o ≡ Ok tt → P x) → P (or_refused o x)
  by_outcome (Ok _) x h = h refl
  by_outcome (Err r) x h = refused r

  module _ (table rule : List ℕ) where
    abbrev t : Table
    t = of_fits.t P refused table rule

    abbrev rule_read_lem : RuleRead
    rule_read_lem = of_fits.rule_read_lem P refused table rule

    abbrev prepared : Prepared
    prepared = of_fits.prepared P refused table rule

    abbrev all_made : Opened
    all_made = of_fits.all_made P refused table rule

    opened_by_lem : (rule_read_lem.outcome ≡ Ok tt → prepared.outcome ≡ Ok tt → P all_made) → P (opened_of table rule)
    unfolding opened_of parts_opened rule_opened
    opened_by_lem h =
        by_outcome (table_read table).outcome (table_opened t rule) (λ _.
        by_outcome rule_read_lem.outcome (rule_opened t (fair_in t) (label_in t) (next_in t) rule_read_lem.rule) (λ ok. by_outcome prepared.outcome all_made (h ok)))

-- the table's parts can be lent
pub opened_lent : (table rule : List ℕ) → Lent (opened_of table rule).table
opened_lent table rule = opened_by_lem (λ o. Lent o.table) (λ r. none) table rule (λ _ _. lent (table_read table) table refl)

-- the rule has all its nodes, and counts no more
pub opened_full : (table rule : List ℕ) → length (opened_of table rule).rule.nodes ≡ 32
opened_full table rule = opened_by_lem (λ o. length o.rule.nodes ≡ 32) (λ r. refl) table rule (λ ok _. full_read (table_read table).table rule ok)

pub opened_short : (table rule : List ℕ) → (opened_of table rule).rule.len ≤ 32
opened_short table rule = opened_by_lem (λ o. o.rule.len ≤ 32) (λ r. zero-le) table rule (λ ok _. short_read (table_read table).table rule ok)

pub opened_fits : (table rule : List ℕ) → (opened_of table rule).outcome ≡ Ok tt → Fits (opened_of table rule)
opened_fits table rule =
    let t = (table_read table).table in
    let read = rule_read t.plant (fair_in t) (label_in t) (next_in t) rule in
    opened_by_lem (λ o. o.outcome ≡ Ok tt → Fits o) (λ r e. refused_none e) table rule (λ ok done _.
    opened_fitting t.plant (fair_in t) (label_in t) (next_in t) read.rule ((prepare_accepted t.plant (fair_in t) (label_in t) (next_in t) read.rule (full_read t rule ok)).0 done))

-- WHAT THE TEXTS OF A TABLE AND A RULE GIVE: the calls that read, prepare and open, one after the other. The first refusal counts.
use Rattle.std.specs.Prelude.{ℕ, List, take, replicate, Ok, Err}
use Rattle.pairs.specs.declared.Pairs.{Pairs}
use Rattle.answers.specs.declared.Refusal.{Refusal}
use Rattle.answers.specs.Results.{Outcome}
use Rattle.plant.specs.declared.Table.{Table}
use Rattle.plant.specs.Read.{table_read, no_table}
use Rattle.syntax.specs.declared.Rule.{Rule}
use Rattle.syntax.specs.Value.{empty_rule}
use Rattle.rule_text.specs.Reading.{rule_read}
use Rattle.live.specs.Prepare.{prepared_of}
use Rattle.sides.specs.declared.Monitor.{Monitor}
use Rattle.monitor.specs.Calls.{no_monitor, open_call}
use Rattle.opened.specs.declared.Opened.{Opened}

-- beside a refusal stands nothing but zeros
abbrev pub not_opened : Refusal → Opened
not_opened r = record { outcome = Err r; table = no_table; rule = empty_rule; live = record { words = replicate 64 0 }; monitor = no_monitor }

-- what was read and made
abbrev pub made : Table → Rule → Pairs → Monitor → Opened
made t rule live monitor = record { outcome = Ok tt; table = t; rule = rule; live = live; monitor = monitor }

-- a check, and what comes behind it
abbrev pub or_refused : Outcome → Opened → Opened
or_refused (Ok _) o = o
or_refused (Err r) o = not_opened r

-- a table lends as many of its parts as it counts
abbrev pub fair_in : Table → List ℕ
fair_in t = take t.plant.just t.fair

abbrev pub label_in : Table → List ℕ
label_in t = take t.plant.states t.label

abbrev pub next_in : Table → List ℕ
next_in t = take t.plant.states t.next

module _ (t : Table) (fair label next : List ℕ) where
  -- the live set, and the monitor at the start
  unfoldable pub rule_opened : Rule → Opened
  rule_opened rule =
      let prepared = prepared_of t.plant fair label next rule in
      or_refused prepared.outcome (made t rule prepared.live (open_call t.plant fair label next rule prepared.live).monitor)

  -- 4 to 8, of the text as it is given
  unfoldable pub parts_opened : List ℕ → Opened
  parts_opened text = let read = rule_read t.plant fair label next text in or_refused read.outcome (rule_opened read.rule)

abbrev pub table_opened : Table → List ℕ → Opened
table_opened t rule = parts_opened t (fair_in t) (label_in t) (next_in t) rule

-- 3, 2
unfoldable pub opened_of : List ℕ → List ℕ → Opened
opened_of table rule = let read = table_read table in or_refused read.outcome (table_opened read.table rule)

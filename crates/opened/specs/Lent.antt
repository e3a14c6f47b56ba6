-- When the parts of a table can be lent as its counts say, and that those of a table that was read can.
use Rattle.std.specs.Prelude.{◌≡◌, List, ℕ, ◌≤◌, length, get_or}
use Rattle.std.proofs.Common.{sym, subst, zero-le, arith}
use Rattle.io.specs.Counts.{IsPrefixLen}
use Rattle.io.proofs.Counting.{prefix_len_of_le}
use Rattle.meaning.specs.Run as run
use Rattle.words.specs.Lists.{length_list}
use Rattle.plant.specs.declared.Table.{Table}
use Rattle.plant.specs.declared.TableRead.{TableRead}
use Rattle.plant.specs.Read.{table_read, table_of, no_table}
use Rattle.plant.specs.Promises.{Reading, reading, accepted, beyond, misformed}

pub record Lent (t : Table) : Type 0 where
  pub fair : IsPrefixLen t.plant.just t.fair
  pub label : IsPrefixLen t.plant.states t.label
  pub next : IsPrefixLen t.plant.states t.next

filled : (t : run.Plant) → length t.fair ≤ 4 → t.states ≤ 64 → Lent (table_of t)
filled t few_fair few_states = record {
  fair = prefix_len_of_le _ _ (omega (arith, few_fair, length_list 4 (λ k. get_or t.fair k 0)));
  label = prefix_len_of_le _ _ (omega (arith, few_states, length_list 64 (λ k. get_or t.label k 0)));
  next = prefix_len_of_le _ _ (omega (arith, few_states, length_list 64 (λ k. get_or t.next k 0)));
}

-- the table beside a refusal
pub none : Lent no_table
none = record { fair = prefix_len_of_le 0 no_table.fair zero-le; label = prefix_len_of_le 0 no_table.label zero-le; next = prefix_len_of_le 0 no_table.next zero-le }

pub lent : (r : TableRead) (s : List ℕ) → r ≡ table_read s → Lent r.table
lent r s e = subst (λ (x : TableRead). Lent x.table) (sym e) (by_case (reading s))
  where
    there : (x : TableRead) → table_read s ≡ x → Lent x.table → Lent (table_read s).table
    there x e l = subst (λ (x : TableRead). Lent x.table) (sym e) l

    by_case : Reading s → Lent (table_read s).table
    by_case (accepted t a f is) = there _ is (filled t a.few_fair a.few_states)
    by_case (beyond t w b f is) = there _ is none
    by_case (misformed i p is) = there _ is none

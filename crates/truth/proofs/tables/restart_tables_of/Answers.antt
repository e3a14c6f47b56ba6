-- `tables::restart_tables_of`: by what the calls ensure.
use Rattle.truth.specs.Whole.{restart_tables_whole}
use borrow.Author.Rules.{rules}
use Rattle.truth.proofs.tables.restart_tables_of.Goals as goal

pub returns : goal.returns
returns c = search (rules, restart_tables_whole)

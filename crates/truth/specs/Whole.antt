-- The whole values that `tables_of`, `move_tables_of`, `restart_tables_of` and `holds_of` return, from what their calls ensure.
use Rattle.std.specs.Prelude.{ℕ, ◌≡◌, List}
use Rattle.std.proofs.Math.Path.{ap}
use Rattle.syntax.specs.declared.Rule.{Rule}
use Rattle.shape.specs.declared.Shape.{Shape}
use Rattle.shape.specs.Shape.{Shaped}
use Rattle.truth.specs.declared.tables.MoveTables.{MoveTables}
use Rattle.truth.specs.declared.tables.Tables.{Tables}
use Rattle.truth.specs.Asked.{Low, High, Operand, Settled}
use Rattle.truth.specs.Nodes.{holds_of}
use Rattle.truth.specs.Tables.{words_in, words_by, rows_in, rows_by, move_tables_from, move_tables_in, restart_tables_in, tables_from, tables_of}

pub move_tables_from_lem :
    (shape : Shape) (words low high operand : List ℕ) → low ≡ rows_by Low shape words → high ≡ rows_by High shape words →
    operand ≡ rows_by Operand shape words →
    record { parts = shape.parts; nexts = shape.nexts; low = low; high = high; operand = operand } ≡ move_tables_from shape words
unfolding move_tables_from
move_tables_from_lem shape words low high operand l h o = rw (l, h, o)

pub tables_from_lem :
    (shape : Shape) (words : List ℕ) (len : ℕ) (t : MoveTables) (settled holds : List ℕ) → t ≡ move_tables_from shape words →
    settled ≡ rows_by Settled shape words → holds ≡ holds_of words len →
    record {
      parts = t.parts;
      nexts = t.nexts;
      low = t.low;
      high = t.high;
      operand = t.operand;
      settled = settled;
      holds = holds;
    } ≡ tables_from shape words len
unfolding move_tables_from tables_from
tables_from_lem shape words len t settled holds e s h = rw (e, s, h)

module _ (label : List ℕ) (rule : Rule) (shape : Shape) (words : List ℕ) (s : Shaped rule shape) (w : words ≡ words_by label rule shape) where
  pub tables_whole : tables_from shape words rule.len ≡ tables_of label rule
  unfolding tables_from tables_of rows_in words_in
  tables_whole = let (b, p, o, k, n, x) = s in rw (w, b, p, o, k, n, x)

  pub move_tables_whole : move_tables_from shape words ≡ move_tables_in (tables_of label rule)
  unfolding move_tables_from tables_from
  move_tables_whole = ap move_tables_in tables_whole

  pub holds_whole : holds_of words rule.len ≡ (tables_of label rule).holds
  unfolding tables_from
  holds_whole = ap (λ (t : Tables). t.holds) tables_whole

  pub restart_tables_whole : {t : MoveTables} {holds : List ℕ} → t ≡ move_tables_from shape words → holds ≡ holds_of words rule.len
      → record { moves = t; holds = holds } ≡ restart_tables_in (tables_of label rule)
  restart_tables_whole m h = rw (m, h, move_tables_whole, holds_whole)

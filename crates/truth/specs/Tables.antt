-- All that moves go by, of labels and a rule.
use Rattle.std.specs.Prelude.{ℕ, ◌*◌, List}
use Rattle.syntax.specs.declared.Rule.{Rule}
use Rattle.shape.specs.Shape.{begins_of, numbers_of, kinds_of, nexts_in, parts_in, order_in}
use Rattle.truth.specs.Nodes.{nodes_after, holds_of}
use Rattle.truth.specs.Rows.{rows_from}
use Rattle.truth.specs.Asked.{Asked, Low, High, Operand, Settled}
use Rattle.shape.specs.declared.Shape.{Shape}
use Rattle.truth.specs.declared.tables.MoveTables.{MoveTables}
use Rattle.truth.specs.declared.tables.RestartTables.{RestartTables}
use Rattle.truth.specs.declared.tables.Tables.{Tables}

-- the words of all places of a rule
unfoldable pub words_in : List ℕ → Rule → List ℕ
words_in label rule =
    nodes_after rule.nodes label (begins_of rule.nodes rule.len) (numbers_of (order_in rule) (parts_in rule)) (rule.len * 64)

-- one table of its parts
unfoldable pub rows_in : Asked → List ℕ → Rule → List ℕ
rows_in asked label rule =
    rows_from asked (kinds_of rule.nodes (order_in rule)) (begins_of rule.nodes rule.len) (order_in rule) (words_in label rule)

-- the same from a rule's shape and the words of its places, as the code goes
abbrev pub words_by : List ℕ → Rule → Shape → List ℕ
words_by label rule shape = nodes_after rule.nodes label shape.begins shape.numbers (rule.len * 64)

abbrev pub rows_by : Asked → Shape → List ℕ → List ℕ
rows_by asked shape words = rows_from asked shape.kinds.nodes shape.begins shape.order words

unfoldable pub move_tables_from : Shape → List ℕ → MoveTables
move_tables_from shape words = record {
  parts = shape.parts;
  nexts = shape.nexts;
  low = rows_by Low shape words;
  high = rows_by High shape words;
  operand = rows_by Operand shape words;
}

unfoldable pub tables_from : Shape → List ℕ → ℕ → Tables
tables_from shape words len = record {
  parts = shape.parts;
  nexts = shape.nexts;
  low = rows_by Low shape words;
  high = rows_by High shape words;
  operand = rows_by Operand shape words;
  settled = rows_by Settled shape words;
  holds = holds_of words len;
}

-- all tables of a rule
unfoldable pub tables_of : List ℕ → Rule → Tables
tables_of label rule = record {
  parts = parts_in rule;
  nexts = nexts_in (kinds_of rule.nodes (order_in rule)) (parts_in rule);
  low = rows_in Low label rule;
  high = rows_in High label rule;
  operand = rows_in Operand label rule;
  settled = rows_in Settled label rule;
  holds = holds_of (words_in label rule) rule.len;
}

-- those of them that a move goes by
abbrev pub move_tables_in : Tables → MoveTables
move_tables_in t = record { parts = t.parts; nexts = t.nexts; low = t.low; high = t.high; operand = t.operand }

-- and those that a restart goes by
abbrev pub restart_tables_in : Tables → RestartTables
restart_tables_in t = record { moves = move_tables_in t; holds = t.holds }

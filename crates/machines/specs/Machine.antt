-- Machines: what they answer, and the one form that each has.
use Rattle.std.specs.Prelude.{ℕ, ◌<◌, ◌≡◌, ◌⊎◌, List, [], ◌∷◌}

-- so many rows, the output of each, and the row that follows a row at a column; row 0 is the opening
pub record Machine : Type 0 where
  pub rows : ℕ
  pub output : ℕ → ℕ
  pub next : ℕ → ℕ → ℕ

-- the row after a word of columns
unfoldable pub run : Machine → ℕ → List ℕ → ℕ
run m r [] = r
run m r (k ∷ w) = run m (m.next r k) w

-- a word whose columns are below c
pub data Columns (c : ℕ) : List ℕ → Type 0 where
  none : Columns c []
  more : {k : ℕ} {w : List ℕ} → k < c → Columns c w → Columns c (k ∷ w)

-- no word of columns, the empty one too, tells row r of m from row s of n by outputs
pub record Alike (c : ℕ) (m : Machine) (r : ℕ) (n : Machine) (s : ℕ) : Type 0 where
  pub after : (w : List ℕ) → Columns c w → m.output (run m r w) ≡ n.output (run n s w)

-- two rows that nothing tells apart
abbrev pub Same : ℕ → Machine → ℕ → ℕ → Type 0
Same c m r s = Alike c m r m s

-- two machines with equal outputs on every word from row 0
abbrev pub AnswersAlike : ℕ → Machine → Machine → Type 0
AnswersAlike c m n = Alike c m 0 n 0

-- there is a row 0, and the cells hold rows
pub record Proper (c : ℕ) (m : Machine) : Type 0 where
  pub opening : 0 < m.rows
  pub inside : (r k : ℕ) → r < m.rows → k < c → m.next r k < m.rows

-- some word leads from row 0 to r
abbrev pub Reached : ℕ → Machine → ℕ → Type 0
Reached c m r = (w : List ℕ) × Columns c w × (run m 0 w ≡ r)

-- row by row, and in a row column by column, the cell at row q and column j comes before that at row r and column k
abbrev pub Before : ℕ → ℕ → ℕ → ℕ → Type 0
Before q j r k = (q < r) ⊎ ((q ≡ r) × (j < k))

-- row s is first reached from row r at column k: r has its number already, and the cells before held rows with lower numbers only
pub record FirstReached (c : ℕ) (m : Machine) (s r k : ℕ) : Type 0 where
  pub from : r < s
  pub column : k < c
  pub here : m.next r k ≡ s
  pub lower : (q j : ℕ) → j < c → Before q j r k → m.next q j < s

-- rows have their numbers by where they are met first: row by row, and in a row column by column
abbrev pub Numbered : ℕ → Machine → Type 0
Numbered c m = (s : ℕ) → 0 < s → s < m.rows → (r : ℕ) × (k : ℕ) × FirstReached c m s r k

-- rows that nothing tells apart are one row
abbrev pub Distinct : ℕ → Machine → Type 0
Distinct c m = (r s : ℕ) → r < m.rows → s < m.rows → Same c m r s → r ≡ s

-- the form that a fixed machine has
pub record Canonical (c : ℕ) (m : Machine) : Type 0 where
  pub proper : Proper c m
  pub distinct : Distinct c m
  pub numbered : Numbered c m

-- two machines with as many rows, equal output by output and cell by cell
pub record Equal (c : ℕ) (m n : Machine) : Type 0 where
  pub size : m.rows ≡ n.rows
  pub outputs : (r : ℕ) → r < m.rows → m.output r ≡ n.output r
  pub cells : (r k : ℕ) → r < m.rows → k < c → m.next r k ≡ n.next r k

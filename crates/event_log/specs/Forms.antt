-- The two forms of a log's lines: what a byte of the other form is. Which form an accepted text has, and where a text that mixes them is refused, is in proofs/Forms.
use Rattle.std.specs.Prelude.{ℕ, Bool, true, false}

-- ---- a log that mixes

-- the byte that begins a line of the other form: `s` behind numbered lines, and `n` behind plain ones
abbrev pub other_byte : Bool → ℕ
other_byte true = 115
other_byte false = 110

-- What the machine reads of a sheet: a key, where its line may come. That it goes through all lines to the end is in proofs/Read.
use Rattle.std.specs.Prelude.{ℕ, zero, suc, ◌≤◌, ◌<◌, ◌≡◌, List, [], ◌∷◌, ◌++◌, length, Ok}
use Rattle.std.proofs.Common.{arith, le-ltb}
use Rattle.sheet.specs.declared.Lines.{Lines}
use Rattle.sheet.specs.declared.State.{State}
use Rattle.sheet.specs.declared.State.TheVariants.{Before, Value}
use Rattle.sheet.specs.Sheet.{edition_key, rule_key, closing_key, number_of, Values}
use Rattle.sheet.specs.Machine.{lines_as, line_by, begun, key_byte, key_size, named, state_after, file_as, filed, scan_from}
use Rattle.sheet.specs.Value.{amount}

-- the key of a line
abbrev pub key_of : ℕ → List ℕ
key_of zero = edition_key
key_of (suc zero) = rule_key
key_of (suc (suc k)) = closing_key

-- what the machine knows of a sheet
abbrev pub lines_of : Values → Lines
lines_of x = lines_as (length x.edition) (length x.rule) (length x.closing) (number_of x.edition)

-- from the state st, with the lines l, the text is read to its end, from whatever place
pub record Reads (l : Lines) (st : State) (s : List ℕ) (m : Lines) : Type 0 where
  pub reads : (i : ℕ) → scan_from l st i s ≡ Ok m

-- a key, where its line may come
pub reads_key : (k j : ℕ) (s : List ℕ) (l m : Lines) → k < 3 → j ≤ k → Reads l (Value k 0 0) s m → Reads l (Before j) (key_of k ++ s) m
unfolding scan_from state_after begun line_by key_byte key_size named filed
reads_key zero j s l m h g r = record { reads = λ i. rw (le-ltb 0 j g) (r.reads _) }
reads_key (suc zero) j s l m h g r = record { reads = λ i. rw (le-ltb 1 j g) (r.reads _) }
reads_key (suc (suc zero)) j s l m h g r = record { reads = λ i. rw (le-ltb 2 j g) (r.reads _) }
reads_key (suc (suc (suc k))) j s l m h g r = absurd (omega arith)

-- what is known behind a line that may be left out
abbrev pub lined : ℕ → List ℕ → Lines → Lines
lined k [] l = l
lined k (b ∷ v) l = file_as l k (length (b ∷ v)) (amount k (b ∷ v))

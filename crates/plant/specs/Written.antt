-- The text form of plant tables, written out: which tables can be written, and the text of each.
use Rattle.std.specs.Prelude.{ℕ, zero, suc, ◌^◌, ◌≤◌, ◌<◌, ◌≡◌, refl, List, [], ◌++◌, length, get_or}
use Rattle.std.proofs.Common.{zero-le, ap}
use Rattle.meaning.specs.Run.{Plant}
use Rattle.meaning.specs.Limits.{most_props, most_states, most_fair}
use Rattle.text.specs.Slot.{Slot, word}
use Rattle.text.specs.Number.{width_of, hex_slots, count_slots}
use Rattle.text.specs.Form.{Form, led, ended, both, seen}
use Rattle.text.specs.Hex.{hex}
use Rattle.text.specs.Count.{counted}
use Rattle.text.specs.Many.{listed, slots_below}
use Rattle.text.specs.Written.{text_of}
use Rattle.plant.specs.Text.{table_form, field, row, lf, key_slots, props_key, states_key, start_key, just_key, fair_name, label_name, next_name}

-- counts in their ranges, a label and a set of next states for each state, sets of 16 digits and labels of 2 or 4
pub record WellFormed (t : Plant) : Type 0 where
  pub props : (1 ≤ t.props) × (t.props ≤ most_props)
  pub states : (1 ≤ t.states) × (t.states ≤ most_states)
  pub start : t.start < 16 ^ 16
  pub few_fair : length t.fair ≤ most_fair
  pub fair : (k : ℕ) → k < length t.fair → get_or t.fair k 0 < 16 ^ 16
  pub labels : length t.label ≡ t.states
  pub nexts : length t.next ≡ t.states
  pub row : (k : ℕ) → k < t.states → (get_or t.label k 0 < 16 ^ width_of t.props) × (get_or t.next k 0 < 16 ^ 16)

-- `name`, a number, `=`, a number of so many hexadecimal digits, LF
abbrev pub line : List ℕ → ℕ → ℕ → ℕ → List Slot
line name k w v = key_slots name k ++ (hex_slots w v ++ lf)

-- f 0, f 1, .. f (n - 1), one after the other
unfoldable pub lines_below : ℕ → (ℕ → List Slot) → List Slot
lines_below zero f = []
lines_below (suc n) f = lines_below n f ++ f n

-- the lines in their order (01, The plant table): the four keys of the table, the fairness sets, and a label and a set of next states for each state
abbrev pub table_slots : Plant → List Slot
table_slots t =
    (word props_key ++ count_slots 10 t.props) ++ ((word states_key ++ count_slots 10 t.states) ++ ((word start_key ++ (hex_slots 16 t.start ++ lf))
    ++ ((word just_key ++ count_slots 10 (length t.fair)) ++ (lines_below (length t.fair) (λ k. line fair_name k 16 (get_or t.fair k 0))
    ++ lines_below t.states (λ k. line label_name k (width_of t.props) (get_or t.label k 0) ++ line next_name k 16 (get_or t.next k 0))))))

-- the written form of a table
abbrev pub table_text : Plant → List ℕ
table_text t = text_of (table_slots t)

-- ---- this is the form that is read

below_is : {A : Type 0} (F : ℕ → Form A) (n : ℕ) (f : ℕ → A) → slots_below F n f ≡ lines_below n (λ k. (F k).slots (f k))
unfolding slots_below lines_below
below_is F zero f = refl
below_is F (suc n) f = ap (λ (ts : List Slot). ts ++ (F n).slots (f n)) (below_is F n f)

pub slots_are : (t : Plant) → table_form.slots t ≡ table_slots t
unfolding seen both led ended hex counted listed
slots_are t = rw (below_is (field fair_name 16), below_is (row (width_of t.props)))

pub well_formed : (t : Plant) → WellFormed t → table_form.Ok t
unfolding seen both led ended hex counted listed
well_formed t w = (w.props, (w.states, (w.start, ((zero-le, w.few_fair), ((refl, w.fair), ((w.labels, w.nexts), w.row))))))

pub formed_well : (t : Plant) → table_form.Ok t → WellFormed t
unfolding seen both led ended hex counted listed
formed_well t o =
    record {
      props = o.0;
      states = o.1.0;
      start = o.1.1.0;
      few_fair = o.1.1.1.0.1;
      fair = o.1.1.1.1.0.1;
      labels = o.1.1.1.1.1.0.0;
      nexts = o.1.1.1.1.1.0.1;
      row = o.1.1.1.1.1.1;
    }

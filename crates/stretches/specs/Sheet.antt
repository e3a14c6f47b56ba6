-- A day sheet, and what one event more makes of it, as code does it. That this is the sheet worked out afresh is proved in Laws.
use Rattle.std.specs.Prelude.{ℕ, ◌+◌, ◌-◌, ◌^◌, ◌≤◌, ◌<◌, ◌≡◌, Bool, true, eqb, ltb, length, get_or, replicate}
use Rattle.std.proofs.Common.{arith, ◌∙◌}
use Rattle.std.proofs.Math.Path.{refl, sym, ap}
use Rattle.std.proofs.Math.Bool.{false, cond}
use mathlib.Core.List.{List, ◌++◌}
use Rattle.std.proofs.Math.ListN.{set}
use Rattle.std.proofs.Math.Seq.{set_out}
use borrow.Author.Tests.{lt-ltb, le-ltb, eq-eqb, ne_eqb}
use Rattle.answers.specs.declared.Verdict.{Verdict}
use Rattle.answers.specs.declared.Verdict.TheVariants.{Inconclusive, True, False, OutOfModel}
use Rattle.stretches.specs.declared.Stretch.{Stretch}
use Rattle.stretches.specs.declared.DaySheet.{DaySheet}

-- a line that says nothing
abbrev pub blank : Stretch
blank = record { first = 0; events = 0; verdict = Inconclusive; decided = 0 }

-- A SHEET OF LINES: behind them it has blank ones
abbrev pub sheet_of : List Stretch → DaySheet
sheet_of ls = record { count = length ls; lines = ls ++ replicate (64 - length ls) blank }

abbrev pub empty_sheet : DaySheet
empty_sheet = record { count = 0; lines = replicate 64 blank }

-- whether a verdict decides
abbrev pub decides : Verdict → Bool
decides Inconclusive = false
decides True = true
decides False = true
decides OutOfModel = false

-- the number of an event at which it does, and else 2 ^ 32, which is none
abbrev pub decided_by : Verdict → ℕ → ℕ
decided_by v n = cond (decides v) n (2 ^ 32)

unfoldable pub decided_after : ℕ → Verdict → ℕ → ℕ
decided_after d v n = cond (ltb d (2 ^ 32)) d (decided_by v n)

-- there are no more than 2 ^ 32 numbers, so no more events are counted
unfoldable pub one_more : ℕ → ℕ
one_more n = cond (ltb n (2 ^ 32)) (n + 1) n

-- a stretch that begins with an event, and one that goes on with it
abbrev pub first_line : ℕ → Verdict → Stretch
first_line n v = record { first = n; events = 1; verdict = v; decided = decided_by v n }

abbrev pub more_line : Stretch → ℕ → Verdict → Stretch
more_line l n v = record { first = l.first; events = one_more l.events; verdict = v; decided = decided_after l.decided v n }

-- a stretch more, where there is room
unfoldable pub begun_by : DaySheet → ℕ → Verdict → DaySheet
begun_by s n v = cond (ltb s.count 64) (record { count = s.count + 1; lines = set s.lines s.count (first_line n v) }) s

-- the last one goes on
unfoldable pub gone_on_by : DaySheet → ℕ → Verdict → DaySheet
gone_on_by s n v = record { count = s.count; lines = set s.lines (s.count - 1) (more_line (get_or s.lines (s.count - 1) blank) n v) }

-- AN EVENT NOTED: its number and the verdict that the lamp then shows
unfoldable pub noted_by : DaySheet → Bool → ℕ → Verdict → DaySheet
noted_by s opens n v = cond (eqb s.count 0) (begun_by s n v) (cond opens (begun_by s n v) (gone_on_by s n v))

-- ---- for code

module _ (s : DaySheet) (n : ℕ) (v : Verdict) where
  pub begun_room : {l : Stretch} → s.count < 64 → l ≡ first_line n v → record { count = s.count + 1; lines = set s.lines s.count l } ≡ begun_by s n v
  unfolding begun_by
  begun_room room is = rw (is, lt-ltb s.count 64 room) refl

  pub begun_full : 64 ≤ s.count → s ≡ begun_by s n v
  unfolding begun_by
  begun_full full = sym (ap (λ (b : Bool). cond b (record { count = s.count + 1; lines = set s.lines s.count (first_line n v) }) s) (le-ltb s.count 64 full))

  pub gone_within : {l : Stretch} → l ≡ more_line (get_or s.lines (s.count - 1) blank) n v → record { count = s.count; lines = set s.lines (s.count - 1) l } ≡ gone_on_by s n v
  unfolding gone_on_by
  gone_within is = ap (λ (l : Stretch). record { count = s.count; lines = set s.lines (s.count - 1) l }) is

  pub gone_beyond : length s.lines ≡ 64 → 64 ≤ s.count - 1 → s ≡ gone_on_by s n v
  unfolding gone_on_by
  gone_beyond long out = ap (λ (l : List Stretch). record { count = s.count; lines = l }) (sym (set_out s.lines (s.count - 1) _ (omega (arith, long))))

  module _ (opens : Bool) where
    abbrev by : Bool → Bool → DaySheet
    by none opens = cond none (begun_by s n v) (cond opens (begun_by s n v) (gone_on_by s n v))

    pub noted_none : s.count ≡ 0 → begun_by s n v ≡ noted_by s opens n v
    unfolding noted_by
    noted_none e = sym (ap (λ (b : Bool). by b opens) (eq-eqb s.count 0 e))

    pub noted_some : (s.count ≡ 0 → ⊥) → (b : Bool) → opens ≡ b → cond b (begun_by s n v) (gone_on_by s n v) ≡ noted_by s opens n v
    unfolding noted_by
    noted_some e b is = ap (λ (b : Bool). by false b) (sym is) ∙ sym (ap (λ (b : Bool). by b opens) (ne_eqb s.count 0 e))

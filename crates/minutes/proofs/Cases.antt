-- The minutes of a day, by what each check says and by how the day went.
use Rattle.std.specs.Prelude.{Ok, Err}
use Prim.Native.Nat.{ℕ, zero, suc, ◌*◌, ◌≤◌, zero-le}
use native.Mathlib.Nat.{le_trans}
use native.Mathlib.Omega.{arith}
use mathlib.Core.Path.{◌≡◌, sym, ap, subst, ◌∙◌}
use mathlib.Core.List.{List}
use lib.ListN.{length}
use Rattle.answers.specs.Results.{Answer}
use Rattle.answers.specs.Results.{Outcome}
use Rattle.answers.specs.Chain.{and_then}
use Rattle.text.specs.Number.{width_of}
use Rattle.text.specs.Lines.{start_is, lines_inside}
use Rattle.event_log.specs.declared.Event.{Event}
use Rattle.event_log.specs.Line.{line_fixed}
use Rattle.event_log.specs.Read.{is_numbered, bytes_in, whole_lines, event_at, log_read}
use Rattle.sides.specs.declared.Monitor.{Monitor}
use Rattle.opened.specs.declared.Opened.{Opened}
use Rattle.opened.specs.Lent.{Lent}
use Rattle.opened.specs.Opened.{fair_in, label_in, next_in, opened_of}
use Rattle.opened.proofs.Fits.{opened_lent}
use Rattle.stretches.specs.declared.DaySheet.{DaySheet}
use Rattle.stretches.specs.Sheet.{empty_sheet}
use Rattle.day_sheet.specs.declared.Noted.{Noted}
use Rattle.day_sheet.specs.Calls.{noted_of}
use Rattle.day_log.specs.declared.DayWent.{DayWent}
use Rattle.day_log.specs.Day.{takes, go_on, day_to, day_of}
use Rattle.minutes.specs.declared.Minutes.{Minutes}
use Rattle.minutes.specs.Minutes.{at_line, minutes_by, minutes_in, minutes_from, minutes_of}

-- ---- no more lines are taken than there are

few_takes : (w : DayWent) (x : Noted) (a : Answer) → (takes w x a).done ≤ suc w.done
few_takes w x (Ok l) = omega arith
few_takes w x (Err r) = omega arith

module _ (note : Monitor → DaySheet → Event → Noted) (m : Monitor) (s : DaySheet) (event : ℕ → Event) where
  few_on : (w : DayWent) (e : Event) (o : Outcome) → (go_on note w e o).done ≤ suc w.done
  few_on w e (Ok _) = few_takes w (note w.monitor w.sheet e) (note w.monitor w.sheet e).answer
  few_on w e (Err r) = omega arith

  one_more : (a b : ℕ) → a ≤ b → suc a ≤ suc b
  one_more a b h = omega arith

  few : (n : ℕ) → (day_to note m s event n).done ≤ n
  unfolding day_to
  few zero = zero-le
  few (suc n) = let w = day_to note m s event n in le_trans (few_on w (event n) w.outcome) (one_more w.done n (few n))

-- ---- how the day went

module _ (o : Opened) (log : List ℕ) where
  abbrev width : ℕ
  width = width_of o.table.plant.props

  abbrev day_with : DaySheet → DayWent
  day_with s = day_of o.table.plant (fair_in o.table) (label_in o.table) (next_in o.table) o.rule o.live o.monitor s log

  module _ {day : DaySheet} (empty : day ≡ empty_sheet) {w : DayWent} (e : w ≡ day_with day) {bytes : ℕ} (wide : bytes ≡ bytes_in width log) where
    -- the line behind the events taken is within the text
    pub line_within : w.done * bytes ≤ length log
    line_within =
        lines_inside bytes (length log) w.done (omega (arith, wide, (line_fixed (is_numbered log) width).some))
        (rw wide (subst (λ (x : DayWent). x.done ≤ whole_lines width log) (sym e)
        (few (noted_of o.table.plant (fair_in o.table) (label_in o.table) (next_in o.table) o.rule o.live) o.monitor day (event_at width log) (whole_lines width log))))

    pub went_so : {x : Outcome} → x ≡ at_line (w.done * bytes) w.outcome → ◌≡◌ {A = Minutes} (record { outcome = x; sheet = w.sheet }) (minutes_in (Ok tt) o log)
    went_so is =
        ap (λ (x : Outcome). record { outcome = x; sheet = w.sheet })
        (is ∙ ap (λ (b : ℕ). at_line (w.done * b) w.outcome) wide ∙ ap (λ (n : ℕ). at_line n w.outcome) (sym (start_is (bytes_in width log) w.done)))
        ∙ ap (minutes_by (bytes_in width log)) (e ∙ ap day_with empty)

-- ---- by what a check said

pub noted_by_lem : (o : Opened) (log : List ℕ) {x y z : Outcome} → x ≡ y → x ≡ z → {c : Minutes} → c ≡ minutes_in z o log → c ≡ minutes_in y o log
noted_by_lem o log e f is = is ∙ ap (λ (x : Outcome). minutes_in x o log) (sym f ∙ e)

module _ (table rule : List ℕ) {o : Opened} (e : o ≡ opened_of table rule) where
  pub opened_by_lem : (log : List ℕ) {x : Outcome} → o.outcome ≡ x → {c : Minutes}
      → c ≡ minutes_in (and_then x (log_read (width_of o.table.plant.props) log).outcome) o log → c ≡ minutes_of table rule log
  unfolding minutes_of
  opened_by_lem log f is =
      is ∙ ap (λ (x : Outcome). minutes_in (and_then x (log_read (width_of o.table.plant.props) log).outcome) o log) (sym f) ∙ ap (λ (x : Opened). minutes_from x log) e

  pub lent_by : Lent o.table
  lent_by = subst (λ (x : Opened). Lent x.table) (sym e) (opened_lent table rule)

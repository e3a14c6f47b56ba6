-- What a whole log is answered and where it ends, by what each check says and by how its course went.
use Rattle.std.specs.Prelude.{Ok, Err}
use Prim.Native.Nat.{ℕ, ◌*◌, ◌≤◌}
use native.Mathlib.Nat.{le_trans}
use native.Mathlib.Omega.{arith}
use mathlib.Core.Path.{◌≡◌, refl, sym, ap, subst, ◌∙◌}
use mathlib.Core.List.{List}
use lib.Dec.{leb}
use lib.ListN.{length, length-map}
use borrow.Author.Tests.{leb-true}
use Rattle.answers.specs.declared.Kind.TheVariants.{Room}
use Rattle.answers.specs.Results.{Outcome}
use Rattle.text.specs.Number.{width_of}
use Rattle.text.specs.Lines.{line_start, start_is, lines_inside}
use Rattle.syntax.specs.declared.Rule.{Rule}
use Rattle.event_log.specs.Line.{line_fixed}
use Rattle.event_log.specs.Read.{is_numbered, bytes_in, event_at, whole_lines, log_read}
use Rattle.event_log.proofs.Promises.{accepted_text}
use Rattle.event_log.proofs.Forms.{lines_many}
use Rattle.answers.specs.Chain.{and_then, unless, chain_accepts, unless_accepts}
use Rattle.course.specs.declared.Went.{Went}
use Rattle.course.specs.Laid.{laid, laid_over}
use Rattle.course.specs.Course.{verdict_bytes, Followed}
use Rattle.course.specs.Lamps.{Counted, counted}
use Rattle.opened.specs.declared.Opened.{Opened}
use Rattle.opened.specs.Lent.{Lent}
use Rattle.opened.specs.Opened.{fair_in, label_in, next_in, opened_of}
use Rattle.opened.specs.Fits.{Fits}
use Rattle.opened.proofs.Fits.{opened_lent, opened_fits, opened_short}
use Rattle.controller.specs.declared.LogEnd.{LogEnd}
use Rattle.controller.specs.declared.LogAnswer.{LogAnswer}
use Rattle.controller.specs.Whole.{Says, course_from, log_checked, end_at, heard_in, heard_from, heard_of, end_in, end_from, end_of}

-- ---- the log and the buffer

module _ (props : ℕ) (log : List ℕ) (room : ℕ) where
  -- behind the checks there is a byte for each line
  pub log_fits : {o : Outcome} → o ≡ log_checked props log room → o ≡ Ok tt → whole_lines (width_of props) log ≤ room
  unfolding log_checked
  log_fits e f =
      let read = log_read (width_of props) log in
      let (formed, much) = (chain_accepts read.outcome (unless (leb read.lines room) Room)).0 (sym e ∙ f) in
      let (es, ok, small, lines, at) = accepted_text (width_of props) log formed in
      omega (arith, leb-true read.lines room ((unless_accepts (leb read.lines room) Room).0 much), lines, (lines_many (width_of props) es log ok small).0)

-- ---- by what a check said

module _ {before now : List ℕ} {r : LogAnswer} where
  pub heard_by_lem : (o : Opened) (log : List ℕ) {x y z : Outcome} → x ≡ y → x ≡ z → Says (heard_in z o log) before now r → Says (heard_in y o log) before now r
  heard_by_lem o log e f h = subst (λ (x : Outcome). Says (heard_in x o log) before now r) (sym f ∙ e) h

module _ (table rule : List ℕ) {o : Opened} (e : o ≡ opened_of table rule) where
  pub opened_by_lem : (log : List ℕ) (room : ℕ) {x : Outcome} → o.outcome ≡ x → {before now : List ℕ} {r : LogAnswer}
      → Says (heard_in (and_then x (log_checked o.table.plant.props log room)) o log) before now r → Says (heard_of table rule log room) before now r
  unfolding heard_of
  opened_by_lem log room f {before} {now} {r} h =
      subst (λ (x : Opened). Says (heard_from x log room) before now r) e
      (subst (λ (x : Outcome). Says (heard_in (and_then x (log_checked o.table.plant.props log room)) o log) before now r) (sym f) h)

  -- what was opened may be followed
  pub lent_by : Lent o.table
  lent_by = subst (λ (x : Opened). Lent x.table) (sym e) (opened_lent table rule)

  pub fits_by : o.outcome ≡ Ok tt → Fits o
  fits_by f = subst Fits (sym e) (opened_fits table rule (ap (λ (x : Opened). x.outcome) (sym e) ∙ f))

-- ---- the course of the log

module _ (o : Opened) (log : List ℕ) where
  abbrev width : ℕ
  width = width_of o.table.plant.props

  -- its events are counted
  pub told : Counted (whole_lines width log) (course_from o log)
  told = counted o.table.plant (fair_in o.table) (label_in o.table) (next_in o.table) o.rule o.live o.monitor (event_at width log) (whole_lines width log)

  module _ {verdicts₀ lefts₀ numbers₀ verdicts lefts numbers : List ℕ} {w : Went} (f : Followed (course_from o log) verdicts₀ lefts₀ numbers₀ verdicts lefts numbers w)
      {bytes : ℕ} (wide : bytes ≡ bytes_in width log) where
    -- the line behind the events taken is within the text
    pub line_within : w.done * bytes ≤ length log
    line_within =
        lines_inside bytes (length log) w.done (omega (arith, wide, (line_fixed (is_numbered log) width).some))
        (rw wide (omega (arith, told.few, told.done, ap (λ (x : Went). x.done) f.went)))

    pub ends_so : {a : LogAnswer} → a ≡ end_at (w.done * bytes) w.outcome w.done → record { answer = a; table = o.table; rule = o.rule; last = w.monitor } ≡ end_in (Ok tt) o log
    ends_so {a} e = λ i. record { answer = answer i; table = o.table; rule = o.rule; last = (f.went i).monitor }
      where
        answer : a ≡ (heard_in (Ok tt) o log).answer
        answer = rw (wide, ← start_is (bytes_in width log) w.done) at e ∙ ap (λ (x : Went). end_at (line_start (bytes_in width log) x.done) x.outcome x.done) f.went

  -- with a byte for each line there is room for all verdicts
  pub heard_so : {before now : List ℕ} {e : LogEnd} → whole_lines width log ≤ length before → e ≡ end_in (Ok tt) o log → now ≡ laid (verdict_bytes (course_from o log).lamps) before
      → Says (heard_in (Ok tt) o log) before now e.answer
  heard_so {before} room e is = record {
    answer = ap (λ (x : LogEnd). x.answer) e;
    bytes = is ∙ laid_over (verdict_bytes (course_from o log).lamps) before (rw length-map (le_trans told.few room));
  }

-- ---- where it ends

pub end_from_lem : (table rule log : List ℕ) {o : Opened} → o ≡ opened_of table rule → {x : Outcome} → o.outcome ≡ x → {r : LogEnd}
    → r ≡ end_in (and_then x (log_read (width_of o.table.plant.props) log).outcome) o log → r ≡ end_of table rule log
unfolding end_of
end_from_lem table rule log {o} e f is =
    is ∙ ap (λ (x : Outcome). end_in (and_then x (log_read (width_of o.table.plant.props) log).outcome) o log) (sym f) ∙ ap (λ (x : Opened). end_from x log) e

-- the table and the rule are those that were opened, so the table's parts can be lent, and the rule is not too long
table_stands : (x : Outcome) (o : Opened) (log : List ℕ) → (end_in x o log).table ≡ o.table
table_stands (Ok _) o log = refl
table_stands (Err r) o log = refl

rule_stands : (x : Outcome) (o : Opened) (log : List ℕ) → (end_in x o log).rule ≡ o.rule
rule_stands (Ok _) o log = refl
rule_stands (Err r) o log = refl

module _ (table rule log : List ℕ) {e : LogEnd} (is : e ≡ end_of table rule log) where
  abbrev checked_by : Outcome
  checked_by = and_then (opened_of table rule).outcome (log_read (width_of (opened_of table rule).table.plant.props) log).outcome

  pub end_lent : Lent e.table
  unfolding end_of
  end_lent = subst Lent (sym (ap (λ (x : LogEnd). x.table) is ∙ table_stands checked_by (opened_of table rule) log)) (opened_lent table rule)

  pub end_short : e.rule.len ≤ 32
  unfolding end_of
  end_short = subst (λ (r : Rule). r.len ≤ 32) (sym (ap (λ (x : LogEnd). x.rule) is ∙ rule_stands checked_by (opened_of table rule) log)) (opened_short table rule)

-- A DAY OF A C PROGRAM. From the texts on, whatever events are noted, those that are refused among them: the words of the day hold the sheet worked out afresh from the events that were
-- accepted, and the box the monitor beside it: `notes_right`.
use Rattle.std.specs.Prelude.{ℕ, ◌+◌, ◌-◌, ◌≡◌, Bool, cond, eqb, ltb, length, get_or, set, Ok, Err}
use Rattle.std.proofs.Math.Path.{refl, ap, ap₂, subst}
use Rattle.std.proofs.Common.{sym, ◌∙◌, length-set}
use Rattle.std.proofs.Math.Bool.{true, false}
use mathlib.Core.List.{List, [], ◌∷◌, foldl}
use Rattle.meaning.specs.Formula.{Formula}
use Rattle.meaning.specs.Run as run
use Rattle.words.specs.Lists.{length_list}
use Rattle.pairs.specs.declared.Pairs.{Pairs}
use Rattle.model.specs.Sets.{PairSet}
use Rattle.answers.specs.declared.Verdict.{Verdict}
use Rattle.answers.specs.Results as answers
use Rattle.plant.specs.declared.Table.{Table}
use Rattle.plant.specs.Table.{plant_of}
use Rattle.syntax.specs.Value.{formula_of}
use Rattle.event_log.specs.declared.Event.{Event}
use Rattle.checks.specs.Checks.{input_outcome}
use Rattle.sides.specs.declared.Monitor.{Monitor}
use Rattle.monitor.specs.declared.Watched.{Watched}
use Rattle.watching.specs.Watching.{live_fits}
use Rattle.opened.specs.declared.Opened.{Opened}
use Rattle.opened.specs.Opened.{fair_in, label_in, next_in, opened_of}
use Rattle.slate.specs.declared.Held.{Held}
use Rattle.slate.specs.Box.{held_in, with_monitor}
use Rattle.slate.specs.Promises.{changed}
use Rattle.stretches.specs.declared.DaySheet.{DaySheet}
use Rattle.stretches.specs.Sheet.{blank, empty_sheet, first_line, more_line, begun_by, gone_on_by, noted_by}
use Rattle.day_sheet.specs.declared.Noted.{Noted}
use Rattle.day_sheet.specs.Afresh.{Numbered, numbered_by, verdict_in}
use Rattle.day_sheet.specs.Calls.{Day, opens_of, note_step, sheet_after, is_full, refused_with, note_by, overfull_by, noted_of}
use Rattle.day_sheet.proofs.Promises.{lines_after, begun, noted_through, accepted_ones, always_afresh}
use Rattle.day_words.specs.Words.{line_in, lines_in, sheet_in}
use Rattle.day_words.specs.Promises.{stored_back}
use Rattle.box_calls.specs.Calls.{held_of, box_opened, stepped_in, box_by}
use Rattle.box_day.specs.Day.{noted_in, box_noted, day_noted}
use Rattle.box_promises.specs.Promises.{step_held, opened_begun, opened_right}

-- ---- a sheet has 64 lines, whatever is noted

long_begun : (s : DaySheet) (n : ℕ) (v : Verdict) → length s.lines ≡ 64 → length (begun_by s n v).lines ≡ 64
unfolding begun_by
long_begun s n v h = by (ltb s.count 64)
  where
    by : (b : Bool) → length (cond b (record { count = s.count + 1; lines = set s.lines s.count (first_line n v) }) s).lines ≡ 64
    by true = length-set s.lines s.count (first_line n v) ∙ h
    by false = h

long_gone : (s : DaySheet) (n : ℕ) (v : Verdict) → length s.lines ≡ 64 → length (gone_on_by s n v).lines ≡ 64
unfolding gone_on_by
long_gone s n v h = length-set s.lines (s.count - 1) (more_line (get_or s.lines (s.count - 1) blank) n v) ∙ h

long_noted : (s : DaySheet) (opens : Bool) (n : ℕ) (v : Verdict) → length s.lines ≡ 64 → length (noted_by s opens n v).lines ≡ 64
unfolding noted_by
long_noted s opens n v h = by (eqb s.count 0) opens
  where
    by : (none opens : Bool) → length (cond none (begun_by s n v) (cond opens (begun_by s n v) (gone_on_by s n v))).lines ≡ 64
    by true opens = long_begun s n v h
    by false true = long_begun s n v h
    by false false = long_gone s n v h

long_all : (T : run.Plant) (f : Formula) (live : List ℕ) (ns : List Numbered) (d : Day) → length d.sheet.lines ≡ 64 → length (foldl (note_step T f live) d ns).sheet.lines ≡ 64
long_all T f live [] d h = h
long_all T f live (x ∷ ns) d h =
    let e = note_step T f live d x in
    long_all T f live ns e (long_noted d.sheet (opens_of d.monitor.seen x.event.new) x.number (verdict_in e.monitor) h)

-- ---- noting in the words is noting in what they hold

-- the words of a box, and of the day beside it
pub record BoxAndDay : Type 0 where
  pub box : List ℕ
  pub day : List ℕ

module _ (w d : List ℕ) (e : Event) where
  abbrev t : Table
  t = (held_in w).table

  abbrev m : Monitor
  m = (held_in w).monitor

  abbrev s : DaySheet
  s = sheet_in d

  abbrev stepped : Watched
  stepped = stepped_in (held_in w) e

  abbrev new : DaySheet
  new = sheet_after (plant_of t.plant (fair_in t) (label_in t) (next_in t)) (formula_of (held_in w).rule) (held_in w).live.words m s e

  -- both hold what was answered
  abbrev HeldBy : Noted → Type 0
  HeldBy n = (held_in (box_noted w n) ≡ changed (held_in w) n.monitor) × (sheet_in (day_noted d n) ≡ n.sheet)

  new_long : length new.lines ≡ 64
  unfolding sheet_in lines_in
  new_long = long_all _ _ _ (numbered_by m.seen m.expected e) _ (length_list 64 (line_in d))

  by_answer : (a : answers.Answer) → stepped.answer ≡ a → (full : Bool) → HeldBy (note_by stepped a full m s (λ v. new))
  by_answer (Err r) g full = (refl, refl)
  by_answer (Ok l) g true = (refl, refl)
  by_answer (Ok l) g false = (
    ap held_in (sym (ap (λ (a : answers.Answer). box_by a (with_monitor w stepped.monitor) w) g)) ∙ step_held w e,
    stored_back d new new_long,
  )

  note_held : HeldBy (noted_in (held_in w) (sheet_in d) e)
  unfolding noted_in noted_of stepped_in
  note_held = by (ltb 64 s.count)
    where
      by : (many : Bool) → HeldBy (cond many (refused_with (overfull_by (input_outcome t.plant (fair_in t) (label_in t) (next_in t) (held_in w).rule)) m s)
          (note_by stepped stepped.answer (is_full s m.seen e.new) m s (λ v. new)))
      by true = (refl, refl)
      by false = by_answer stepped.answer refl (is_full s m.seen e.new)

abbrev note_in : BoxAndDay → Event → BoxAndDay
note_in x e = record { box = box_noted x.box (noted_in (held_in x.box) (sheet_in x.day) e); day = day_noted x.day (noted_in (held_in x.box) (sheet_in x.day) e) }

-- the words after events are noted one after the other
unfoldable pub noted_all : BoxAndDay → List Event → BoxAndDay
noted_all x es = foldl note_in x es

-- ---- from the texts on

module _ (table rule : List ℕ) (ok : (opened_of table rule).outcome ≡ Ok tt) where
  abbrev o : Opened
  o = opened_of table rule

  abbrev calls : Monitor → DaySheet → Event → Noted
  calls = noted_of o.table.plant (fair_in o.table) (label_in o.table) (next_in o.table) o.rule o.live

  -- box and day hold what was opened, and the monitor and the sheet of an answer
  abbrev Hold : BoxAndDay → Noted → Type 0
  Hold x n = (held_in x.box ≡ changed (held_of o) n.monitor) × (sheet_in x.day ≡ n.sheet)

  one_on : (x : BoxAndDay) (n : Noted) (e : Event) → Hold x n → Hold (note_in x e) (calls n.monitor n.sheet e)
  unfolding noted_in
  one_on x n e (box, day) =
      let same : noted_in (held_in x.box) (sheet_in x.day) e ≡ calls n.monitor n.sheet e = ap₂ (λ (h : Held) (s : DaySheet). noted_in h s e) box day in
      let both = note_held x.box x.day e in (
        both.0 ∙ ap₂ (λ (h : Held) (a : Noted). changed h a.monitor) box same,
        both.1 ∙ ap (λ (a : Noted). a.sheet) same,
      )

  all_on : (es : List Event) (x : BoxAndDay) (n : Noted) → Hold x n → Hold (foldl note_in x es) (foldl (λ (n : Noted) e. calls n.monitor n.sheet e) n es)
  all_on [] x n h = h
  all_on (e ∷ es) x n h = all_on es (note_in x e) (calls n.monitor n.sheet e) (one_on x n e h)

  -- THE WORDS AFTER ANY EVENTS, from a box that was opened, whatever was in it, and a day that holds the empty sheet, as zeros do (`zero_empty`)
  pub notes_right : (w d : List ℕ) → sheet_in d ≡ empty_sheet → (es : List Event)
      → (held_in (noted_all (record { box = box_opened w o; day = d }) es).box
      ≡ changed (held_of o) (noted_through o.table.plant (fair_in o.table) (label_in o.table) (next_in o.table) o.rule o.live es).monitor)
      × (sheet_in (noted_all (record { box = box_opened w o; day = d }) es).day
      ≡ lines_after o.table.plant (fair_in o.table) (label_in o.table) (next_in o.table) o.rule o.live
      (accepted_ones o.table.plant (fair_in o.table) (label_in o.table) (next_in o.table) o.rule o.live es))
  unfolding noted_all noted_through
  notes_right w d none es =
      let b = opened_begun table rule ok in
      let fits = subst (λ (l : Pairs). PairSet (plant_of o.table.plant (fair_in o.table) (label_in o.table) (next_in o.table)) (formula_of o.rule) l.words) (sym b.live)
      (live_fits o.table.plant (fair_in o.table) (label_in o.table) (next_in o.table) o.rule b.given) in
      let first = begun o.table.plant (fair_in o.table) (label_in o.table) (next_in o.table) o.rule o.live in
      let held = all_on es (record { box = box_opened w o; day = d }) first (opened_right table rule ok w ∙ ap (changed (held_of o)) b.monitor, none) in
      (held.0, held.1 ∙ always_afresh o.table.plant (fair_in o.table) (label_in o.table) (next_in o.table) o.rule o.live b.given fits es)

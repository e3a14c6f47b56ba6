-- WHAT IS PROMISED OF THE BOX. From the texts on, whatever steps come: `opens_right`, `opened_right`, `steps_right`, `answers_right`. A refusal leaves it: `refused_stays`, `unopened_stays`.
-- Nothing is cut off silently: `beyond_look`, `beyond_step`, `beyond_run`.
use Prim.Native.Nat.{ℕ, ◌+◌}
use Rattle.std.specs.Prelude.{◌≡◌, Bool, true, false, length, Ok, Err}
use Rattle.std.proofs.Math.Path.{refl, ap}
use Rattle.std.proofs.Common.{sym, ◌∙◌, arith}
use mathlib.Core.List.{List, [], ◌∷◌, ◌++◌, foldl, foldl-append}
use Rattle.meaning.specs.Run as run
use Rattle.meaning.specs.Event as meaning
use Rattle.meaning.specs.Formula.{Formula}
use Rattle.words.specs.Lists.{length_list, length_words}
use Rattle.model.specs.Monitor as model
use Rattle.answers.specs.declared.Kind.{Kind}
use Rattle.answers.specs.declared.Kind.TheVariants.{Counts, Bits, TableText, RuleLength, RuleText, Proposition, Nodes, Parts, Value, IllegalEvent, Room, LogText, NoPair, File, Rows, Number, NoKey, SheetText, NotNewer, NotHeld, ClosingEdition, RunLength, Stretches, LogLength}
use Rattle.answers.specs.Results as answers
use Rattle.answers.specs.Results.{Outcome}
use Rattle.answers.specs.Paper.{kind_number, refused_at}
use Rattle.answers.specs.Chain.{refused_as, chain_accepts}
use Rattle.pairs.specs.declared.Pairs.{Pairs}
use Rattle.plant.specs.declared.Table.{Table}
use Rattle.plant.specs.Read.{table_read}
use Rattle.plant.specs.Table.{plant_of, table_outcome}
use Rattle.plant.specs.Check.{accepted_exactly}
use Rattle.syntax.specs.declared.Rule.{Rule}
use Rattle.rule_text.specs.Reading.{rule_read}
use Rattle.event_log.specs.declared.Event.{Event}
use Rattle.checks.specs.Checks.{input_outcome}
use Rattle.checks.specs.Input.{Input}
use Rattle.syntax.specs.Value.{formula_of}
use Rattle.sides.specs.declared.Monitor.{Monitor}
use Rattle.sides.specs.Held.{model_of, monitor_of, lamp_in}
use Rattle.event_numbers.specs.Numbers.{number_of, brings}
use Rattle.live.specs.Prepare.{prepared_of}
use Rattle.live.specs.Promises.{prepare_accepted}
use Rattle.monitor.specs.declared.Watched.{Watched}
use Rattle.monitor.specs.Calls.{watched, open_call, look_call, step_call, step_checked}
use Rattle.watching.specs.Watching.{after, opens, live_fits}
use Rattle.witness.specs.Calls.{witness_outcome, asked_of}
use Rattle.opened.specs.declared.Opened.{Opened}
use Rattle.opened.specs.Opened.{made, or_refused, fair_in, label_in, next_in, rule_opened, parts_opened, table_opened, opened_of}
use Rattle.slate.specs.declared.Held.{Held}
use Rattle.slate.specs.Box.{fits_in, words_in, props_in, table_in, monitor_in, held_in, stored_of, with_monitor}
use Rattle.slate.specs.Promises.{stored_back, changed, monitor_back, counted_fits}
use Rattle.told.specs.declared.Answer.{Answer}
use Rattle.told.specs.Told.{shown_as}
use Rattle.box_calls.specs.Calls.{shown_or, opened_shown, held_of, or_old, box_opened, looked_in, stepped_in, box_by, box_after}
use Rattle.box_promises.specs.Typed.{rule_full, opened_typed}

-- ---- a refusal leaves the box

some_number : (k : Kind) → kind_number k ≡ 0 → ⊥
some_number Counts e = omega arith
some_number Bits e = omega arith
some_number TableText e = omega arith
some_number RuleLength e = omega arith
some_number RuleText e = omega arith
some_number Proposition e = omega arith
some_number Nodes e = omega arith
some_number Parts e = omega arith
some_number Value e = omega arith
some_number IllegalEvent e = omega arith
some_number Room e = omega arith
some_number LogText e = omega arith
some_number NoPair e = omega arith
some_number File e = omega arith
some_number Rows e = omega arith
some_number Number e = omega arith
some_number NoKey e = omega arith
some_number SheetText e = omega arith
some_number NotNewer e = omega arith
some_number NotHeld e = omega arith
some_number ClosingEdition e = omega arith
some_number RunLength e = omega arith
some_number Stretches e = omega arith
some_number LogLength e = omega arith

-- a step that answers another number than 0 leaves every word
pub refused_stays : (w : List ℕ) (s : Watched) → ((shown_as s.answer).number ≡ 0 → ⊥) → box_after w s ≡ w
refused_stays w s = go s.answer
  where
    go : (a : answers.Answer) → ((shown_as a).number ≡ 0 → ⊥) → box_by a (with_monitor w s.monitor) w ≡ w
    go (Ok l) other = absurd (other refl)
    go (Err r) other = refl

-- and any other was taken
pub taken_changes : (w : List ℕ) (s : Watched) → (shown_as s.answer).number ≡ 0 → box_after w s ≡ with_monitor w s.monitor
taken_changes w s = go s.answer
  where
    go : (a : answers.Answer) → (shown_as a).number ≡ 0 → box_by a (with_monitor w s.monitor) w ≡ with_monitor w s.monitor
    go (Ok l) zero = refl
    go (Err r) zero = absurd (some_number r.kind zero)

-- texts that are refused leave it too
pub unopened_stays : (w : List ℕ) (o : Opened) → ((shown_as (opened_shown o)).number ≡ 0 → ⊥) → box_opened w o ≡ w
unopened_stays w o = go o.outcome
  where
    go : (x : Outcome) → ((shown_as (shown_or x (lamp_in (model_of o.monitor)))).number ≡ 0 → ⊥) → or_old x (stored_of (held_of o)) w ≡ w
    go (Ok _) other = absurd (other refl)
    go (Err r) other = refl

-- ---- nothing is cut off silently: words that do not fit are a table that counts no proposition, and every call refuses it by 1

module _ (w : List ℕ) (beyond : fits_in w ≡ false) where
  abbrev h : Held
  h = held_in w

  no_table : table_outcome h.table.plant (fair_in h.table) (label_in h.table) (next_in h.table) ≡ refused_as Counts
  unfolding held_in table_in props_in
  no_table = rw beyond refl

  no_input : input_outcome h.table.plant (fair_in h.table) (label_in h.table) (next_in h.table) h.rule ≡ refused_as Counts
  unfolding input_outcome
  no_input = rw no_table refl

  pub beyond_look : looked_in h ≡ Err (refused_at Counts 0)
  unfolding looked_in look_call
  beyond_look = rw no_input refl

  pub beyond_step : (e : Event) → (stepped_in h e).answer ≡ Err (refused_at Counts 0)
  unfolding stepped_in step_call
  beyond_step e = rw no_input refl

  pub beyond_run : (keeps : Bool) (room : ℕ) → witness_outcome h.table.plant (fair_in h.table) (label_in h.table) (next_in h.table) h.rule h.monitor keeps room ≡ refused_as Counts
  unfolding witness_outcome asked_of
  beyond_run keeps room = rw no_input refl

-- ---- a step on the words is the step on what they hold

-- a monitor's sets have 64 words, whatever events come
module _ (T : run.Plant) (f : Formula) (live : List ℕ) where
  long_after : (m : model.Monitor) → length m.keeps ≡ 64 → length m.breaks ≡ 64 → (es : List meaning.Event)
      → let n = foldl (model.step_of T f live) m es in (length n.keeps ≡ 64) × (length n.breaks ≡ 64)
  unfolding model.step_of model.kept_of
  long_after m k b [] = (k, b)
  long_after m k b (e ∷ es) = long_after (model.step_of T f live m e) (length_words _ _) (length_words _ _) es

module _ (w : List ℕ) (e : Event) where
  abbrev t : Table
  t = (held_in w).table

  abbrev m : Monitor
  m = (held_in w).monitor

  abbrev checks : Outcome
  checks = step_checked t.plant (fair_in t) (label_in t) (next_in t) (held_in w).rule (held_in w).live m e

  abbrev new : model.Monitor
  new = foldl (model.step_of (plant_of t.plant (fair_in t) (label_in t) (next_in t)) (formula_of (held_in w).rule) (held_in w).live.words) (model_of m) (brings m.seen m.expected e)

  -- what is accepted counts a proposition
  checks_fit : checks ≡ Ok tt → fits_in w ≡ true
  unfolding input_outcome
  checks_fit ok =
      let first = ((chain_accepts _ _).0 ok).0 in
      let input = ((chain_accepts _ _).0 first).0 in
      let table = ((chain_accepts _ _).0 input).0 in
      counted_fits w ((accepted_exactly t.plant (fair_in t) (label_in t) (next_in t)).0 table).1.some_props

  new_long : (length new.keeps ≡ 64) × (length new.breaks ≡ 64)
  unfolding held_in monitor_in words_in
  new_long = long_after _ _ _ (model_of m) (length_list 64 _) (length_list 64 _) (brings m.seen m.expected e)

  pub step_held : held_in (box_after w (stepped_in (held_in w) e)) ≡ changed (held_in w) (stepped_in (held_in w) e).monitor
  unfolding stepped_in step_call
  step_held = go checks checks_fit
    where
      n : ℕ
      n = number_of e.num m.expected + 1

      go : (o : Outcome) → (o ≡ Ok tt → fits_in w ≡ true) → held_in (box_after w (watched o m n new)) ≡ changed (held_in w) (watched o m n new).monitor
      go (Ok _) fit = monitor_back w (monitor_of n new) (fit refl) (record { keeps = new_long.0; breaks = new_long.1 })
      go (Err r) fit = refl

-- ---- from the texts on

-- what was opened is an accepted table and rule, and what `prepare` and `open` give; its lamp is the one that `open` shows
pub record Begun (o : Opened) : Type 0 where
  pub given : Input o.table.plant (fair_in o.table) (label_in o.table) (next_in o.table) o.rule
  pub live : o.live ≡ (prepared_of o.table.plant (fair_in o.table) (label_in o.table) (next_in o.table) o.rule).live
  pub monitor : o.monitor ≡ (open_call o.table.plant (fair_in o.table) (label_in o.table) (next_in o.table) o.rule o.live).monitor
  pub lamp : shown_as (opened_shown o) ≡ shown_as (open_call o.table.plant (fair_in o.table) (label_in o.table) (next_in o.table) o.rule o.live).answer

abbrev pub BegunIfOpened : Opened → Type 0
BegunIfOpened o = o.outcome ≡ Ok tt → Begun o

begun_by_lem : (o : Outcome) (x : Opened) → (o ≡ Ok tt → BegunIfOpened x) → BegunIfOpened (or_refused o x)
begun_by_lem (Ok _) x h = h refl
begun_by_lem (Err r) x h = λ e. absurd (let z : ◌≡◌ {A = ℕ} 0 1 = cc in omega arith)

rule_begun : (t : Table) (rule : Rule) → length rule.nodes ≡ 32 → BegunIfOpened (rule_opened t (fair_in t) (label_in t) (next_in t) rule)
unfolding rule_opened
rule_begun t rule full =
    let prepared = prepared_of t.plant (fair_in t) (label_in t) (next_in t) rule in
    begun_by_lem prepared.outcome (made t rule prepared.live (open_call t.plant (fair_in t) (label_in t) (next_in t) rule prepared.live).monitor)
    (λ ok _. let given = (prepare_accepted t.plant (fair_in t) (label_in t) (next_in t) rule full).0 ok in
    record {
      given = given;
      live = refl;
      monitor = refl;
      lamp = rw (opens t.plant (fair_in t) (label_in t) (next_in t) rule given prepared.live (live_fits t.plant (fair_in t) (label_in t) (next_in t) rule given)) refl;
    })

pub opened_begun : (table rule : List ℕ) → BegunIfOpened (opened_of table rule)
unfolding opened_of parts_opened
opened_begun table rule =
    let t = (table_read table).table in
    let read = rule_read t.plant (fair_in t) (label_in t) (next_in t) rule in
    begun_by_lem (table_read table).outcome (table_opened t rule)
    (λ ok. begun_by_lem read.outcome (rule_opened t (fair_in t) (label_in t) (next_in t) read.rule) (λ good. rule_begun t read.rule (rule_full table rule ok good)))

-- the words after events, each taken or refused
unfoldable pub box_through : List ℕ → List Event → List ℕ
box_through w es = foldl (λ w e. box_after w (stepped_in (held_in w) e)) w es

module _ (table rule : List ℕ) (ok : (opened_of table rule).outcome ≡ Ok tt) where
  abbrev o : Opened
  o = opened_of table rule

  -- what `step` gives, event after event, from what `open` gives
  abbrev pub called : List Event → Watched
  called es = after o.table.plant (fair_in o.table) (label_in o.table) (next_in o.table) o.rule es

  -- opening answers what `open` shows
  pub opens_right : shown_as (opened_shown o) ≡ shown_as (called []).answer
  unfolding after
  opens_right = let b = opened_begun table rule ok in b.lamp ∙ ap (λ (l : Pairs). shown_as (open_call o.table.plant (fair_in o.table) (label_in o.table) (next_in o.table) o.rule l).answer) b.live

  -- what a box holds once it is opened, whatever was in it
  pub opened_right : (w : List ℕ) → held_in (box_opened w o) ≡ held_of o
  opened_right w = rw ok (stored_back (held_of o) (opened_typed table rule ok))

  abbrev stepped : Watched → Event → Watched
  stepped s e = step_call o.table.plant (fair_in o.table) (label_in o.table) (next_in o.table) o.rule o.live s.monitor e

  -- as long as the box holds what was opened with the monitor of the calls
  goes_on : (w : List ℕ) (s : Watched) → held_in w ≡ changed (held_of o) s.monitor → (es : List Event)
      → held_in (foldl (λ w e. box_after w (stepped_in (held_in w) e)) w es) ≡ changed (held_of o) (foldl stepped s es).monitor
  unfolding stepped_in
  goes_on w s is [] = is
  goes_on w s is (e ∷ es) =
      goes_on (box_after w (stepped_in (held_in w) e)) (stepped s e)
      (step_held w e ∙ ap (λ (x : Held). changed x (stepped_in x e).monitor) is) es

  -- THE BOX HOLDS, after any events, what was opened and the monitor that the calls give for them
  pub steps_right : (w : List ℕ) (es : List Event) → held_in (box_through (box_opened w o) es) ≡ changed (held_of o) (called es).monitor
  unfolding box_through after
  steps_right w es =
      let b = opened_begun table rule ok in
      let first = open_call o.table.plant (fair_in o.table) (label_in o.table) (next_in o.table) o.rule o.live in
      goes_on (box_opened w o) first (opened_right w ∙ ap (changed (held_of o)) b.monitor) es
      ∙ ap (λ (l : Pairs). changed (held_of o) (from l es).monitor) b.live
    where
      from : Pairs → List Event → Watched
      from l es = foldl (λ s e. step_call o.table.plant (fair_in o.table) (label_in o.table) (next_in o.table) o.rule l s.monitor e)
          (open_call o.table.plant (fair_in o.table) (label_in o.table) (next_in o.table) o.rule l) es

  -- AND EACH STEP ANSWERS what the call answers for the events up to its own
  pub answers_right : (w : List ℕ) (es : List Event) (e : Event) → shown_as (stepped_in (held_in (box_through (box_opened w o) es)) e).answer ≡ shown_as (called (es ++ e ∷ [])).answer
  unfolding stepped_in after
  answers_right w es e =
      let b = opened_begun table rule ok in
      rw (steps_right w es)
      (ap (λ (l : Pairs). shown_as (step_call o.table.plant (fair_in o.table) (label_in o.table) (next_in o.table) o.rule l (called es).monitor e).answer) b.live
      ∙ ap (λ (s : Watched). shown_as s.answer) (sym (foldl-append _ _ es (e ∷ []))))

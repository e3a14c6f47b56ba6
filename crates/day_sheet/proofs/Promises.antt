-- WHAT IS PROMISED OF NOTING. From what `open` gives and the empty sheet on, whatever events come, the sheet is the one worked out afresh from those that were
-- accepted: `always_afresh`. A refusal changes neither monitor nor sheet: `refused_leaves`. An event that 10 and 16 accept is refused by 23 exactly where the sheet
-- worked out afresh with it would have more than 64 lines: `refused_exactly`.
use Prim.Native.Nat.{ℕ, zero, suc, ◌+◌, ◌-◌, ◌^◌, ◌≤◌, ◌<◌, zero-le}
use Rattle.std.proofs.Common.{arith, ◌∙◌, le-ltb, eq-eqb, eqb-true}
use Rattle.std.proofs.Math.Decide.{dec_lt}
use Rattle.std.specs.Prelude.{◌≡◌, ◌↔◌, ◌&&◌, ltb, replicate, Ok, Err}
use Rattle.std.proofs.Math.Path.{refl, sym, ap, ap₂, subst}
use Rattle.std.proofs.Math.Bool.{Bool, true, false, cond}
use Rattle.std.proofs.lemmas.Bool.{false≢true}
use mathlib.Core.List.{List, [], ◌∷◌, ◌++◌, foldl, foldl-append, append_assoc, append-nil}
use Rattle.std.proofs.Math.Dec.{eqb}
use Rattle.std.proofs.Math.ListN.{length, length-append}
use Rattle.meaning.specs.Formula.{Formula}
use Rattle.meaning.specs.Run as run
use Rattle.meaning.specs.Event as meaning
use Rattle.pairs.specs.declared.Pairs.{Pairs}
use Rattle.model.specs.Sets.{PairSet}
use Rattle.model.specs.Monitor as model
use Rattle.model.proofs.Rule.{opening_sets}
use Rattle.answers.specs.declared.Kind.TheVariants.{IllegalEvent, Stretches, Number as NumberKind}
use Rattle.answers.specs.declared.Refusal.{Refusal}
use Rattle.answers.specs.declared.Lamp.{Lamp}
use Rattle.answers.specs.Results.{Answer}
use Rattle.answers.specs.Results.{Outcome}
use Rattle.answers.specs.Paper.{kind_number, refused_at}
use Rattle.plant.specs.declared.Plant.{Plant}
use Rattle.plant.specs.Table.{plant_of}
use Rattle.syntax.specs.declared.Rule.{Rule}
use Rattle.syntax.specs.Value.{formula_of}
use Rattle.event_log.specs.declared.Event.{Event}
use Rattle.checks.specs.Checks.{input_outcome}
use Rattle.checks.specs.Input.{Input}
use Rattle.sides.specs.declared.Monitor.{Monitor}
use Rattle.event_log.specs.Legal.{event_of, legal_of}
use Rattle.sides.specs.Held.{monitor_of}
use Rattle.event_numbers.specs.Numbers.{number_of, missing_of, first_none, unseen, brings, InTurn, in_turn, event_outcome}
use Rattle.monitor.specs.declared.Watched.{Watched}
use Rattle.monitor.specs.Calls.{watched, open_call, step_call}
use Rattle.watching.specs.Filled.{expected_from, seen_from, filled_from, filled, expected_append}
use Rattle.watching.proofs.Filled.{filled_more}
use Rattle.watching.specs.Watching.{Held, Taken, TakenFrom, AllTaken, brought, brought_sets, run_seen, event_says, checks_pass, opens}
use Rattle.stretches.specs.declared.DaySheet.{DaySheet}
use Rattle.stretches.specs.Sheet.{sheet_of, empty_sheet, noted_by}
use Rattle.stretches.specs.Afresh.{Shown, stretches_from, lines_of}
use Rattle.stretches.proofs.Laws.{Low, lines_opened, same_lines, noted_first, noted_more}
use Rattle.day_sheet.specs.declared.Noted.{Noted}
use Rattle.day_sheet.specs.Afresh.{Numbered, count_from, numbered_by, numbered_from, shown_at, shown_from, shown_of, afresh}
use Rattle.day_sheet.specs.Calls.{Day, opens_of, note_step, sheet_after, is_full, refused_with, note_by, overfull_by, noted_of}
use Rattle.day_sheet.specs.Code.{missing_few}

-- ---- small words

abbrev is_shown : Answer → Bool
is_shown (Ok l) = true
is_shown (Err r) = false

shown_none : {A : Type 0} {r : Refusal} {l : Lamp} → Err r ≡ Ok l → A
shown_none g = absurd (false≢true (ap is_shown g))

-- whether a list has an entry
abbrev some : List Shown → Bool
some [] = false
some (x ∷ xs) = true

some_more : (xs : List Shown) (y : Shown) → some (xs ++ y ∷ []) ≡ true
some_more [] y = refl
some_more (x ∷ xs) y = refl

low_more : (xs : List Shown) (y : Shown) → Low xs → y.number < 2 ^ 32 → Low (xs ++ y ∷ [])
low_more [] y low l = (l, tt)
low_more (x ∷ xs) y (lx, low) l = (lx, low_more xs y low l)

-- behind an event only a restart begins a stretch, and the first event always does
opens_seen : (new : Bool) → opens_of true new ≡ new
opens_seen true = refl
opens_seen false = refl

opens_first : (new : Bool) → opens_of false new ≡ true
opens_first true = refl
opens_first false = refl

module _ (T : run.Plant) (f : Formula) (live : List ℕ) where
  abbrev step : model.Monitor → meaning.Event → model.Monitor
  step = model.step_of T f live

  -- ---- events noted one by one

  -- the sheet beside a monitor is that of the events shown so far
  pub record Fine (d : Day) (xs : List Shown) : Type 0 where
    pub sheet : d.sheet ≡ sheet_of (lines_of xs)
    pub seen : d.monitor.seen ≡ some xs
    pub low : Low xs
    pub room : length (lines_of xs) ≤ 64

  module _ (d : Day) (x : Numbered) where
    abbrev y : Shown
    y = shown_at T f live d.monitor x

    abbrev opens_here : Bool
    opens_here = opens_of d.monitor.seen x.event.new

    -- an event that begins no stretch adds no line, and one that does adds one
    lines_stay : (xs : List Shown) → d.monitor.seen ≡ some xs → Low xs → length xs < 2 ^ 32 → opens_here ≡ false → length (lines_of (xs ++ y ∷ [])) ≡ length (lines_of xs)
    lines_stay [] seen low few goes = absurd (false≢true (sym goes ∙ ap (λ (b : Bool). opens_of b x.event.new) seen ∙ opens_first x.event.new))
    lines_stay (z ∷ zs) seen low few goes =
        same_lines z zs low (omega arith) y (sym (ap (λ (b : Bool). opens_of b x.event.new) seen ∙ opens_seen x.event.new) ∙ goes)

    lines_grow : (xs : List Shown) → d.monitor.seen ≡ some xs → Low xs → opens_here ≡ true → length (lines_of (xs ++ y ∷ [])) ≡ length (lines_of xs) + 1
    unfolding stretches_from
    lines_grow [] seen low begins = refl
    lines_grow (z ∷ zs) seen low begins =
        ap length (lines_opened z zs low y (sym (ap (λ (b : Bool). opens_of b x.event.new) seen ∙ opens_seen x.event.new) ∙ begins)) ∙ length-append (lines_of (z ∷ zs)) _

    -- one more
    note_one : (xs : List Shown) → Fine d xs → x.number < 2 ^ 32 → length xs < 2 ^ 32 → (opens_here ≡ true → length (lines_of xs) < 64) → Fine (note_step T f live d x) (xs ++ y ∷ [])
    unfolding model.step_of
    note_one xs fine l few space = record {
      sheet = ap (λ (s : DaySheet). noted_by s opens_here y.number y.verdict) fine.sheet ∙ noted xs fine.seen fine.low few space;
      seen = sym (some_more xs y);
      low = low_more xs y fine.low l;
      room = by opens_here refl;
    }
      where
        noted : (xs : List Shown) → d.monitor.seen ≡ some xs → Low xs → length xs < 2 ^ 32 → (opens_here ≡ true → length (lines_of xs) < 64)
            → noted_by (sheet_of (lines_of xs)) opens_here y.number y.verdict ≡ sheet_of (lines_of (xs ++ y ∷ []))
        noted [] seen low few space = noted_first opens_here y
        noted (z ∷ zs) seen low few space =
            let same : opens_here ≡ y.new = ap (λ (b : Bool). opens_of b x.event.new) seen ∙ opens_seen x.event.new in
            ap (λ (b : Bool). noted_by (sheet_of (lines_of (z ∷ zs))) b y.number y.verdict) same
            ∙ noted_more z zs low (omega arith) y (λ new. space (same ∙ new))

        by : (b : Bool) → opens_here ≡ b → length (lines_of (xs ++ y ∷ [])) ≤ 64
        by true e = let h = space e in omega (arith, lines_grow xs fine.seen fine.low e)
        by false e = omega (arith, lines_stay xs fine.seen fine.low few e, fine.room)

  -- all that an event brings
  notes_event : (k from : ℕ) (d : Day) (xs : List Shown) (e : meaning.Event) → Fine d xs → (d.monitor.seen ≡ false → k ≡ 0) → from + k < 2 ^ 32 → length xs + k < 2 ^ 32
      → (opens_of d.monitor.seen e.new ≡ true → length (lines_of xs) < 64)
      → Fine (foldl (note_step T f live) d (count_from from (replicate k unseen ++ e ∷ []))) (xs ++ shown_from T f live d.monitor (count_from from (replicate k unseen ++ e ∷ [])))
  unfolding model.step_of
  notes_event zero from d xs e fine none low few space = note_one d (record { number = from; event = e }) xs fine (omega arith) (omega arith) space
  notes_event (suc k) from d xs e fine none low few space =
      subst (Fine (foldl (note_step T f live) d (count_from from (replicate (suc k) unseen ++ e ∷ [])))) (append_assoc xs (z ∷ []) rest)
      (notes_event k (from + 1) (note_step T f live d x) (xs ++ z ∷ []) e (note_one d x xs fine (omega arith) (omega arith) (λ begins. absurd (false≢true (sym quiet ∙ begins))))
      (λ other. absurd (false≢true (sym other))) (omega arith) (omega (arith, length-append xs (z ∷ [])))
      (λ begins. let h = space (ap (λ (b : Bool). opens_of b e.new) seen ∙ begins) in omega (arith, lines_stay d x xs fine.seen fine.low (omega arith) quiet)))
    where
      x : Numbered
      x = record { number = from; event = unseen }

      z : Shown
      z = shown_at T f live d.monitor x

      rest : List Shown
      rest = shown_from T f live (model.step_of T f live d.monitor unseen) (count_from (from + 1) (replicate k unseen ++ e ∷ []))

      by : (b : Bool) → d.monitor.seen ≡ b → d.monitor.seen ≡ true
      by true e = e
      by false e = absurd (let h = none e in omega arith)

      seen : d.monitor.seen ≡ true
      seen = by d.monitor.seen refl

      quiet : opens_of d.monitor.seen false ≡ false
      quiet = ap (λ (b : Bool). opens_of b false) seen

  -- one that begins a stretch adds one line, with all that it brings
  lines_event : (k from : ℕ) (d : Day) (xs : List Shown) (e : meaning.Event) → d.monitor.seen ≡ some xs → Low xs → (d.monitor.seen ≡ false → k ≡ 0) → from + k < 2 ^ 32
      → length xs + k < 2 ^ 32 → opens_of d.monitor.seen e.new ≡ true
      → length (lines_of (xs ++ shown_from T f live d.monitor (count_from from (replicate k unseen ++ e ∷ [])))) ≡ length (lines_of xs) + 1
  unfolding model.step_of
  lines_event zero from d xs e seen low none high few begins = lines_grow d (record { number = from; event = e }) xs seen low begins
  lines_event (suc k) from d xs e seen low none high few begins =
      ap (λ (l : List Shown). length (lines_of l)) (sym (append_assoc xs (z ∷ []) rest))
      ∙ lines_event k (from + 1) (note_step T f live d x) (xs ++ z ∷ []) e (sym (some_more xs z)) (low_more xs z low (omega arith)) (λ other. absurd (false≢true (sym other)))
      (omega arith) (omega (arith, length-append xs (z ∷ []))) (sym (ap (λ (b : Bool). opens_of b e.new) came) ∙ begins)
      ∙ ap (λ (n : ℕ). n + 1) (lines_stay d x xs seen low (omega arith) (ap (λ (b : Bool). opens_of b false) came))
    where
      x : Numbered
      x = record { number = from; event = unseen }

      z : Shown
      z = shown_at T f live d.monitor x

      rest : List Shown
      rest = shown_from T f live (model.step_of T f live d.monitor unseen) (count_from (from + 1) (replicate k unseen ++ e ∷ []))

      by : (b : Bool) → d.monitor.seen ≡ b → d.monitor.seen ≡ true
      by true e = e
      by false e = absurd (let h = none e in omega arith)

      came : d.monitor.seen ≡ true
      came = by d.monitor.seen refl

  -- ---- lists

  shown_append : (m : model.Monitor) (ns ms : List Numbered) → shown_from T f live m (ns ++ ms) ≡ shown_from T f live m ns ++ shown_from T f live (foldl (λ m (x : Numbered). step m x.event) m ns) ms
  shown_append m [] ms = refl
  shown_append m (x ∷ ns) ms = ap (λ (l : List Shown). shown_at T f live m x ∷ l) (shown_append (step m x.event) ns ms)

  ends_count : (m : model.Monitor) (n : ℕ) (es : List meaning.Event) → foldl (λ m (x : Numbered). step m x.event) m (count_from n es) ≡ foldl step m es
  ends_count m n [] = refl
  ends_count m n (e ∷ es) = ends_count (step m e) (n + 1) es

  ends_numbered : (m : model.Monitor) (seen : Bool) (n : ℕ) (es : List Event) → foldl (λ m (x : Numbered). step m x.event) m (numbered_from seen n es) ≡ foldl step m (filled_from seen n es)
  ends_numbered m seen n [] = refl
  ends_numbered m seen n (e ∷ es) =
      let k = number_of e.num n in
      foldl-append (λ m (x : Numbered). step m x.event) m (numbered_by seen n e) (numbered_from true (k + 1) es)
      ∙ ap (λ (x : model.Monitor). foldl (λ m (x : Numbered). step m x.event) x (numbered_from true (k + 1) es)) (ends_count m (k - missing_of seen n k) (brings seen n e))
      ∙ ends_numbered (foldl step m (brings seen n e)) true (k + 1) es
      ∙ sym (foldl-append step m (brings seen n e) (filled_from true (k + 1) es))

  shown_length : (m : model.Monitor) (n : ℕ) (es : List meaning.Event) → length (shown_from T f live m (count_from n es)) ≡ length es
  shown_length m n [] = refl
  shown_length m n (e ∷ es) = ap suc (shown_length (step m e) (n + 1) es)

numbered_append : (seen : Bool) (n : ℕ) (es : List Event) (e : Event) → numbered_from seen n (es ++ e ∷ []) ≡ numbered_from seen n es ++ numbered_by (seen_from seen es) (expected_from n es) e
numbered_append seen n [] e = append-nil (numbered_by seen n e)
numbered_append seen n (x ∷ es) e =
    ap (λ (l : List Numbered). numbered_by seen n x ++ l) (numbered_append true (number_of x.num n + 1) es e ∙ ap (λ (b : Bool). numbered_from true (number_of x.num n + 1) es ++ numbered_by b (expected_from (number_of x.num n + 1) es) e) (came es))
    ∙ sym (append_assoc (numbered_by seen n x) (numbered_from true (number_of x.num n + 1) es) (numbered_by true (expected_from (number_of x.num n + 1) es) e))
  where
    came : (es : List Event) → seen_from true es ≡ true
    came [] = refl
    came (e ∷ es) = refl

length_same : {B : Type 0} (k : ℕ) (u : B) → length (replicate k u) ≡ k
length_same zero u = refl
length_same (suc k) u = ap suc (length_same k u)

-- neither 10 nor 16 is 23
abbrev refused_in : Answer → Outcome
refused_in (Ok l) = Ok tt
refused_in (Err r) = Err r

abbrev code_of : Outcome → ℕ
code_of (Ok _) = 0
code_of (Err r) = kind_number r.kind

not_23 : (e : Event) (props : ℕ) (seen : Bool) (expected : ℕ) → event_outcome e props seen expected ≡ Err (refused_at Stretches 0) → ⊥
unfolding event_outcome
not_23 e props seen expected g = by (legal_of e props) (in_turn seen expected (number_of e.num expected)) (ap code_of g)
  where
    by : (b c : Bool) → code_of (cond b (cond c (Ok tt) (Err (refused_at NumberKind 0))) (Err (refused_at IllegalEvent 0))) ≡ 23 → ⊥
    by true true h = omega (arith, h)
    by true false h = omega (arith, h)
    by false c h = omega (arith, h)

module _ (p : Plant) (fair label next : List ℕ) (rule : Rule) (known : Pairs) where
  abbrev table : run.Plant
  table = plant_of p fair label next

  abbrev formula : Formula
  formula = formula_of rule

  abbrev note : Monitor → DaySheet → Event → Noted
  note = noted_of p fair label next rule known

  -- the lines of events, worked out afresh
  abbrev pub lines_after : List Event → DaySheet
  lines_after es = sheet_of (afresh table formula known.words es)

  abbrev ran : List Event → model.Monitor
  ran es = model.run_of table formula known.words (filled es)

  -- ---- an event that is accepted

  pub record Accepts (m : Monitor) (s : DaySheet) (e : Event) : Type 0 where
    pub lamp : Lamp
    pub stepped : (step_call p fair label next rule known m e).answer ≡ Ok lamp
    pub room : is_full s m.seen e.new ≡ false
    pub is : note m s e ≡ record { answer = Ok lamp; monitor = (step_call p fair label next rule known m e).monitor; sheet = sheet_after table formula known.words m s e }

  pub accepted : (m : Monitor) (s : DaySheet) (e : Event) (l : Lamp) → (note m s e).answer ≡ Ok l → Accepts m s e
  unfolding noted_of
  accepted m s e l = by_count (ltb 64 s.count) refl
    where
      w : Watched
      w = step_call p fair label next rule known m e

      new : DaySheet
      new = sheet_after table formula known.words m s e

      taken : Answer → Bool → Noted
      taken a full = note_by w a full m s (λ v. new)

      by_full : (lamp : Lamp) → w.answer ≡ Ok lamp → (b : Bool) → is_full s m.seen e.new ≡ b → note m s e ≡ taken (Ok lamp) b → (taken (Ok lamp) b).answer ≡ Ok l → Accepts m s e
      by_full lamp a true full is g = shown_none g
      by_full lamp a false full is g = record { lamp = lamp; stepped = a; room = full; is = is }

      by_answer : (a : Answer) → w.answer ≡ a → note m s e ≡ taken a (is_full s m.seen e.new) → (taken a (is_full s m.seen e.new)).answer ≡ Ok l → Accepts m s e
      by_answer (Ok lamp) a is g = by_full lamp a (is_full s m.seen e.new) refl is g
      by_answer (Err r) a is g = shown_none g

      by_count : (b : Bool) → ltb 64 s.count ≡ b → (note m s e).answer ≡ Ok l → Accepts m s e
      by_count true many g = shown_none (sym (ap (λ (b : Bool). (cond b (refused_with (overfull_by (input_outcome p fair label next rule)) m s) (taken w.answer (is_full s m.seen e.new))).answer) many) ∙ g)
      by_count false few g = by_answer w.answer refl (ap (λ (b : Bool). cond b (refused_with (overfull_by (input_outcome p fair label next rule)) m s) (taken w.answer (is_full s m.seen e.new))) few) (sym (ap (λ (x : Noted). x.answer) (ap (λ (b : Bool). cond b (refused_with (overfull_by (input_outcome p fair label next rule)) m s) (taken w.answer (is_full s m.seen e.new))) few)) ∙ g)

  -- A REFUSAL LEAVES monitor and sheet as they were
  pub refused_leaves : (m : Monitor) (s : DaySheet) (e : Event) (r : Refusal) → (note m s e).answer ≡ Err r → note m s e ≡ refused_with r m s
  unfolding noted_of
  refused_leaves m s e r = by_count (ltb 64 s.count)
    where
      w : Watched
      w = step_call p fair label next rule known m e

      refusal_in : Answer → Refusal
      refusal_in (Ok l) = r
      refusal_in (Err q) = q

      same : {q : Refusal} → ◌≡◌ {A = Answer} (Err q) (Err r) → refused_with q m s ≡ refused_with r m s
      same g = ap (λ (x : Refusal). refused_with x m s) (ap refusal_in g)

      by_full : (l : Lamp) (b : Bool) (new : DaySheet) → (note_by w (Ok l) b m s (λ v. new)).answer ≡ Err r → note_by w (Ok l) b m s (λ v. new) ≡ refused_with r m s
      by_full l true new g = same g
      by_full l false new g = shown_none (sym g)

      by_answer : (a : Answer) (b : Bool) (new : DaySheet) → (note_by w a b m s (λ v. new)).answer ≡ Err r → note_by w a b m s (λ v. new) ≡ refused_with r m s
      by_answer (Ok l) b new g = by_full l b new g
      by_answer (Err q) b new g = same g

      by_count : (b : Bool) → (cond b (refused_with (overfull_by (input_outcome p fair label next rule)) m s) (note_by w w.answer (is_full s m.seen e.new) m s (λ v. sheet_after table formula known.words m s e))).answer ≡ Err r
          → cond b (refused_with (overfull_by (input_outcome p fair label next rule)) m s) (note_by w w.answer (is_full s m.seen e.new) m s (λ v. sheet_after table formula known.words m s e)) ≡ refused_with r m s
      by_count true g = same g
      by_count false g = by_answer w.answer (is_full s m.seen e.new) (sheet_after table formula known.words m s e) g

  -- ---- what is kept from the opening on

  -- behind accepted events, the monitor is the model's and the sheet the one worked out afresh
  pub record Kept (done : List Event) (m : Monitor) (s : DaySheet) : Type 0 where
    pub taken : AllTaken p fair label next rule done
    pub monitor : m ≡ monitor_of (expected_from 0 done) (ran done)
    pub sheet : s ≡ lines_after done
    pub low : Low (shown_of table formula known.words done)
    pub few : length (shown_of table formula known.words done) ≤ expected_from 0 done
    pub room : length (afresh table formula known.words done) ≤ 64

  taken_more : (seen : Bool) (n : ℕ) (es : List Event) (e : Event) → TakenFrom p fair label next rule seen n es → Taken p fair label next rule (seen_from seen es) (expected_from n es) e → TakenFrom p fair label next rule seen n (es ++ e ∷ [])
  taken_more seen n [] e ts t = (t, tt)
  taken_more seen n (x ∷ es) e (tx, ts) t = (tx, taken_more true (number_of x.num n + 1) es e ts (subst (λ (b : Bool). Taken p fair label next rule b (expected_from (number_of x.num n + 1) es) e) (sym (came es)) t))
    where
      came : (es : List Event) → seen_from true es ≡ true
      came [] = refl
      came (e ∷ es) = refl

  pub expected_low : (seen : Bool) (n : ℕ) (es : List Event) → n ≤ 2 ^ 32 → TakenFrom p fair label next rule seen n es → expected_from n es ≤ 2 ^ 32
  expected_low seen n [] low ts = low
  expected_low seen n (e ∷ es) low (t, ts) = expected_low true (number_of e.num n + 1) es (omega (arith, t.1.number)) ts

  some_shown : (done : List Event) → some (shown_of table formula known.words done) ≡ seen_from false done
  some_shown [] = refl
  some_shown (e ∷ es) = refl

  -- how many events there are by their numbers
  count_next : (b : Bool) (n k len : ℕ) → (b ≡ false → len ≡ 0) → len ≤ n → InTurn b n k → (len + missing_of b n k < 2 ^ 32) × (len + (missing_of b n k + 1) ≤ k + 1)
  count_next true n k len none few t = let (low, high) = t.behind refl in (omega (arith, t.number), omega arith)
  count_next false n k len none few t = let z = none refl in (omega (arith, t.some_left), omega arith)

  space_left : (n : ℕ) (o : Bool) → (eqb n 64 && o) ≡ false → n ≤ 64 → o ≡ true → n < 64
  space_left n o full few begins = elim (dec_lt n 64) [
    | yes h ↦ h
    | no h ↦ absurd (false≢true (sym full ∙ ap₂ (λ (a b : Bool). a && b) (eq-eqb n 64 (omega arith)) begins))
  ]

  full_is : (s : DaySheet) (seen new : Bool) → (eqb s.count 64 && opens_of seen new) ≡ is_full s seen new
  unfolding is_full
  full_is s seen new = refl

  -- a sheet with no room has 64 lines, and the event begins a stretch
  room_none : (s : DaySheet) (seen new : Bool) → is_full s seen new ≡ true → (s.count ≡ 64) × (opens_of seen new ≡ true)
  unfolding is_full
  room_none s seen new h = by (eqb s.count 64) refl h
    where
      by : (b : Bool) → eqb s.count 64 ≡ b → (b && opens_of seen new) ≡ true → (s.count ≡ 64) × (opens_of seen new ≡ true)
      by true e h = (eqb-true s.count 64 e, h)
      by false e h = absurd (false≢true h)

  none_some : (xs : List Shown) → some xs ≡ false → length xs ≡ 0
  none_some [] e = refl
  none_some (x ∷ xs) e = absurd (false≢true (sym e))

  module _ (given : Input p fair label next rule) (fits : PairSet table formula known.words) where
    abbrev first : model.Monitor
    first = model.opening table formula known.words

    starts : Kept [] (open_call p fair label next rule known).monitor empty_sheet
    unfolding model.run_of
    starts = record { taken = tt; monitor = ap (λ (w : Watched). w.monitor) (opens p fair label next rule given known fits); sheet = refl; low = tt; few = zero-le; room = zero-le }

    -- such a monitor passes checks 1, 2 and 9
    ran_held : (done : List Event) → AllTaken p fair label next rule done → Held p fair label next rule (monitor_of (expected_from 0 done) (ran done))
    unfolding model.run_of
    ran_held done taken = record {
      sets = brought_sets p fair label next rule given known fits first (opening_sets table formula given.table given.few known.words fits) (filled done);
      low = expected_low false 0 done zero-le taken;
    }

    -- the events shown, with one more
    shown_more : (done : List Event) (e : Event)
        → shown_of table formula known.words (done ++ e ∷ [])
        ≡ shown_of table formula known.words done ++ shown_from table formula known.words (ran done) (numbered_by (ran done).seen (expected_from 0 done) e)
    unfolding model.run_of
    shown_more done e =
        ap (shown_from table formula known.words first) (numbered_append false 0 done e)
        ∙ shown_append table formula known.words first (numbered_from false 0 done) (numbered_by (seen_from false done) (expected_from 0 done) e)
        ∙ ap₂ (λ (m : model.Monitor) (b : Bool). shown_of table formula known.words done ++ shown_from table formula known.words m (numbered_by b (expected_from 0 done) e))
        (ends_numbered table formula known.words first false 0 done) (sym (run_seen p fair label next rule known.words done))

    -- the model's monitor, with one more
    ran_more : (done : List Event) (e : Event) → ran (done ++ e ∷ []) ≡ foldl (model.step_of table formula known.words) (ran done) (brings (ran done).seen (expected_from 0 done) e)
    unfolding model.run_of
    ran_more done e =
        ap (foldl (model.step_of table formula known.words) first) (filled_more done e)
        ∙ foldl-append (model.step_of table formula known.words) first (filled done) (brings (seen_from false done) (expected_from 0 done) e)
        ∙ ap (λ (b : Bool). foldl (model.step_of table formula known.words) (ran done) (brings b (expected_from 0 done) e)) (sym (run_seen p fair label next rule known.words done))

    module _ (done : List Event) (k : Kept done (monitor_of (expected_from 0 done) (ran done)) (lines_after done)) (e : Event) where
      abbrev n : ℕ
      n = expected_from 0 done

      abbrev x : model.Monitor
      x = ran done

      abbrev xs : List Shown
      xs = shown_of table formula known.words done

      abbrev here : Monitor
      here = monitor_of n x

      -- the step of an event that was accepted
      passed : (l : Lamp) → (step_call p fair label next rule known here e).answer ≡ Ok l
          → Taken p fair label next rule x.seen n e × ((step_call p fair label next rule known here e).monitor ≡ monitor_of (number_of e.num n + 1) (brought p fair label next rule known.words x n e))
      passed l g = by (event_outcome e p.props x.seen n) refl (checks_pass p fair label next rule given known fits here (ran_held done k.taken) e)
        where
          by : (o : Outcome) → event_outcome e p.props x.seen n ≡ o
              → step_call p fair label next rule known here e ≡ watched o here (number_of e.num n + 1) (brought p fair label next rule known.words x n e)
              → Taken p fair label next rule x.seen n e × ((step_call p fair label next rule known here e).monitor ≡ monitor_of (number_of e.num n + 1) (brought p fair label next rule known.words x n e))
          by (Ok _) o is = ((event_says p fair label next rule given e x.seen n).0 o, ap (λ (w : Watched). w.monitor) is)
          by (Err r) o is = shown_none (sym (ap (λ (w : Watched). w.answer) is) ∙ g)

      fine : Fine table formula known.words (record { monitor = x; sheet = lines_after done }) xs
      fine = record { sheet = refl; seen = run_seen p fair label next rule known.words done ∙ sym (some_shown done); low = k.low; room = k.room }

      next_exact : (l : Lamp) → (note here (lines_after done) e).answer ≡ Ok l → Kept (done ++ e ∷ []) (note here (lines_after done) e).monitor (note here (lines_after done) e).sheet
      next_exact l g = record {
        taken = taken_more false 0 done e k.taken (subst (λ (b : Bool). Taken p fair label next rule b n e) (run_seen p fair label next rule known.words done) step.0);
        monitor = ap (λ (w : Noted). w.monitor) a.is ∙ step.1 ∙ ap₂ monitor_of (sym (expected_append 0 done (e ∷ []))) (sym (ran_more done e));
        sheet = ap (λ (w : Noted). w.sheet) a.is ∙ noted.sheet ∙ ap (λ (ys : List Shown). sheet_of (lines_of ys)) (sym (shown_more done e));
        low = subst Low (sym (shown_more done e)) noted.low;
        few = omega (arith, ap length (shown_more done e), length-append xs (shown_from table formula known.words x (numbered_by x.seen n e)), long, counts.1, expected_append 0 done (e ∷ []));
        room = subst (λ (ys : List Shown). length (lines_of ys) ≤ 64) (sym (shown_more done e)) noted.room;
      }
        where
          a : Accepts here (lines_after done) e
          a = accepted here (lines_after done) e l g

          step : Taken p fair label next rule x.seen n e × ((step_call p fair label next rule known here e).monitor ≡ monitor_of (number_of e.num n + 1) (brought p fair label next rule known.words x n e))
          step = passed a.lamp a.stepped

          gap : ℕ
          gap = missing_of x.seen n (number_of e.num n)

          counts : (length xs + gap < 2 ^ 32) × (length xs + (gap + 1) ≤ number_of e.num n + 1)
          counts = count_next x.seen n (number_of e.num n) (length xs) (λ none. none_some xs (sym fine.seen ∙ none)) k.few step.0.1

          long : length (shown_from table formula known.words x (numbered_by x.seen n e)) ≡ gap + 1
          long = shown_length table formula known.words x (number_of e.num n - gap) (brings x.seen n e) ∙ length-append (replicate gap unseen) (event_of e ∷ []) ∙ ap (λ (j : ℕ). j + 1) (length_same gap unseen)

          noted : Fine table formula known.words (foldl (note_step table formula known.words) (record { monitor = x; sheet = lines_after done }) (numbered_by x.seen n e))
              (xs ++ shown_from table formula known.words x (numbered_by x.seen n e))
          noted =
              let few = missing_few x.seen n (number_of e.num n) in
              let low = step.0.1.number in
              notes_event table formula known.words gap (number_of e.num n - gap) (record { monitor = x; sheet = lines_after done }) xs (event_of e) fine
              (first_none x.seen n (number_of e.num n)) (omega arith) counts.0 (space_left (length (lines_of xs)) (opens_of x.seen e.new) (full_is (lines_after done) x.seen e.new ∙ a.room) k.room)

      -- ---- by what the check of the event gives

      abbrev stepped : Outcome → Watched
      stepped o = watched o here (number_of e.num n + 1) (brought p fair label next rule known.words x n e)

      abbrev taking : Outcome → Bool → Noted
      taking o b = note_by (stepped o) (stepped o).answer b here (lines_after done) (λ v. sheet_after table formula known.words here (lines_after done) e)

      note_by_lem : {o : Outcome} → event_outcome e p.props x.seen n ≡ o → {b : Bool} → is_full (lines_after done) x.seen e.new ≡ b → note here (lines_after done) e ≡ taking o b
      unfolding noted_of
      note_by_lem {o} g {b} h =
          ap (λ (many : Bool). cond many (refused_with (overfull_by (input_outcome p fair label next rule)) here (lines_after done))
          (behind (step_call p fair label next rule known here e) (is_full (lines_after done) x.seen e.new))) (le-ltb 64 (length (lines_of xs)) k.room)
          ∙ ap₂ behind (checks_pass p fair label next rule given known fits here (ran_held done k.taken) e ∙ ap stepped g) h
        where
          behind : Watched → Bool → Noted
          behind w b = note_by w w.answer b here (lines_after done) (λ v. sheet_after table formula known.words here (lines_after done) e)

      -- 23 is for an event that was accepted, and finds no room
      full_exactly : ((note here (lines_after done) e).answer ≡ Err (refused_at Stretches 0))
          ↔ (Taken p fair label next rule x.seen n e × (64 < length (afresh table formula known.words (done ++ e ∷ []))))
      full_exactly = (λ g. there (event_outcome e p.props x.seen n) refl _ refl g, λ (t, many). back t many _ refl)
        where
          answered : {o : Outcome} → event_outcome e p.props x.seen n ≡ o → {b : Bool} → is_full (lines_after done) x.seen e.new ≡ b → (note here (lines_after done) e).answer ≡ (taking o b).answer
          answered g h = ap (λ (w : Noted). w.answer) (note_by_lem g h)

          -- with it there would be a line more
          over : Taken p fair label next rule x.seen n e → is_full (lines_after done) x.seen e.new ≡ true → 64 < length (afresh table formula known.words (done ++ e ∷ []))
          over t h =
              let gap = missing_of x.seen n (number_of e.num n) in
              let counts = count_next x.seen n (number_of e.num n) (length xs) (λ none. none_some xs (sym fine.seen ∙ none)) k.few t.1 in
              let short = missing_few x.seen n (number_of e.num n) in
              let (full, opens) = room_none (lines_after done) x.seen e.new h in
              let grown = lines_event table formula known.words gap (number_of e.num n - gap) (record { monitor = x; sheet = lines_after done }) xs (event_of e) fine.seen k.low
              (first_none x.seen n (number_of e.num n)) (omega (arith, t.1.number)) counts.0 opens in
              omega (arith, ap (λ (ys : List Shown). length (lines_of ys)) (shown_more done e), grown, full)

          there : (o : Outcome) → event_outcome e p.props x.seen n ≡ o → (b : Bool) → is_full (lines_after done) x.seen e.new ≡ b → (note here (lines_after done) e).answer ≡ Err (refused_at Stretches 0)
              → Taken p fair label next rule x.seen n e × (64 < length (afresh table formula known.words (done ++ e ∷ [])))
          there (Err r) o b h g = absurd (not_23 e p.props x.seen n (o ∙ ap refused_in (sym (answered o h) ∙ g)))
          there (Ok _) o true h g = let t = (event_says p fair label next rule given e x.seen n).0 o in (t, over t h)
          there (Ok _) o false h g = shown_none (sym g ∙ answered o h)

          back : Taken p fair label next rule x.seen n e → 64 < length (afresh table formula known.words (done ++ e ∷ [])) → (b : Bool) → is_full (lines_after done) x.seen e.new ≡ b
              → (note here (lines_after done) e).answer ≡ Err (refused_at Stretches 0)
          back t many true h = answered ((event_says p fair label next rule given e x.seen n).1 t) h
          back t many false h = absurd (let room = (next_exact _ (answered ((event_says p fair label next rule given e x.seen n).1 t) h)).room in omega arith)

    -- ONE EVENT MORE, noted, is the sheet of one event more
    pub one_more : (done : List Event) (m : Monitor) (s : DaySheet) → Kept done m s → (e : Event) (l : Lamp) → (note m s e).answer ≡ Ok l → Kept (done ++ e ∷ []) (note m s e).monitor (note m s e).sheet
    one_more done m s k e l =
        subst (λ (w : Monitor). (note w s e).answer ≡ Ok l → Kept (done ++ e ∷ []) (note w s e).monitor (note w s e).sheet) (sym k.monitor)
        (subst (λ (d : DaySheet). (note (monitor_of (expected_from 0 done) (ran done)) d e).answer ≡ Ok l → Kept (done ++ e ∷ []) (note (monitor_of (expected_from 0 done) (ran done)) d e).monitor (note (monitor_of (expected_from 0 done) (ran done)) d e).sheet) (sym k.sheet)
        (next_exact done (record { taken = k.taken; monitor = refl; sheet = refl; low = k.low; few = k.few; room = k.room }) e l))

    -- AN EVENT IS REFUSED BY 23 exactly where 10 and 16 accept it, and the sheet worked out afresh with it would have more than 64 lines
    pub refused_exactly : (done : List Event) (m : Monitor) (s : DaySheet) → Kept done m s → (e : Event)
        → ((note m s e).answer ≡ Err (refused_at Stretches 0))
        ↔ (Taken p fair label next rule (seen_from false done) (expected_from 0 done) e × (64 < length (afresh table formula known.words (done ++ e ∷ []))))
    refused_exactly done m s k e =
        subst (λ (w : Monitor). Exactly w s) (sym k.monitor) (subst (λ (d : DaySheet). Exactly (monitor_of (expected_from 0 done) (ran done)) d) (sym k.sheet)
        (subst (λ (b : Bool). ((note (monitor_of (expected_from 0 done) (ran done)) (lines_after done) e).answer ≡ Err (refused_at Stretches 0))
        ↔ (Taken p fair label next rule b (expected_from 0 done) e × (64 < length (afresh table formula known.words (done ++ e ∷ []))))) (run_seen p fair label next rule known.words done)
        (full_exactly done (record { taken = k.taken; monitor = refl; sheet = refl; low = k.low; few = k.few; room = k.room }) e)))
      where
        Exactly : Monitor → DaySheet → Type 0
        Exactly w d = ((note w d e).answer ≡ Err (refused_at Stretches 0))
            ↔ (Taken p fair label next rule (seen_from false done) (expected_from 0 done) e × (64 < length (afresh table formula known.words (done ++ e ∷ []))))

  -- ---- whatever events come

  -- from what `open` gives and the empty sheet
  abbrev pub begun : Noted
  begun = record { answer = (open_call p fair label next rule known).answer; monitor = (open_call p fair label next rule known).monitor; sheet = empty_sheet }

  abbrev through : Noted → List Event → Noted
  through w es = foldl (λ (w : Noted) e. note w.monitor w.sheet e) w es

  unfoldable pub noted_through : List Event → Noted
  noted_through es = through begun es

  -- the events that were accepted
  abbrev keep : Answer → Event → List Event → List Event
  keep (Ok l) e es = e ∷ es
  keep (Err r) e es = es

  unfoldable pub accepted_from : Noted → List Event → List Event
  accepted_from w [] = []
  accepted_from w (e ∷ es) = keep (note w.monitor w.sheet e).answer e (accepted_from (note w.monitor w.sheet e) es)

  abbrev pub accepted_ones : List Event → List Event
  accepted_ones es = accepted_from begun es

  module _ (given : Input p fair label next rule) (fits : PairSet table formula known.words) where
    kept_on : (es : List Event) (w : Noted) (done : List Event) → Kept done w.monitor w.sheet → Kept (done ++ accepted_from w es) (through w es).monitor (through w es).sheet
    unfolding accepted_from
    kept_on [] w done k = subst (λ (l : List Event). Kept l w.monitor w.sheet) (sym (append-nil done)) k
    kept_on (e ∷ es) w done k = by (kept_on es (note w.monitor w.sheet e)) (note w.monitor w.sheet e).answer refl
      where
        r : Noted
        r = note w.monitor w.sheet e

        by : ((done : List Event) → Kept done r.monitor r.sheet → Kept (done ++ accepted_from r es) (through r es).monitor (through r es).sheet)
            → (a : Answer) → r.answer ≡ a → Kept (done ++ keep a e (accepted_from r es)) (through r es).monitor (through r es).sheet
        by rest (Ok l) g =
            subst (λ (x : List Event). Kept x (through r es).monitor (through r es).sheet) (append_assoc done (e ∷ []) (accepted_from r es))
            (rest (done ++ e ∷ []) (one_more given fits done w.monitor w.sheet k e l g))
        by rest (Err q) g =
            rest done (subst (λ (x : Noted). Kept done x.monitor x.sheet) (sym (refused_leaves w.monitor w.sheet e q g)) k)

    -- THE SHEET IS ALWAYS THE ONE WORKED OUT AFRESH from the events that were accepted, and the monitor the model's
    pub always_kept : (es : List Event) → Kept (accepted_ones es) (noted_through es).monitor (noted_through es).sheet
    unfolding noted_through
    always_kept es = kept_on es begun [] (starts given fits)

    pub always_afresh : (es : List Event) → (noted_through es).sheet ≡ lines_after (accepted_ones es)
    always_afresh es = (always_kept es).sheet

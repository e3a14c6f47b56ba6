-- The sheet that code makes is the one that Calls defines.
use Prim.Native.Nat.{ℕ, zero, suc, ◌+◌, ◌-◌, ◌≤◌, ◌<◌}
use native.Mathlib.Omega.{arith}
use Rattle.std.specs.Prelude.{◌≡◌, length, replicate, Ok, Err}
use Rattle.std.proofs.Math.Path.{refl, sym, ap, ap₂}
use Rattle.std.proofs.Common.{◌∙◌}
use Rattle.std.proofs.Math.Bool.{Bool, true, false, cond}
use Rattle.std.proofs.lemmas.Bool.{false≢true}
use mathlib.Core.List.{List, [], ◌∷◌, ◌++◌, foldl, foldl-append}
use borrow.Author.Tests.{le-ltb, lt-ltb}
use Rattle.meaning.specs.Formula.{Formula}
use Rattle.meaning.specs.Run as run
use Rattle.meaning.specs.Event as meaning
use Rattle.pairs.specs.declared.Pairs.{Pairs}
use Rattle.model.specs.Sets.{PairSet}
use Rattle.model.specs.Monitor as model
use Rattle.answers.specs.declared.Verdict.{Verdict}
use Rattle.answers.specs.declared.Verdict.TheVariants.{Inconclusive}
use Rattle.answers.specs.declared.Kind.TheVariants.{Stretches}
use Rattle.answers.specs.declared.Refusal.{Refusal}
use Rattle.answers.specs.Paper.{refused_at}
use Rattle.answers.specs.declared.Lamp.{Lamp}
use Rattle.answers.specs.Results.{Answer}
use Rattle.answers.specs.Results.{Outcome}
use Rattle.plant.specs.declared.Plant.{Plant}
use Rattle.plant.specs.Table.{plant_of}
use Rattle.syntax.specs.declared.Rule.{Rule}
use Rattle.syntax.specs.Value.{formula_of}
use Rattle.event_log.specs.declared.Event.{Event}
use Rattle.event_log.specs.Log.{nothing}
use Rattle.truth.specs.Ready.{Ready}
use Rattle.ways.specs.declared.Ways.{Ways}
use Rattle.ways.specs.Ways.{ways_of}
use Rattle.checks.specs.Input.{Input}
use Rattle.checks.specs.Checks.{input_outcome}
use Rattle.checks.proofs.Given.{right, ready}
use Rattle.sides.specs.declared.Monitor.{Monitor}
use Rattle.event_log.specs.Legal.{event_of}
use Rattle.sides.specs.Held.{model_of, monitor_of}
use Rattle.event_numbers.specs.Numbers.{number_of, missing_of, first_none, unseen, brings}
use Rattle.sides.specs.Sides.{advanced_in}
use Rattle.sides.proofs.SidesRight.{advanced_right}
use Rattle.monitor.specs.declared.Watched.{Watched}
use Rattle.monitor.specs.Calls.{watched, step_checked, step_call}
use Rattle.monitor.specs.Promises.{step_accepted}
use Rattle.watching.specs.Watching.{brought_sets}
use Rattle.stretches.specs.declared.DaySheet.{DaySheet}
use Rattle.stretches.specs.Sheet.{noted_by}
use Rattle.day_sheet.specs.declared.Noted.{Noted}
use Rattle.day_sheet.specs.Afresh.{Numbered, count_from, verdict_in}
use Rattle.day_sheet.specs.Calls.{Day, opens_of, note_step, sheet_after, Shows, is_full, refused_with, note_by, overfull_by, noted_of}
use Rattle.day_sheet.specs.Code.{unseen_to, unseen_sheet, sheet_in, missing_few}

-- ---- so many of the same, and one behind them

module _ {A B : Type 0} where
  pub fold_more : (g : A → B → A) (x : A) (u : B) (k : ℕ) → foldl g x (replicate (suc k) u) ≡ g (foldl g x (replicate k u)) u
  fold_more g x u zero = refl
  fold_more g x u (suc k) = fold_more g (g x u) u k

pub same_last : {B : Type 0} (u : B) (k : ℕ) → replicate (suc k) u ≡ replicate k u ++ u ∷ []
same_last u zero = refl
same_last u (suc k) = ap (λ l. u ∷ l) (same_last u k)

pub count_last : (n k : ℕ) (u e : meaning.Event) → count_from n (replicate k u ++ e ∷ []) ≡ count_from n (replicate k u) ++ record { number = n + k; event = e } ∷ []
count_last n zero u e = let same : n ≡ n + 0 = omega arith in ap (λ (j : ℕ). record { number = j; event = e } ∷ []) same
count_last n (suc k) u e =
    let on : n + 1 + k ≡ n + suc k = omega arith in
    ap (λ (l : List Numbered). record { number = n; event = u } ∷ l)
    (count_last (n + 1) k u e ∙ ap (λ (j : ℕ). count_from (n + 1) (replicate k u) ++ record { number = j; event = e } ∷ []) on)

module _ (p : Plant) (fair label next : List ℕ) (rule : Rule) where
  abbrev T : run.Plant
  T = plant_of p fair label next

  abbrev f : Formula
  f = formula_of rule

  abbrev w : Ways
  w = ways_of label rule

  module _ (live : Pairs) (m : Monitor) where
    abbrev step : model.Monitor → meaning.Event → model.Monitor
    step = model.step_of T f live.words

    -- behind so many events that were not received
    abbrev gone : ℕ → model.Monitor
    gone k = foldl step (model_of m) (replicate k unseen)

    gone_seen : m.seen ≡ true → (k : ℕ) → (gone k).seen ≡ true
    unfolding model.step_of
    gone_seen seen zero = seen
    gone_seen seen (suc k) = ap (λ (x : model.Monitor). x.seen) (fold_more step (model_of m) unseen k)

    module _ (given : Input p fair label next rule) (fits : PairSet T f live.words) (held : (b : Bool) → PairSet T f (model.side (model_of m) b)) where
      unseen_is : (k : ℕ) → unseen_to label next w live m k ≡ monitor_of m.expected (gone k)
      unfolding unseen_to
      unseen_is zero = refl
      unseen_is (suc k) =
          ap (λ (x : Monitor). advanced_in label next w live.words x nothing) (unseen_is k)
          ∙ advanced_right T f given.table given.few rule (right given) live.words fits (monitor_of m.expected (gone k))
          (brought_sets p fair label next rule given live fits (model_of m) held (replicate k unseen)) nothing
          ∙ ap (monitor_of m.expected) (sym (fold_more step (model_of m) unseen k))

      module _ (s : DaySheet) (from : ℕ) where
        abbrev start : Day
        start = record { monitor = model_of m; sheet = s }

        abbrev sheet : ℕ → DaySheet
        sheet k = unseen_sheet label next w live m s from k

        -- one more that was not received
        turn : m.seen ≡ true → (k : ℕ) → note_step T f live.words (record { monitor = gone k; sheet = sheet k }) (record { number = from + k; event = unseen }) ≡ record { monitor = gone (suc k); sheet = sheet (suc k) }
        unfolding unseen_sheet
        turn seen k =
            let new : step (gone k) unseen ≡ gone (suc k) = sym (fold_more step (model_of m) unseen k) in
            ap₂ (λ (x : model.Monitor) (d : DaySheet). record { monitor = x; sheet = d }) new
            (ap₂ (λ (b : Bool) (x : model.Monitor). noted_by (sheet k) (opens_of b false) (from + k) (verdict_in x)) (gone_seen seen k) (new ∙ sym (ap model_of (unseen_is (suc k)))))

        days : m.seen ≡ true → (k : ℕ) → foldl (note_step T f live.words) start (count_from from (replicate k unseen)) ≡ record { monitor = gone k; sheet = sheet k }
        unfolding unseen_sheet
        days seen zero = refl
        days seen (suc k) =
            ap (foldl (note_step T f live.words) start) (ap (count_from from) (same_last unseen k) ∙ count_last from k unseen unseen)
            ∙ foldl-append (note_step T f live.words) start (count_from from (replicate k unseen)) (record { number = from + k; event = unseen } ∷ [])
            ∙ ap (λ (d : Day). note_step T f live.words d (record { number = from + k; event = unseen })) (days seen k)
            ∙ turn seen k

      -- so many, and then the event
      behind : (s : DaySheet) (n : ℕ) (e : Event) (k : ℕ) → (m.seen ≡ false → k ≡ 0) → k ≤ n
          → noted_by (unseen_sheet label next w live m s (n - k) k) (opens_of m.seen e.new) n (verdict_in (foldl step (model_of m) (replicate k unseen ++ event_of e ∷ [])))
          ≡ (foldl (note_step T f live.words) (record { monitor = model_of m; sheet = s }) (count_from (n - k) (replicate k unseen ++ event_of e ∷ []))).sheet
      unfolding unseen_sheet
      behind s n e zero none few =
          let all : n ≡ n - 0 = omega arith in
          ap (λ (j : ℕ). noted_by s (opens_of m.seen e.new) j (verdict_in (step (model_of m) (event_of e)))) all
      behind s n e (suc j) none few =
          let from = n - suc j in
          let all : n ≡ from + suc j = omega arith in
          let gone_on = unseen_sheet label next w live m s from (suc j) in
          ap (λ (b : Bool). noted_by gone_on (opens_of b e.new) n (verdict_in (foldl step (model_of m) (replicate (suc j) unseen ++ event_of e ∷ [])))) (seen ∙ sym (gone_seen seen (suc j)))
          ∙ ap₂ (λ (i : ℕ) (x : model.Monitor). noted_by gone_on (opens_of (gone (suc j)).seen e.new) i (verdict_in x)) all (foldl-append step (model_of m) (replicate (suc j) unseen) (event_of e ∷ []))
          ∙ sym (
          ap (λ (l : List Numbered). (foldl (note_step T f live.words) (record { monitor = model_of m; sheet = s }) l).sheet) (count_last from (suc j) unseen (event_of e))
          ∙ ap (λ (d : Day). d.sheet)
          (foldl-append (note_step T f live.words) (record { monitor = model_of m; sheet = s }) (count_from from (replicate (suc j) unseen)) (record { number = from + suc j; event = event_of e } ∷ []))
          ∙ ap (λ (d : Day). (note_step T f live.words d (record { number = from + suc j; event = event_of e })).sheet) (days s from seen (suc j))
          )
        where
          by : (b : Bool) → m.seen ≡ b → m.seen ≡ true
          by true e = e
          by false e = absurd (let z = none e in omega arith)

          seen : m.seen ≡ true
          seen = by m.seen refl

      -- THE SHEET THAT CODE MAKES
      pub sheet_right : (s : DaySheet) (e : Event)
          → sheet_in label next w live m s e (verdict_in (foldl step (model_of m) (brings m.seen m.expected e))) ≡ sheet_after T f live.words m s e
      sheet_right s e =
          let n = number_of e.num m.expected in
          behind s n e (missing_of m.seen m.expected n) (first_none m.seen m.expected n) (missing_few m.seen m.expected n)

  -- ---- the call

  abbrev verdict_shown : Answer → Verdict
  verdict_shown (Ok l) = l.verdict
  verdict_shown (Err r) = Inconclusive

  module _ (full : length rule.nodes ≡ 32) (live : Pairs) (m : Monitor) (e : Event) where
    abbrev new : model.Monitor
    new = foldl (model.step_of T f live.words) (model_of m) (brings m.seen m.expected e)

    abbrev called : Watched
    called = step_call p fair label next rule live m e

    -- a step that shows a lamp passed its checks, and shows that of the new monitor
    shown_passed : (l : Lamp) → called.answer ≡ Ok l → (step_checked p fair label next rule live m e ≡ Ok tt) × (verdict_in new ≡ l.verdict)
    unfolding step_call
    shown_passed l is = by (step_checked p fair label next rule live m e) is
      where
        by : (o : Outcome) → (watched o m (number_of e.num m.expected + 1) new).answer ≡ Ok l → (o ≡ Ok tt) × (verdict_in new ≡ l.verdict)
        by (Ok _) g = (refl, ap verdict_shown g)
        by (Err r) g = absurd (shown_none g)
          where
            is_shown : Answer → Bool
            is_shown (Ok l) = true
            is_shown (Err r) = false

            shown_none : Err r ≡ Ok l → ⊥
            shown_none g = false≢true (ap is_shown g)

    pub shows_ready : {stepped : Watched} → stepped ≡ called → Shows stepped.answer → Ready label rule
    shows_ready {stepped} is = by stepped.answer (ap (λ (x : Watched). x.answer) (sym is))
      where
        by : (a : Answer) → called.answer ≡ a → Shows a → Ready label rule
        by (Ok l) g h = ready ((step_accepted p fair label next rule full live m e).0 (shown_passed l g).0).0.0
        by (Err r) g h = absurd h

    module _ (s : DaySheet) where
      pub note_overfull : {r : Refusal} → 64 < s.count → r ≡ overfull_by (input_outcome p fair label next rule) → refused_with r m s ≡ noted_of p fair label next rule live m s e
      unfolding noted_of
      note_overfull many is = rw (is, lt-ltb 64 s.count many) refl

      pub note_behind : {stepped : Watched} {r : Noted} → s.count ≤ 64 → stepped ≡ called
          → r ≡ note_by stepped stepped.answer (is_full s m.seen e.new) m s (sheet_in label next w live m s e) → r ≡ noted_of p fair label next rule live m s e
      unfolding noted_of
      note_behind {stepped} few is told =
          told ∙ ap (λ (x : Watched). note_by x x.answer (is_full s m.seen e.new) m s (sheet_in label next w live m s e)) is ∙ by called.answer refl
          ∙ ap (λ (b : Bool). cond b (refused_with (overfull_by (input_outcome p fair label next rule)) m s)
          (note_by called called.answer (is_full s m.seen e.new) m s (λ v. sheet_after T f live.words m s e))) (sym (le-ltb 64 s.count few))
        where
          by : (a : Answer) → called.answer ≡ a
              → note_by called a (is_full s m.seen e.new) m s (sheet_in label next w live m s e) ≡ note_by called a (is_full s m.seen e.new) m s (λ v. sheet_after T f live.words m s e)
          by (Err r) g = refl
          by (Ok l) g =
              let passed = shown_passed l g in
              let checked = (step_accepted p fair label next rule full live m e).0 passed.0 in
              let held = checked.0.1.1 in
              ap (λ (d : DaySheet). cond (is_full s m.seen e.new) (refused_with (refused_at Stretches 0) m s) (record { answer = Ok l; monitor = called.monitor; sheet = d }))
              (ap (sheet_in label next w live m s e) (sym passed.1) ∙ sheet_right live m checked.0.0 checked.0.1.0 (sides held.0 held.1.0) s e)
            where
              sides : PairSet T f m.keeps.words → PairSet T f m.breaks.words → (b : Bool) → PairSet T f (model.side (model_of m) b)
              sides k b true = k
              sides k b false = b

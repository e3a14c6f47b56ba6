-- What the calls show in a day: the numbers and the restarts are those of the list with the unseen ones put in, and each verdict, behind an unseen event too, is what the runs dictate.
use Rattle.std.specs.Prelude.{ℕ, zero, suc, ◌+◌, ◌-◌, ◌<◌, ◌≡◌, refl, Bool, true, false, not, length, get_or, take}
use Rattle.std.proofs.Common.{arith, sym, ap₂, subst, ◌∙◌}
use Rattle.std.proofs.Math.Path.{ap}
use mathlib.Core.List.{List, [], ◌∷◌, ◌++◌, map, map-append, foldl}
use Rattle.meaning.specs.Formula.{Formula}
use Rattle.meaning.specs.Run as run
use Rattle.meaning.specs.Event as meaning
use Rattle.meaning.specs.Event.{since}
use Rattle.meaning.specs.Verdict.{Right}
use Rattle.pairs.specs.Sets.{empty_of}
use Rattle.model.specs.LiveSet.{live_set}
use Rattle.model.specs.Monitor as model
use Rattle.model.proofs.Log.{log_right}
use Rattle.answers.specs.Paper.{number_of}
use Rattle.answers.proofs.Promises.{verdict_number}
use Rattle.plant.specs.declared.Plant.{Plant}
use Rattle.syntax.specs.declared.Rule.{Rule}
use Rattle.event_log.specs.declared.Event.{Event}
use Rattle.checks.specs.Input.{Input}
use Rattle.event_numbers.specs.Numbers as numbers
use Rattle.event_numbers.specs.Numbers.{missing_of, brings}
use Rattle.watching.specs.Filled.{filled_from, filled}
use Rattle.watching.specs.Watching as watching
use Rattle.watching.specs.Watching.{live_words}
use Rattle.stretches.specs.Afresh.{Shown}
use Rattle.day_sheet.specs.Afresh.{Numbered, count_from, numbered_by, numbered_from, verdict_in, shown_from, shown_of}
use Rattle.minutes_right.specs.DayMinutes.{unlit, ShownDay}

-- ---- the numbered list is the list with the unseen ones put in

abbrev events_in : List Numbered → List meaning.Event
events_in ns = map (λ (x : Numbered). x.event) ns

count_events : (n : ℕ) (es : List meaning.Event) → events_in (count_from n es) ≡ es
count_events n [] = refl
count_events n (e ∷ es) = ap (λ (l : List meaning.Event). e ∷ l) (count_events (n + 1) es)

numbered_events : (seen : Bool) (n : ℕ) (es : List Event) → events_in (numbered_from seen n es) ≡ filled_from seen n es
numbered_events seen n [] = refl
numbered_events seen n (e ∷ es) =
    let k = numbers.number_of e.num n in
    map-append (λ (x : Numbered). x.event) (numbered_by seen n e) (numbered_from true (k + 1) es)
    ∙ ap₂ (λ (l r : List meaning.Event). l ++ r) (count_events (k - missing_of seen n k) (brings seen n e)) (numbered_events true (k + 1) es)

pub numbered_filled : (es : List Event) → events_in (numbered_from false 0 es) ≡ filled es
numbered_filled es = numbered_events false 0 es

-- ---- what a monitor shows at each of them

module _ (T : run.Plant) (f : Formula) (live : List ℕ) where
  shown_numbers : (m : model.Monitor) (ns : List Numbered) → map (λ (x : Shown). x.number) (shown_from T f live m ns) ≡ map (λ (x : Numbered). x.number) ns
  shown_numbers m [] = refl
  shown_numbers m (x ∷ ns) = ap (λ (l : List ℕ). x.number ∷ l) (shown_numbers (model.step_of T f live m x.event) ns)

  shown_restarts : (m : model.Monitor) (ns : List Numbered) → map (λ (x : Shown). x.new) (shown_from T f live m ns) ≡ map (λ (e : meaning.Event). e.new) (events_in ns)
  shown_restarts m [] = refl
  shown_restarts m (x ∷ ns) = ap (λ (l : List Bool). x.event.new ∷ l) (shown_restarts (model.step_of T f live m x.event) ns)

  -- its verdict behind the first j + 1 of them
  shown_verdict : (m : model.Monitor) (ns : List Numbered) (j : ℕ) → j < length (shown_from T f live m ns)
      → (get_or (shown_from T f live m ns) j unlit).verdict ≡ verdict_in (foldl (model.step_of T f live) m (take (suc j) (events_in ns)))
  shown_verdict m [] j low = absurd (omega arith)
  shown_verdict m (x ∷ ns) zero low = refl
  shown_verdict m (x ∷ ns) (suc j) low = shown_verdict (model.step_of T f live m x.event) ns j (omega arith)

-- ---- with the live set that `prepare` gives

module _ (p : Plant) (fair label next : List ℕ) (rule : Rule) (given : Input p fair label next rule) where
  abbrev T : run.Plant
  T = watching.T p fair label next rule

  abbrev f : Formula
  f = watching.f p fair label next rule

  abbrev words : List ℕ
  words = (watching.live p fair label next rule).words

  -- a verdict's number is the model's
  paper_number : (m : model.Monitor) → number_of (verdict_in m) ≡ model.verdict m
  unfolding model.verdict
  paper_number m = verdict_number (not (empty_of m.keeps)) (not (empty_of m.breaks))

  module _ (es : List Event) where
    abbrev ns : List Numbered
    ns = numbered_from false 0 es

    abbrev first : model.Monitor
    first = model.opening T f words

    number_is : (j : ℕ) → j < length (shown_of T f words es) → number_of (get_or (shown_of T f words es) j unlit).verdict ≡ model.verdict (model.run_of T f (live_set T f) (take (suc j) (filled es)))
    unfolding model.run_of
    number_is j low =
        ap number_of (shown_verdict T f words first ns j low)
        ∙ ap (λ (l : List meaning.Event). number_of (verdict_in (foldl (model.step_of T f words) first (take (suc j) l)))) (numbered_filled es)
        ∙ ap (λ (w : List ℕ). number_of (verdict_in (foldl (model.step_of T f w) (model.opening T f w) (take (suc j) (filled es))))) (live_words p fair label next rule given)
        ∙ paper_number (foldl (model.step_of T f (live_set T f)) (model.opening T f (live_set T f)) (take (suc j) (filled es)))

    -- WHAT IS SHOWN IS RIGHT, event by event
    pub shown_right : ShownDay T f es (shown_of T f words es)
    shown_right = record {
      numbers = shown_numbers T f words first ns;
      restarts = shown_restarts T f words first ns ∙ ap (map (λ (e : meaning.Event). e.new)) (numbered_filled es);
      right = λ j low. subst (Right T f (since (take (suc j) (filled es)))) (sym (number_is j low)) (log_right T f given.table given.few (take (suc j) (filled es)));
    }

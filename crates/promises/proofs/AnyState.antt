-- More of specs/AnyState, which has its definitions. The step rule (01, The monitor's state), said of the calls: for ANY live set and state handed in, an accepted `open` or `step` holds exactly
-- the pairs that the rule of meaning/specs/Step asks for, taken for each event that is missing and then for the one that came (02, h), and what it shows goes by its two sets alone.
use mathlib.Core.Logic.Iff
use Rattle.std.specs.Prelude.{ℕ, ◌+◌, ◌≤◌, ◌<◌, ◌≡◌, refl, ◌↔◌, ◌⊎◌, Bool, length, replicate}
use Rattle.std.proofs.Common.{arith, subst}
use Rattle.std.proofs.Math.Path.{sym}
use Rattle.std.proofs.Math.Logic.{inl, inr, ⊎_elim}
use Rattle.std.proofs.Math.Bool.{true, false, not}
use Rattle.std.proofs.lemmas.Bool.{not-true}
use mathlib.Core.List.{List, foldl}
use Rattle.meaning.specs.Says.{Says}
use Rattle.meaning.specs.Formula.{Formula}
use Rattle.meaning.specs.Run as run
use Rattle.meaning.specs.Limits.{AcceptedTable, Small}
use Rattle.words.specs.Laws.{bit_or_lem}
use Rattle.words.specs.Folds.{count_beyond, any_says}
use Rattle.words.specs.Truth.{not_so, says_itself, says_or, says_same}
use Rattle.pairs.specs.declared.Pairs.{Pairs}
use Rattle.pairs.specs.Sets.{inside, empty_of, left_of, occupied, occupant}
use Rattle.theory.proofs.Alive.{valuations_few}
use Rattle.model.specs.Monitor as model
use Rattle.model.specs.Sets.{PairSet}
use Rattle.model.proofs.Rule.{opening_rule, opening_sets}
use Rattle.answers.specs.Paper.{verdict}
use Rattle.plant.specs.declared.Plant.{Plant}
use Rattle.syntax.specs.declared.Rule.{Rule}
use Rattle.event_log.specs.declared.Event.{Event}
use Rattle.sides.specs.declared.Monitor.{Monitor}
use Rattle.event_log.specs.Legal.{event_of}
use Rattle.sides.specs.Held.{model_of}
use Rattle.event_numbers.specs.Numbers.{number_of, missing_of, unseen, brings}
use Rattle.monitor.specs.Calls.{no_monitor, lamp_of, open_call, look_call, step_call}
use Rattle.monitor.specs.Promises.{lamp_paper, Fits, open_accepted, look_accepted, step_accepted}
use Rattle.watching.specs.Watching as watching
use Rattle.promises.specs.Demand.{side_of}
use Rattle.promises.specs.AnyState.{Accepts, Of, Opened, ShownBy, Sides, StaysOn, Stepped, passed, passed_look, restart_more, steps_rule, steps_seen}
use Rattle.promises.specs.AnyState as of_anystate

-- ---- the lamp of a monitor whose sets are of the table and the rule

module _ (T : run.Plant) (f : Formula) (A : AcceptedTable T) (small : Small f) (m : Monitor) (held : (b : Bool) → PairSet T f (side_of m b)) where
  low : (b : Bool) (s v : ℕ) → Sides m b s v → v < 64
  low b s v i = let k = ((held b).range s v i).1 in let p = valuations_few f small in omega arith

  abbrev occurs : ℕ → Bool
  occurs = of_anystate.occurs T f A small m held

  occurs_says : (s : ℕ) → Says (occurs s) ((b : Bool) × (v : ℕ) × Sides m b s v)
  unfolding of_anystate.occurs
  occurs_says s = Iff.trans
      (any_says _ _ (λ v. rw bit_or_lem (says_or (says_itself (inside m.keeps.words s v)) (says_itself (inside m.breaks.words s v)))) 64)
      (λ (v, _, o). ⊎_elim (λ i. (true, v, i)) (λ i. (false, v, i)) o, of)
    where
      of : ((b : Bool) × (v : ℕ) × Sides m b s v) → (v : ℕ) × (v < 64) × (Sides m true s v ⊎ Sides m false s v)
      of (true, v, i) = (v, low true s v i, inl i)
      of (false, v, i) = (v, low false s v i, inr i)

  pub shown_by : ShownBy T m (lamp_of (model_of m))
  unfolding model.verdict model.left left_of of_anystate.occurs
  shown_by = record {
    some = λ b. not (empty_of (side_of m b));
    some_says = λ b. (
      λ e. let (s, v, _, i) = occupant (side_of m b) (not-true _ e) in (s, v, i),
      λ (s, v, i). rw (occupied (side_of m b) s v (low b s v i) i),
    );
    left = model.left (model_of m);
    counts = (occurs, occurs_says, count_beyond occurs T.states 64 A.few_states none_beyond);
    shown = lamp_paper (model_of m);
  }
    where
      none_beyond : (s : ℕ) → T.states ≤ s → occurs s ≡ false
      none_beyond s le = not_so (occurs s) (λ o. let (b, v, i) = (occurs_says s).0 o in let k = ((held b).range s v i).0 in absurd (omega arith))

-- ---- the calls

module _ (p : Plant) (fair label next : List ℕ) (rule : Rule) (full : length rule.nodes ≡ 32) where
  abbrev T : run.Plant
  T = of_anystate.T p fair label next rule full

  abbrev f : Formula
  f = of_anystate.f p fair label next rule full

  -- both sets of a state are of the table and the rule
  two_sets : (m : Monitor) → Fits p fair label next rule full m → (b : Bool) → PairSet T f (side_of m b)
  two_sets m (keeps, (breaks, low)) true = keeps
  two_sets m (keeps, (breaks, low)) false = breaks

  -- THE OPENING, for any live set
  pub open_any : (live : Pairs) → Accepts (open_call p fair label next rule live).answer → Opened T f live (open_call p fair label next rule live)
  unfolding open_call model.opening
  open_any live a =
      let new = model.opening T f live.words in
      let ok = passed _ no_monitor 0 new a in
      let (given, fits) = (open_accepted p fair label next rule full live).0 ok in
      let sets = opening_sets T f given.table given.few live.words fits in
      rw ok (record {
        fresh = refl;
        expects = refl;
        holds = opening_rule T f given.table given.few live.words fits;
        lamp = shown_by T f given.table given.few _ sets;
      })

  -- THE LAMP of a look, for any state
  pub look_any : (m : Monitor) → Accepts (look_call p fair label next rule m) → ShownBy T m (look_call p fair label next rule m)
  unfolding look_call
  look_any m a =
      let ok = passed_look _ (model_of m) a in
      let (given, held) = (look_accepted p fair label next rule full m).0 ok in
      rw ok (shown_by T f given.table given.few m (two_sets m held))

  -- THE STEP RULE, for any live set, state and event
  pub step_any : (live : Pairs) (m : Monitor) (e : Event) → Accepts (step_call p fair label next rule live m e).answer → Stepped T f live m e (step_call p fair label next rule live m e)
  unfolding step_call
  step_any live m e a =
      let es = brings m.seen m.expected e in
      let ok = passed _ m (number_of e.num m.expected + 1) (foldl (model.step_of T f live.words) (model_of m) es) a in
      let ((given, (fits, held)), _) = (step_accepted p fair label next rule full live m e).0 ok in
      let sets = watching.brought_sets p fair label next rule given live fits (model_of m) (two_sets m held) es in
      rw ok (record {
        came = steps_seen T f given.table given.few live fits (replicate (missing_of m.seen m.expected (number_of e.num m.expected)) unseen) (event_of e) (model_of m);
        expects = refl;
        holds = steps_rule T f given.table given.few live fits es (model_of m) (two_sets m held);
        lamp = shown_by T f given.table given.few _ sets;
      })

  -- AT A LATER RESTART it plays no part how the pairs held were split: from two states that hold the same pairs and expect the same number the step goes to the same sets
  pub restart_any : (live : Pairs) (m other : Monitor) (e : Event) → e.new ≡ true → m.seen ≡ true → other.seen ≡ true → m.expected ≡ other.expected
      → ((s v : ℕ) → ((b : Bool) × Sides m b s v) ↔ ((b : Bool) × Sides other b s v))
      → Accepts (step_call p fair label next rule live m e).answer → Accepts (step_call p fair label next rule live other e).answer → (b : Bool) (s v : ℕ)
      → inside (side_of (step_call p fair label next rule live m e).monitor b) s v ≡ inside (side_of (step_call p fair label next rule live other e).monitor b) s v
  restart_any live m other e new came came' expects same a a' b s v =
      says_same (Iff.trans ((step_any live m e a).holds b s v) (turned m other came came' expects (λ s v. (same s v).0), turned other m came' came (sym expects) (λ s v. (same s v).1)))
      ((step_any live other e a').holds b s v)
    where
      Behind : Monitor → Bool → ℕ → Type 0
      Behind m seen n = StaysOn T f (Of live) (Sides m) seen (brings seen n e) b s v

      turned : (m other : Monitor) → m.seen ≡ true → other.seen ≡ true → m.expected ≡ other.expected
          → ((s v : ℕ) → ((b : Bool) × Sides m b s v) → (b : Bool) × Sides other b s v) → Behind m m.seen m.expected → Behind other other.seen other.expected
      turned m other came came' expects held o =
          let n = other.expected in
          subst (λ (c : Bool). Behind other c n) (sym came')
          (restart_more T f (Of live) (missing_of true n (number_of e.num n)) (event_of e) new (Sides m) (Sides other) held b s v
          (subst (λ (n : ℕ). Behind m true n) expects (subst (λ (c : Bool). Behind m c m.expected) came o)))

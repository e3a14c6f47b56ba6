-- The step rule (01, The monitor's state), said of the calls: for ANY live set and state handed in, an accepted `open` or `step` holds exactly the pairs that the rule of meaning/specs/Step asks for, taken for
-- each event that is missing and then for the one that came (02, h), and what it shows goes by its two sets alone. Nothing here asks that the live set was prepared, or that the state
-- was reached by events. Here are the definitions, and that the flag of the first event makes no difference; proofs/AnyState has the other proofs.
use mathlib.Core.Logic.Iff
use Rattle.std.specs.Prelude.{ℕ, zero, suc, ◌+◌, ◌≡◌, refl, Bool, length, replicate, Ok, Err}
use Rattle.std.proofs.Common.{◌∙◌}
use Rattle.std.proofs.Math.Path.{sym, ap}
use Rattle.std.proofs.Math.Bool.{true, false, So}
use Rattle.std.proofs.lemmas.Bool.{false≢true}
use mathlib.Core.List.{List, [], ◌∷◌, ◌++◌, foldl, foldl-append}
use Rattle.meaning.specs.Says.{Says}
use Rattle.meaning.specs.Formula.{Formula}
use Rattle.meaning.specs.Run as run
use Rattle.meaning.specs.Event as meaning
use Rattle.meaning.specs.Verdict.{verdict_of}
use Rattle.meaning.specs.Step as step
use Rattle.meaning.specs.Step.{Opens, Source, Stays}
use Rattle.meaning.proofs.Sense.{split_anew}
use Rattle.meaning.specs.Limits.{AcceptedTable, Small}
use Rattle.words.specs.Below.{count_below}
use Rattle.words.specs.Truth.{says_itself}
use Rattle.pairs.specs.declared.Pairs.{Pairs}
use Rattle.pairs.specs.Sets.{inside, occurs_in}
use Rattle.model.specs.Monitor as model
use Rattle.model.specs.Sets.{PairSet}
use Rattle.model.proofs.Rule.{step_rule, step_sets, first_restart}
use Rattle.answers.specs.declared.Lamp.{Lamp}
use Rattle.answers.specs.Results.{Answer}
use Rattle.answers.specs.Results.{Outcome}
use Rattle.answers.specs.Paper.{verdict, paper}
use Rattle.plant.specs.declared.Plant.{Plant}
use Rattle.syntax.specs.declared.Rule.{Rule}
use Rattle.event_log.specs.declared.Event.{Event}
use Rattle.sides.specs.declared.Monitor.{Monitor}
use Rattle.event_log.specs.Legal.{event_of}
use Rattle.sides.specs.Held.{model_of}
use Rattle.event_numbers.specs.Numbers.{number_of, unseen, brings}
use Rattle.monitor.specs.declared.Watched.{Watched}
use Rattle.monitor.specs.Calls.{watched, lit, step_checked, step_call}
use Rattle.watching.specs.Watching as watching
use Rattle.promises.specs.Demand.{side_of}

-- the pairs of a set handed in, and of the two sets of a monitor
abbrev pub Of : Pairs → step.Pairs
Of set s v = So (inside set.words s v)

abbrev pub Sides : Monitor → Bool → step.Pairs
Sides m b s v = So (inside (side_of m b) s v)

-- the call is accepted: it shows a lamp
abbrev pub Accepts : Answer → Type 0
Accepts a = (l : Lamp) × (a ≡ Ok l)

-- a monitor's lamp: the verdict by which of its two sets are occupied, and `left`, how many table states occur in them
pub record ShownBy (T : run.Plant) (m : Monitor) (a : Answer) : Type 0 where
  pub some : Bool → Bool
  pub some_says : (b : Bool) → Says (some b) ((s : ℕ) × (v : ℕ) × Sides m b s v)
  pub left : ℕ
  pub counts : (t : ℕ → Bool) × ((s : ℕ) → Says (t s) ((b : Bool) × (v : ℕ) × Sides m b s v)) × (left ≡ count_below T.states t)
  pub shown : paper a ≡ verdict (verdict_of (some true) (some false)) left

-- what is held behind some events: by the step rule, each from what was held before it. Behind the first of them an event came
abbrev pub StaysOn : run.Plant → Formula → step.Pairs → (Bool → step.Pairs) → Bool → List meaning.Event → Bool → step.Pairs
StaysOn T f live old seen [] = old
StaysOn T f live old seen (e ∷ es) = StaysOn T f live (Stays T f live old seen e) true es

-- what `open` gives: no event came, 0 is expected, and of the live pairs those at starting states, by the rule's value there
pub record Opened (T : run.Plant) (f : Formula) (live : Pairs) (w : Watched) : Type 0 where
  pub fresh : w.monitor.seen ≡ false
  pub expects : w.monitor.expected ≡ 0
  pub holds : (b : Bool) (s v : ℕ) → Says (inside (side_of w.monitor b) s v) (Of live s v × Opens T f b s v)
  pub lamp : ShownBy T w.monitor w.answer

-- what `step` gives: an event came, the number behind its own is expected, and the pairs of the step rule for all that the event brings
pub record Stepped (T : run.Plant) (f : Formula) (live : Pairs) (m : Monitor) (e : Event) (w : Watched) : Type 0 where
  pub came : w.monitor.seen ≡ true
  pub expects : w.monitor.expected ≡ number_of e.num m.expected + 1
  pub holds : (b : Bool) (s v : ℕ) → Says (inside (side_of w.monitor b) s v) (StaysOn T f (Of live) (Sides m) m.seen (brings m.seen m.expected e) b s v)
  pub lamp : ShownBy T w.monitor w.answer

-- ---- the lamp of a monitor whose sets are of the table and the rule

module _ (T : run.Plant) (f : Formula) (A : AcceptedTable T) (small : Small f) (m : Monitor) (held : (b : Bool) → PairSet T f (side_of m b)) where
  unfoldable pub occurs : ℕ → Bool
  occurs = occurs_in m.keeps.words m.breaks.words

-- ---- the step rule, event after event

module _ (T : run.Plant) (f : Formula) (live : step.Pairs) where
  -- who held more holds more
  source_more : (old more : Bool → step.Pairs) → ((c : Bool) (s v : ℕ) → old c s v → more c s v) → (seen new b : Bool) (s v : ℕ) → Source T f old seen new b s v → Source T f more seen new b s v
  source_more old more held false new b s v o = held b s v o
  source_more old more held true true b s v (h, (c, (s₀, v₀, (o, l)))) = (h, (c, (s₀, v₀, (held c s₀ v₀ o, l))))
  source_more old more held true false b s v (s₀, v₀, (o, l)) = (s₀, v₀, (held b s₀ v₀ o, l))

  stays_more : (es : List meaning.Event) (old more : Bool → step.Pairs) → ((c : Bool) (s v : ℕ) → old c s v → more c s v) → (seen b : Bool) (s v : ℕ)
      → StaysOn T f live old seen es b s v → StaysOn T f live more seen es b s v
  stays_more [] old more held seen b s v o = held b s v o
  stays_more (e ∷ es) old more held seen b s v o =
      stays_more es (Stays T f live old seen e) (Stays T f live more seen e) (λ c s v (i, g, o). (i, g, source_more old more held seen e.new c s v o)) true b s v o

  -- AT A RESTART behind unseen events it plays no part how the pairs held were split
  pub restart_more : (k : ℕ) (e : meaning.Event) → e.new ≡ true → (old other : Bool → step.Pairs) → ((s v : ℕ) → ((c : Bool) × old c s v) → (c : Bool) × other c s v) → (b : Bool) (s v : ℕ)
      → StaysOn T f live old true (replicate k unseen ++ e ∷ []) b s v → StaysOn T f live other true (replicate k unseen ++ e ∷ []) b s v
  restart_more zero e new old other held b s v = rw new (λ (i, g, o). (i, g, split_anew T f old other held b s v o))
  restart_more (suc k) e new old other held b s v =
      restart_more k e new (Stays T f live old true unseen) (Stays T f live other true unseen)
      (λ s v (c, (i, g, (s₀, v₀, (o, l)))). let (d, o') = held s₀ v₀ (c, o) in (d, (i, g, (s₀, v₀, (o', l))))) b s v

module _ (T : run.Plant) (f : Formula) (A : AcceptedTable T) (small : Small f) (live : Pairs) (fits : PairSet T f live.words) where
  -- the model holds these
  pub steps_rule : (es : List meaning.Event) (m : model.Monitor) → ((b : Bool) → PairSet T f (model.side m b)) → (b : Bool) (s v : ℕ)
      → Says (inside (model.side (foldl (model.step_of T f live.words) m es) b) s v) (StaysOn T f (Of live) (λ c s v. So (inside (model.side m c) s v)) m.seen es b s v)
  unfolding model.step_of
  steps_rule [] m held b s v = says_itself (inside (model.side m b) s v)
  steps_rule (e ∷ es) m held b s v =
      let now = model.step_of T f live.words m e in
      let one = step_rule T f A small live.words fits m held e in
      Iff.trans (steps_rule es now (step_sets T f A small live.words fits m held e) b s v) (
        stays_more T f (Of live) es _ _ (λ c s v i. (one c s v).0 i) true b s v,
        stays_more T f (Of live) es _ _ (λ c s v i. (one c s v).1 i) true b s v,
      )

  -- and behind the last of them an event came
  pub steps_seen : (es : List meaning.Event) (e : meaning.Event) (m : model.Monitor) → (foldl (model.step_of T f live.words) m (es ++ e ∷ [])).seen ≡ true
  unfolding model.step_of
  steps_seen es e m = ap (λ (x : model.Monitor). x.seen) (foldl-append (model.step_of T f live.words) m es (e ∷ []))

-- ---- the calls

is_shown : Answer → Bool
is_shown (Ok l) = true
is_shown (Err r) = false

-- a call that shows a lamp passed its checks
pub passed : (o : Outcome) (old : Monitor) (expected : ℕ) (new : model.Monitor) → Accepts (watched o old expected new).answer → o ≡ Ok tt
unfolding is_shown
passed (Ok _) old expected new a = refl
passed (Err r) old expected new (l, e) = absurd (false≢true (ap is_shown e))

pub passed_look : (o : Outcome) (m : model.Monitor) → Accepts (lit o m) → o ≡ Ok tt
unfolding is_shown
passed_look (Ok _) m a = refl
passed_look (Err r) m (l, e) = absurd (false≢true (ap is_shown e))

module _ (p : Plant) (fair label next : List ℕ) (rule : Rule) (full : length rule.nodes ≡ 32) where
  abbrev pub T : run.Plant
  T = watching.T p fair label next rule

  abbrev pub f : Formula
  f = watching.f p fair label next rule

  -- THE FLAG OF THE FIRST EVENT makes no difference, neither to the answer nor to the monitor, accepted or refused
  pub first_flag : (live : Pairs) (m : Monitor) (e : Event) → m.seen ≡ false
      → step_call p fair label next rule live m e ≡ step_call p fair label next rule live m (record { num = e.num; see = e.see; val = e.val; new = false })
  unfolding step_call
  first_flag live m e first =
      ap (watched (step_checked p fair label next rule live m e) m (number_of e.num m.expected + 1))
      (alone e ∙ first_restart T f live.words (model_of m) (event_of e) first ∙ sym (alone (record { num = e.num; see = e.see; val = e.val; new = false })))
    where
      -- the first event brings itself alone
      alone : (e : Event) → foldl (model.step_of T f live.words) (model_of m) (brings m.seen m.expected e) ≡ model.step_of T f live.words (model_of m) (event_of e)
      alone e = ap (λ (s : Bool). foldl (model.step_of T f live.words) (model_of m) (brings s m.expected e)) first

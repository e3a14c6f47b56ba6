-- Demand 3 (promise 3 of docs/PROMISES.md): after accepted events, fed one by one to the calls, the lamp says what the runs say.
use Rattle.std.specs.Prelude.{ℕ, zero, suc, ◌≡◌, refl, Bool, false, cond, not, List, [], ◌∷◌, ◌++◌, length, replicate, Ok, Err}
use Rattle.std.proofs.Common.{subst, append-nil, append_assoc, inl, inr, ⊎_elim}
use Rattle.meaning.specs.Says.{Says}
use Rattle.meaning.specs.Formula.{Formula}
use Rattle.meaning.specs.Run.{Lasso}
use Rattle.meaning.specs.Run as run
use Rattle.meaning.specs.Event as meaning
use Rattle.meaning.specs.Event.{History, since, now}
use Rattle.meaning.specs.Pair.{Live}
use Rattle.meaning.specs.Verdict.{Chosen, At, CanBe, Right}
use Rattle.words.specs.Below.{count_below}
use Rattle.pairs.specs.Sets.{inside, empty_of, occurs_in}
use Rattle.theory.specs.Narrow.{Narrower}
use Rattle.theory.specs.Join.{walk_then}
use Rattle.model.proofs.Lives.{live_says}
use Rattle.model.specs.Monitor as model
use Rattle.model.proofs.Shown.{occurs_says}
use Rattle.model.specs.Log as log
use Rattle.model.proofs.Log as log_laws
use Rattle.model.specs.Witness.{Witness}
use Rattle.answers.specs.Results.{Answer}
use Rattle.answers.specs.Paper.{verdict, paper, number_of, kind_number}
use Rattle.answers.proofs.Promises.{verdict_number}
use Rattle.plant.specs.declared.Plant.{Plant}
use Rattle.syntax.specs.declared.Rule.{Rule}
use Rattle.event_log.specs.declared.Event.{Event}
use Rattle.checks.specs.Input.{Input}
use Rattle.sides.specs.declared.Monitor.{Monitor}
use Rattle.event_log.specs.Legal.{event_of}
use Rattle.event_numbers.specs.Numbers as numbers
use Rattle.event_numbers.specs.Numbers.{missing_of, unseen, brings}
use Rattle.monitor.specs.Calls.{lamp_of}
use Rattle.monitor.specs.Promises.{lamp_paper}
use Rattle.watching.specs.Watching as watching
use Rattle.watching.specs.Filled.{seen_from, expected_from, filled}
use Rattle.watching.proofs.Filled.{filled_more}
use Rattle.watching.specs.Watching.{AllTaken}
use Rattle.watching.proofs.Watching.{after_model}

-- the first set (b is true) and the second
abbrev pub side_of : Monitor → Bool → List ℕ
side_of m b = cond b m.keeps.words m.breaks.words

-- the number that an answer shows on paper
abbrev pub shown_number : Answer → ℕ
shown_number (Ok l) = number_of l.verdict
shown_number (Err r) = kind_number r.kind

-- the lamp is right for what was seen: the verdict is the runs' own, and `left` counts the states in which an agreeing run can now be
pub record Lit (T : run.Plant) (f : Formula) (h : History) (a : Answer) : Type 0 where
  pub number : ℕ
  pub left : ℕ
  pub shown : paper a ≡ verdict number left
  pub right : Right T f h number
  pub counts : (t : ℕ → Bool) × ((s : ℕ) → Says (t s) (CanBe T h s)) × (left ≡ count_below T.states t)

-- what a monitor of the model shows
lamp_number_lem : (m : model.Monitor) → shown_number (lamp_of m) ≡ model.verdict m
unfolding model.verdict
lamp_number_lem m = verdict_number (not (empty_of m.keeps)) (not (empty_of m.breaks))

-- one narrowing behind another
narrower_on : {a b c : ℕ} → Narrower a b → Narrower b c → Narrower a c
narrower_on n m = record {
  from_true = λ e. ⊎_elim (λ g. m.from_true g) (λ g. inr (m.from_out g)) (n.from_true e);
  from_false = λ e. ⊎_elim (λ g. m.from_false g) (λ g. inr (m.from_out g)) (n.from_false e);
  from_out = λ e. m.from_out (n.from_out e);
}

-- no event of a list is a restart: so it is with all that an event without one brings
abbrev Calm : List meaning.Event → Type 0
Calm [] = Unit {0}
Calm (e ∷ es) = (e.new ≡ false) × Calm es

calm_brings : (k : ℕ) (e : meaning.Event) → e.new ≡ false → Calm (replicate k unseen ++ e ∷ [])
calm_brings zero e calm = (calm, tt)
calm_brings (suc k) e calm = (refl, calm_brings k e calm)

module _ (p : Plant) (fair label next : List ℕ) (rule : Rule) (given : Input p fair label next rule) where
  abbrev T : run.Plant
  T = watching.T p fair label next rule

  abbrev f : Formula
  f = watching.f p fair label next rule

  -- the live set that `prepare` gives holds exactly the live pairs
  pub live_exactly : (s v : ℕ) → Says (inside (watching.live p fair label next rule).words s v) (Live T f s v)
  live_exactly s v = rw (watching.live_words p fair label next rule given) (live_says T f given.table given.few s v)

  -- the model's verdict, behind more events
  abbrev number : List meaning.Event → ℕ
  number es = model.verdict (log.watched T f es)

  one_on : (xs : List meaning.Event) (y : meaning.Event) (ys : List meaning.Event) → (xs ++ y ∷ []) ++ ys ≡ xs ++ y ∷ ys
  one_on xs y ys = append_assoc xs (y ∷ []) ys

  narrows_on : (xs ys : List meaning.Event) → Calm ys → Narrower (number xs) (number (xs ++ ys))
  narrows_on xs [] calm = rw append-nil (record { from_true = inl; from_false = inl; from_out = λ e. e })
  narrows_on xs (y ∷ ys) (c, cs) =
      narrower_on (log_laws.log_narrows T f given.table given.few xs y c) (subst (λ (l : List meaning.Event). Narrower (number (xs ++ y ∷ [])) (number l)) (one_on xs y ys) (narrows_on (xs ++ y ∷ []) ys cs))

  out_on : (xs ys : List meaning.Event) → number xs ≡ 3 → number (xs ++ ys) ≡ 3
  out_on xs [] out = rw append-nil out
  out_on xs (y ∷ ys) out =
      subst (λ (l : List meaning.Event). number l ≡ 3) (one_on xs y ys) (out_on (xs ++ y ∷ []) ys (log_laws.log_out T f given.table given.few xs y out))

  module _ (es : List Event) (legal : AllTaken p fair label next rule es) where
    -- what the log tells: all events, with the unseen ones put in, and the last restart's position
    abbrev h : History
    h = since (filled es)

    -- a pair is in a set of the monitor exactly where some run of that set's kind agrees with the events and is at this pair now
    pub sets_exactly : (b : Bool) (s v : ℕ) → Says (inside (side_of (watching.after p fair label next rule es).monitor b) s v) (At T f b h s v)
    sets_exactly b s v = rw (after_model p fair label next rule given es legal) (log_laws.log_sets T f given.table given.few (filled es) b s v)

    -- and the lamp says what the runs say
    pub lamp_right : Lit T f h (watching.after p fair label next rule es).answer
    lamp_right = rw (after_model p fair label next rule given es legal) (record {
      number = model.verdict (log.watched T f (filled es));
      left = model.left (log.watched T f (filled es));
      shown = lamp_paper (log.watched T f (filled es));
      right = log_laws.log_right T f given.table given.few (filled es);
      counts = (can, can_says, log_laws.log_left T f given.table given.few (filled es) can can_says);
    })
      where
        can : ℕ → Bool
        can = occurs_in (log.watched T f (filled es)).keeps (log.watched T f (filled es)).breaks

        can_says : (s : ℕ) → Says (can s) (CanBe T h s)
        can_says = occurs_says T f given.table given.few (log.watched T f (filled es)) h (log_laws.log_means T f given.table given.few (filled es))

    -- how a witness that is asked for now goes on: some walk that agrees with the events, joined with it, is a run of the asked kind, judged at
    -- the last restart
    pub witness_goes_on : (b : Bool) (L : Lasso) → Witness T f (side_of (watching.after p fair label next rule es).monitor b) L
        → (walk : List ℕ) × (length walk ≡ now h) × Chosen T f b h (walk_then walk L)
    witness_goes_on b L w = log_laws.log_witness T f given.table given.few (filled es) b L
        (subst (λ m. Witness T f (side_of m.monitor b) L) (after_model p fair label next rule given es legal) w)

    -- without a restart true stays true or turns out-of-model, false likewise, and out-of-model stays
    pub lamp_narrows : (e : Event) → AllTaken p fair label next rule (es ++ e ∷ []) → e.new ≡ false
        → Narrower (shown_number (watching.after p fair label next rule es).answer) (shown_number (watching.after p fair label next rule (es ++ e ∷ [])).answer)
    lamp_narrows e legal' old =
        rw (after_model p fair label next rule given es legal, after_model p fair label next rule given (es ++ e ∷ []) legal', lamp_number_lem, lamp_number_lem, filled_more)
        (narrows_on (filled es) (brings (seen_from false es) (expected_from 0 es) e) (calm_brings (missing_of (seen_from false es) (expected_from 0 es) (numbers.number_of e.num (expected_from 0 es))) (event_of e) old))

    -- out-of-model stays whatever comes, a restart too
    pub out_stays : (e : Event) → AllTaken p fair label next rule (es ++ e ∷ [])
        → shown_number (watching.after p fair label next rule es).answer ≡ 3 → shown_number (watching.after p fair label next rule (es ++ e ∷ [])).answer ≡ 3
    out_stays e legal' =
        rw (after_model p fair label next rule given es legal, after_model p fair label next rule given (es ++ e ∷ []) legal', lamp_number_lem, lamp_number_lem, filled_more)
        (out_on (filled es) (brings (seen_from false es) (expected_from 0 es) e))

-- After any list of events the monitor's two sets hold exactly the pairs where a run of their kind can now be.
use mathlib.Core.Logic.Iff
use Rattle.std.specs.Prelude.{ℕ, ◌<◌, ◌≡◌, refl, ◌↔◌, Bool, cond, length}
use Rattle.std.proofs.Common.{arith}
use Rattle.std.proofs.Math.Bool.{true, false, So}
use mathlib.Core.List.{List, [], ◌∷◌, foldl}
use Rattle.std.proofs.Math.ListN.{length-append}
use Rattle.pairs.specs.Sets.{inside}
use Rattle.meaning.specs.Says.{Says}
use Rattle.meaning.specs.Formula.{Formula}
use Rattle.meaning.specs.Run.{Plant, label_of}
use Rattle.meaning.specs.Event.{Agrees, Event, History, none, more, again, grow, since}
use Rattle.meaning.specs.Verdict.{At}
use Rattle.meaning.specs.Limits.{AcceptedTable, Small}
use Rattle.theory.specs.Opening.{at_opening, at_first}
use Rattle.theory.specs.Step.{Came, at_step, at_again}
use Rattle.model.specs.Sets.{PairSet}
use Rattle.model.specs.LiveSet.{live_set}
use Rattle.model.proofs.Lives.{live_set_lem, live_says}
use Rattle.model.specs.Monitor.{Monitor, side, opening, step_of, run_of}
use Rattle.meaning.specs.Step.{Opens, Led, Source}
use Rattle.model.proofs.Rule.{In, opening_rule, step_rule, step_sets, opening_sets}

-- whether an event came; if so, the mark is the position of one of them
abbrev pub Begun : Bool → History → Type 0
Begun true h = h.mark < length h.events
Begun false h = h ≡ none

-- the monitor's sets say where the runs of each kind can now be
pub record Means (T : Plant) (f : Formula) (m : Monitor) (h : History) : Type 0 where
  pub begun : Begun m.seen h
  pub sets : (b : Bool) → PairSet T f (side m b)
  pub says : (b : Bool) (s v : ℕ) → Says (inside (side m b) s v) (At T f b h s v)

module _ (T : Plant) (f : Formula) (A : AcceptedTable T) (small : Small f) where
  -- the live set as preparing works it out
  abbrev live : List ℕ
  live = live_set T f

  opens_says : (b : Bool) (s v : ℕ) → (So (inside live s v) × Opens T f b s v) ↔ At T f b none s v
  opens_says b s v = Iff.trans
      (λ (i, (x, y)). ((live_says T f A small s v).0 i, x, y), λ (k, x, y). ((live_says T f A small s v).1 k, (x, y)))
      (Iff.symm (at_opening T f b s v))

  -- before any event
  pub means_opening : Means T f (opening T f live) none
  unfolding opening
  means_opening = record {
    begun = refl;
    sets = opening_sets T f A small live (live_set_lem T f A small);
    says = λ b s v. Iff.trans (opening_rule T f A small live (live_set_lem T f A small) b s v) (opens_says b s v);
  }

  module _ (m : Monitor) (h : History) (k : Means T f m h) (e : Event) where
    came_says : (b : Bool) (s v : ℕ) → Led T f (In (side m b)) s v ↔ Came T f b h s v
    came_says b s v = (
      λ (s₀, v₀, (i, l)). (s₀, v₀, ((k.says b s₀ v₀).0 i, l)),
      λ (s₀, v₀, (a, l)). (s₀, v₀, ((k.says b s₀ v₀).1 a, l)),
    )

    moved_says : (b : Bool) (s v : ℕ) → Begun true h
        → (So (inside live s v) × Agrees e.seen (label_of T s) × Led T f (In (side m b)) s v) ↔ At T f b (more h e.seen) s v
    moved_says b s v begun = Iff.trans
        (λ (i, ag, c). ((live_says T f A small s v).0 i, ag, (came_says b s v).0 c), λ (l, ag, c). ((live_says T f A small s v).1 l, ag, (came_says b s v).1 c))
        (Iff.symm (at_step T f b h e.seen begun s v))

    -- by whether an event came before, and whether this one is a restart
    kept_says : (seen new b : Bool) (s v : ℕ) → Begun seen h
        → (So (inside live s v) × Agrees e.seen (label_of T s) × Source T f (λ c. In (side m c)) seen new b s v)
        ↔ At T f b (cond new (again h e.seen) (more h e.seen)) s v
    kept_says true true b s v begun = Iff.trans (
      λ (i, ag, (k, (c, l))). (k, (c, (moved_says c s v begun).0 (i, ag, l))),
      λ (k, (c, a)). let (i, ag, l) = (moved_says c s v begun).1 a in (i, ag, (k, (c, l))),
    ) (Iff.symm (at_again T f b h e.seen s v))
    kept_says true false b s v begun = moved_says b s v begun
    kept_says false new b s v begun = Iff.trans
        (λ (_, ag, i). (rw begun at ((k.says b s v).0 i), ag), λ (a, ag). (((opens_says b s v).1 a).0, ag, (k.says b s v).1 (rw begun a)))
        (Iff.trans (Iff.symm (at_first T f b e.seen s v)) (same new))
      where
        same : (new : Bool) → At T f b (more none e.seen) s v ↔ At T f b (cond new (again h e.seen) (more h e.seen)) s v
        same true = rw begun (λ a. a, λ a. a)
        same false = rw begun (λ a. a, λ a. a)

    -- one event more
    pub means_step : Means T f (step_of T f live m e) (grow h e)
    unfolding step_of grow
    means_step = record {
      begun = marked e.new m.seen k.begun;
      sets = step_sets T f A small live (live_set_lem T f A small) m k.sets e;
      says = λ b s v. Iff.trans (step_rule T f A small live (live_set_lem T f A small) m k.sets e b s v) (kept_says m.seen e.new b s v k.begun);
    }
      where
        marked : (new seen : Bool) → Begun seen h → Begun true (cond new (again h e.seen) (more h e.seen))
        marked true seen k = rw length-append (omega arith)
        marked false true k = rw length-append (omega arith)
        marked false false k = rw k (omega arith)

  -- whatever the events, restarts among them
  pub means_run : (es : List Event) → Means T f (run_of T f live es) (since es)
  unfolding run_of since
  means_run es = go es (opening T f live) none means_opening
    where
      go : (es : List Event) (m : Monitor) (h : History) → Means T f m h → Means T f (foldl (step_of T f live) m es) (foldl grow h es)
      go [] m h k = k
      go (e ∷ es) m h k = go es (step_of T f live m e) (grow h e) (means_step m h k e)

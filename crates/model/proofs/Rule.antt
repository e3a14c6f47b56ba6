-- The step rule (01, The monitor's state), for any live set and any state handed in: which pairs the opening and a step hold.
use mathlib.Core.Logic.Iff
use Rattle.std.specs.Prelude.{ℕ, ◌^◌, ◌≤◌, ◌<◌, ◌≡◌, ◌⊎◌, Bool, ◌&&◌, cond, List, ltb, get_or}
use Rattle.std.proofs.Common.{arith, inl, inr, ⊎_elim}
use Rattle.std.proofs.Math.Path.{refl}
use Rattle.std.proofs.Math.Bool.{true, false, So, beq}
use Rattle.std.specs.Int.Bits.{bit_and}
use Rattle.meaning.specs.Bit.{bit}
use Rattle.words.specs.Below.{words_below}
use Rattle.words.specs.Laws.{bit_and_lem}
use Rattle.words.specs.Lists.{length_words}
use Rattle.words.specs.Unions.{word_at_lem}
use Rattle.pairs.specs.Sets.{inside, join_of, inside_join, length_join}
use Rattle.labels.specs.Labels.{agreeing_of, bit_agreeing, agrees_says}
use Rattle.meaning.specs.Says.{Says}
use Rattle.meaning.specs.Formula.{Formula, parts}
use Rattle.meaning.specs.Run.{Plant, label_of}
use Rattle.meaning.specs.Event.{Seen, Agrees, Event}
use Rattle.meaning.specs.Step.{value, Pairs, HasValue, Opens, Led, Source, Stays}
use Rattle.meaning.specs.Limits.{AcceptedTable, Small}
use Rattle.theory.proofs.Alive.{valuations_few}
use Rattle.model.specs.Sets.{PairSet}
use Rattle.pairs.specs.Sets.{inside_words}
use Rattle.model.specs.Leads.{reached_says}
use Rattle.model.specs.Monitor.{Monitor, side, holding, opens_at, opening, led_at, source_at, kept_of, step_of}
use Rattle.words.specs.Truth.{says_itself, says_and, says_or, beq_says}
use Rattle.words.specs.Tests.{lt_says}

-- the pairs of a list of words
abbrev pub In : List ℕ → Pairs
In Z s v = So (inside Z s v)

module _ (T : Plant) (f : Formula) (live : List ℕ) where
  pub side_opening : (b : Bool) → side (opening T f live) b ≡ words_below (2 ^ parts f) (opens_at T f live b)
  unfolding opening
  side_opening true = refl
  side_opening false = refl

  pub side_step : (m : Monitor) (e : Event) (b : Bool) → side (step_of T f live m e) b ≡ kept_of T f live m e b
  unfolding step_of
  side_step m e true = refl
  side_step m e false = refl

module _ (T : Plant) (f : Formula) (A : AcceptedTable T) (small : Small f) (live : List ℕ) (l : PairSet T f live) where
  abbrev n : ℕ
  n = 2 ^ parts f

  few : n ≤ 64
  few = valuations_few f small

  -- the live pairs that are in the words a and g, which may be read there
  live_words : (a g : ℕ → ℕ) (s v : ℕ) {P Q : Type 0} → (So (inside live s v) → Says (bit (a v) s) P) → (So (inside live s v) → Says (bit (g v) s) Q)
      → Says (inside (words_below n (λ v. bit_and (bit_and (get_or live v 0) (a v)) (g v))) s v) (So (inside live s v) × P × Q)
  live_words a g s v p q = rw (inside_words n (λ v. bit_and (bit_and (get_or live v 0) (a v)) (g v)) few s v, bit_and_lem, bit_and_lem) (
    λ e. let (_, h) = all.0 e in let ((i, x), y) = h in (i, (p i).0 x, (q i).0 y),
    λ (i, x, y). all.1 ((l.range s v i).1, ((i, (p i).1 x), (q i).1 y)),
  )
    where
      all : Says (ltb v n && ((inside live s v && bit (a v) s) && bit (g v) s)) ((v < n) × ((So (inside live s v) × So (bit (a v) s)) × So (bit (g v) s)))
      all = says_and (lt_says v n) (says_and (says_and (says_itself (inside live s v)) (says_itself (bit (a v) s))) (says_itself (bit (g v) s)))

  holding_says : (b : Bool) (s v : ℕ) → s < T.states → Says (bit (holding T f b v) s) (HasValue T f b s v)
  unfolding holding
  holding_says b s v ls = rw (word_at_lem T.states (λ s. beq (value f 0 (label_of T s) v) b) s ls) (beq_says (value f 0 (label_of T s) v) b)

  -- the opening holds the live pairs at starting states, each in the set that the rule's value there says
  pub opening_rule : (b : Bool) (s v : ℕ) → Says (inside (side (opening T f live) b) s v) (So (inside live s v) × Opens T f b s v)
  unfolding opens_at
  opening_rule b s v = rw (side_opening T f live b) (Iff.trans
      (live_words (λ _. T.start) (holding T f b) s v (λ i. says_itself _) (λ i. holding_says b s v (l.range s v i).0))
      (λ (i, x, y). (i, (x, y)), λ (i, (x, y)). (i, x, y)))

  agree_says : (e : Seen) (s : ℕ) → s < T.states → Says (bit (agreeing_of T.label e.see e.val) s) (Agrees e (label_of T s))
  agree_says e s ls = rw (bit_agreeing T.label e.see e.val s (rw A.labels ls))
      (agrees_says e.see e.val (label_of T s))

  module _ (m : Monitor) (held : (b : Bool) → PairSet T f (side m b)) where
    -- both sets
    abbrev both : List ℕ
    both = join_of m.keeps m.breaks

    both_says : (s v : ℕ) → Says (inside both s v) ((c : Bool) × So (inside (side m c) s v))
    both_says s v = rw (inside_join m.keeps m.breaks s v) (Iff.trans
        (says_and (lt_says v 64) (says_or (says_itself (inside m.keeps s v)) (says_itself (inside m.breaks s v))))
        (λ (_, i). ⊎_elim (λ k. (true, k)) (λ k. (false, k)) i, of))
      where
        of : (c : Bool) × So (inside (side m c) s v) → (v < 64) × (So (inside m.keeps s v) ⊎ So (inside m.breaks s v))
        of (true, i) = (let k = ((held true).range s v i).1 in let p = few in omega arith, inl i)
        of (false, i) = (let k = ((held false).range s v i).1 in let p = few in omega arith, inr i)

    pub both_set : PairSet T f both
    both_set = record { long = length_join m.keeps m.breaks; range = λ s v i. let (c, k) = (both_says s v).0 i in (held c).range s v k }

    -- what they lead to as one, one of them leads to
    both_lead : (s v : ℕ) → s < T.states → Says (bit (led_at T f both v) s) ((c : Bool) × Led T f (In (side m c)) s v)
    both_lead s v ls = Iff.trans (reached_says T f A both both_set s v ls) (
      λ (s₀, v₀, (i, k)). let (c, j) = (both_says s₀ v₀).0 i in (c, (s₀, v₀, (j, k))),
      λ (c, (s₀, v₀, (j, k))). (s₀, v₀, ((both_says s₀ v₀).1 (c, j), k)),
    )

    -- by whether an event came before, and whether this one is a restart
    source_says : (seen new b : Bool) (s v : ℕ) → So (inside live s v)
        → Says (bit (cond seen (cond new (bit_and (led_at T f both v) (holding T f b v)) (led_at T f (side m b) v)) (get_or (side m b) v 0)) s)
        (Source T f (λ c. In (side m c)) seen new b s v)
    source_says false new b s v i = says_itself (inside (side m b) s v)
    source_says true false b s v i = reached_says T f A (side m b) (held b) s v (l.range s v i).0
    source_says true true b s v i = let ls = (l.range s v i).0 in
        rw bit_and_lem (Iff.trans (says_and (both_lead s v ls) (holding_says b s v ls)) (λ (x, y). (y, x), λ (y, x). (x, y)))

    pub step_rule : (e : Event) (b : Bool) (s v : ℕ)
        → Says (inside (side (step_of T f live m e) b) s v) (Stays T f (In live) (λ c. In (side m c)) m.seen e b s v)
    unfolding kept_of source_at
    step_rule e b s v = rw (side_step T f live m e b)
        (live_words _ (source_at T f live m e.new b) s v (λ i. agree_says e.seen s (l.range s v i).0) (source_says m.seen e.new b s v))

    -- and these are sets of pairs again
    pub step_sets : (e : Event) (b : Bool) → PairSet T f (side (step_of T f live m e) b)
    unfolding kept_of
    step_sets e b = record { long = rw (side_step T f live m e b) (length_words n _); range = λ s v i. l.range s v ((step_rule e b s v).0 i).0 }

  pub opening_sets : (b : Bool) → PairSet T f (side (opening T f live) b)
  opening_sets b = record { long = rw (side_opening T f live b) (length_words n _); range = λ s v i. l.range s v ((opening_rule b s v).0 i).0 }

-- at the first event the step is the same with the flag and without it (01, Meaning on a run)
pub first_restart : (T : Plant) (f : Formula) (live : List ℕ) (m : Monitor) (e : Event) → m.seen ≡ false
    → step_of T f live m e ≡ step_of T f live m (record { seen = e.seen; new = false })
unfolding step_of kept_of source_at
first_restart T f live m e first = rw first

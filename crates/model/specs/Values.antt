-- The value of a rule a word of states at a time, for one valuation. Bits beyond the table's states do not matter.
use Rattle.std.specs.Prelude.{ℕ, ◌+◌, ◌-◌, ◌^◌, ◌<◌, ◌≡◌, Bool, cond}
use Rattle.std.proofs.Common.{lt_of_lt_of_le, ◌∙◌, lt-ltb}
use Rattle.std.proofs.Math.Path.{sym, ap, ap₂}
use Rattle.std.proofs.Math.Bool.{true, false, ◌&&◌, ◌||◌, not, beq}
use Rattle.std.specs.Int.Bits.{bit_and, bit_or}
use Rattle.meaning.specs.Bit.{bit}
use Rattle.words.specs.Word.{only_of}
use Rattle.words.specs.Laws.{bit_and_lem, bit_or_lem, bit_not, bit_all, bit_zero}
use Rattle.words.specs.Unions.{word_at_lem}
use Rattle.labels.specs.Labels.{having_of, bit_having}
use Rattle.meaning.specs.Formula.{Formula, never, always, prop, neg, next, finally, globally, until, release, and, or, implies, parts}
use Rattle.meaning.specs.Run.{Plant, label_of}
use Rattle.meaning.specs.Limits.{AcceptedTable}
use Rattle.meaning.specs.Step.{Value, value}
use Rattle.model.specs.Monitor.{holding}
use Rattle.words.specs.Truth.{beq_true, beq_false}

-- among the table's states, the members of x are those where g is true at the valuation v
abbrev pub Tells : Plant → Value → ℕ → ℕ → Type 0
Tells T g v x = (s : ℕ) → s < T.states → bit x s ≡ g (label_of T s) v

-- the word x shows the rule f, its parts numbered from n, at the valuation v
abbrev pub Shows : Plant → Formula → ℕ → ℕ → ℕ → Type 0
Shows T f n = Tells T (value f n)

-- all states, or none
abbrev pub wholly : Bool → ℕ
wholly b = only_of b (2 ^ 64 - 1)

module _ (T : Plant) (A : AcceptedTable T) (n v : ℕ) where
  pub bit_wholly : (b : Bool) (s : ℕ) → s < T.states → bit (wholly b) s ≡ b
  bit_wholly true s l = bit_all 64 s ∙ lt-ltb s 64 (lt_of_lt_of_le l A.few_states)
  bit_wholly false s l = bit_zero s

  bit_complement : (x : ℕ) → x < 2 ^ 64 → (s : ℕ) → s < T.states → bit (2 ^ 64 - 1 - x) s ≡ not (bit x s)
  bit_complement x h s l = bit_not 64 h s ∙ rw (lt-ltb s 64 (lt_of_lt_of_le l A.few_states))

  pub shows_never : Shows T never n v 0
  unfolding value
  shows_never s l = bit_zero s

  pub shows_always : Shows T always n v (2 ^ 64 - 1)
  unfolding value
  shows_always s l = bit_wholly true s l

  pub shows_prop : (p : ℕ) → Shows T (prop p) n v (having_of T.label p)
  unfolding value
  shows_prop p s l = bit_having T.label p s (rw A.labels l)

  -- a temporal part: all states or none, by its digit of v
  pub shows_next : (a : Formula) → Shows T (next a) n v (wholly (bit v n))
  unfolding value
  shows_next a = bit_wholly (bit v n)

  pub shows_finally : (a : Formula) → Shows T (finally a) n v (wholly (bit v n))
  unfolding value
  shows_finally a = bit_wholly (bit v n)

  pub shows_globally : (a : Formula) → Shows T (globally a) n v (wholly (bit v n))
  unfolding value
  shows_globally a = bit_wholly (bit v n)

  pub shows_until : (a b : Formula) → Shows T (until a b) n v (wholly (bit v (n + parts a)))
  unfolding value
  shows_until a b = bit_wholly (bit v (n + parts a))

  pub shows_release : (a b : Formula) → Shows T (release a b) n v (wholly (bit v (n + parts a)))
  unfolding value
  shows_release a b = bit_wholly (bit v (n + parts a))

  pub shows_neg : (a : Formula) (x : ℕ) → x < 2 ^ 64 → Shows T a n v x → Shows T (neg a) n v (2 ^ 64 - 1 - x)
  unfolding value
  shows_neg a x h p s l = bit_complement x h s l ∙ ap not (p s l)

  module _ (a b : Formula) (x y : ℕ) (p : Shows T a n v x) (q : Shows T b (n + parts a) v y) where
    pub shows_and : Shows T (and a b) n v (bit_and x y)
    unfolding value
    shows_and s l = bit_and_lem x y s ∙ ap₂ ◌&&◌ (p s l) (q s l)

    pub shows_or : Shows T (or a b) n v (bit_or x y)
    unfolding value
    shows_or s l = bit_or_lem x y s ∙ ap₂ ◌||◌ (p s l) (q s l)

    pub shows_implies : x < 2 ^ 64 → Shows T (implies a b) n v (bit_or (2 ^ 64 - 1 - x) y)
    unfolding value
    shows_implies h s l = bit_or_lem (2 ^ 64 - 1 - x) y s ∙ ap₂ ◌||◌ (bit_complement x h s l ∙ ap not (p s l)) (q s l)

-- so the states where the rule has the value b
module _ (T : Plant) (f : Formula) (A : AcceptedTable T) (v x : ℕ) (p : Shows T f 0 v x) (fits : x < 2 ^ 64) where
  pub holding_bit : (b : Bool) (s : ℕ) → s < T.states → bit (holding T f b v) s ≡ bit (cond b x (2 ^ 64 - 1 - x)) s
  unfolding holding
  holding_bit true s l = word_at_lem T.states (λ s. beq (value f 0 (label_of T s) v) true) s l ∙ beq_true (value f 0 (label_of T s) v) ∙ sym (p s l)
  holding_bit false s l =
      word_at_lem T.states (λ s. beq (value f 0 (label_of T s) v) false) s l
      ∙ beq_false (value f 0 (label_of T s) v) ∙ ap not (sym (p s l)) ∙ sym (bit_complement T A 0 v x fits s l)

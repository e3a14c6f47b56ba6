-- What a table tells of a part, from the words of its sides.
use Rattle.std.specs.Prelude.{ℕ, ◌-◌, ◌^◌, ◌<◌, ◌≡◌, refl, Bool, cond}
use Rattle.std.proofs.Common.{sym, ap, ◌∙◌, arith, lt_of_lt_of_le, lt_of_le_of_lt, lt-ltb}
use Rattle.std.proofs.Math.Path.{ap₂}
use Rattle.std.proofs.Math.Bool.{true, false, not, ◌||◌, and-false, or-true}
use Rattle.std.specs.Int.Bits.{bit_or}
use Rattle.std.proofs.lemmas.Nat.{or_lt, and_le_l}
use Rattle.meaning.specs.Bit.{bit}
use Rattle.meaning.specs.Run.{Plant, label_of}
use Rattle.meaning.specs.Limits.{AcceptedTable}
use Rattle.syntax.specs.declared.Op.{Op}
use Rattle.syntax.specs.declared.Op.TheVariants.{False, True, Prop, Not, Next, Finally, Globally, Until, Release, And, Or, Implies}
use Rattle.words.specs.Laws.{bit_or_lem, bit_not, bit_zero}
use Rattle.meaning.specs.Step.{Value, Part, next_part, untilPart, releasePart}
use Rattle.theory.specs.Move.{settled}
use Rattle.model.specs.Values.{Tells, wholly, bit_wholly}
use Rattle.model.specs.Tables.{unfolds, operand_of}
use Rattle.model.specs.Unfold.{next_row, next_operand, until_low, until_high, release_low, release_high}
use Rattle.shape.specs.Ops.{is_step}
use Rattle.truth.specs.Asked.{Asked, Low, High, Operand, Settled}
use Rattle.truth.specs.Rows.{low_of, high_of, settled_of, told_of}

-- what is asked of a part
abbrev pub meant : Asked → Part → Value
meant Low c = unfolds c false
meant High c = unfolds c true
meant Operand c = operand_of c
meant Settled c = settled c

-- ---- the answers are words

module _ (x y own : ℕ) (lx : x < 2 ^ 64) (ly : y < 2 ^ 64) (lo : own < 2 ^ 64) where
  low_small : (o : Op) → low_of o x y own < 2 ^ 64
  low_small False = omega arith
  low_small True = omega arith
  low_small (Prop p) = omega arith
  low_small Not = omega arith
  low_small Next = lo
  low_small Finally = ly
  low_small Globally = omega arith
  low_small Until = ly
  low_small Release = lt_of_le_of_lt (and_le_l y x) ly
  low_small And = omega arith
  low_small Or = omega arith
  low_small Implies = omega arith

  high_small : (o : Op) → high_of o x y own < 2 ^ 64
  high_small False = omega arith
  high_small True = omega arith
  high_small (Prop p) = omega arith
  high_small Not = omega arith
  high_small Next = lo
  high_small Finally = omega arith
  high_small Globally = ly
  high_small Until = or_lt 64 y x ly lx
  high_small Release = ly
  high_small And = omega arith
  high_small Or = omega arith
  high_small Implies = omega arith

  operand_small : (b : Bool) → cond b y (2 ^ 64 - 1) < 2 ^ 64
  operand_small true = ly
  operand_small false = omega arith

  settled_small : (o : Op) → settled_of o y own < 2 ^ 64
  settled_small False = omega arith
  settled_small True = omega arith
  settled_small (Prop p) = omega arith
  settled_small Not = omega arith
  settled_small Next = omega arith
  settled_small Finally = or_lt 64 (2 ^ 64 - 1 - own) y (omega arith) ly
  settled_small Globally = or_lt 64 own (2 ^ 64 - 1 - y) lo (omega arith)
  settled_small Until = or_lt 64 (2 ^ 64 - 1 - own) y (omega arith) ly
  settled_small Release = or_lt 64 own (2 ^ 64 - 1 - y) lo (omega arith)
  settled_small And = omega arith
  settled_small Or = omega arith
  settled_small Implies = omega arith

  pub told_small : (asked : Asked) (o : Op) → told_of asked o x y own < 2 ^ 64
  told_small Low o = low_small o
  told_small High o = high_small o
  told_small Operand o = operand_small (is_step o)
  told_small Settled o = settled_small o

-- ---- and right, where x shows the left side, y the right one

others : (b : Bool) → 2 ^ 64 - 1 - wholly b ≡ wholly (not b)
others true = refl
others false = refl

module _ (T : Plant) (A : AcceptedTable T) where
  -- each table tells what is meant of a part with one side, and of one with two; its own word is all states or none
  abbrev pub TellsOne : Op → (ℕ → Value → Part) → Type 0
  TellsOne o part = (k v : ℕ) (b : Value) (x y : ℕ) → Tells T b v y → y < 2 ^ 64
      → (asked : Asked) → Tells T (meant asked (part k b)) v (told_of asked o x y (wholly (bit v k)))

  abbrev pub TellsTwo : Op → (ℕ → Value → Value → Part) → Type 0
  TellsTwo o part = (k v : ℕ) (a b : Value) (x y : ℕ) → Tells T a v x → Tells T b v y → y < 2 ^ 64
      → (asked : Asked) → Tells T (meant asked (part k a b)) v (told_of asked o x y (wholly (bit v k)))

  all : (v : ℕ) (g : Value) → ((l : ℕ) → g l v ≡ true) → Tells T g v (2 ^ 64 - 1)
  all v g h s l = bit_wholly T A 0 v true s l ∙ sym (h (label_of T s))

  none : (v : ℕ) (g : Value) → ((l : ℕ) → g l v ≡ false) → Tells T g v 0
  none v g h s l = bit_zero s ∙ sym (h (label_of T s))

  module _ (k v : ℕ) (a b : Value) (y : ℕ) (q : Tells T b v y) where
    until_settled : Tells T (settled (untilPart k a b)) v (bit_or (2 ^ 64 - 1 - wholly (bit v k)) y)
    unfolding settled
    until_settled s l =
        bit_or_lem (2 ^ 64 - 1 - wholly (bit v k)) y s
        ∙ ap₂ ◌||◌ (ap (λ (x : ℕ). bit x s) (others (bit v k)) ∙ bit_wholly T A 0 v (not (bit v k)) s l) (q s l)

    release_settled : y < 2 ^ 64 → Tells T (settled (releasePart k a b)) v (bit_or (wholly (bit v k)) (2 ^ 64 - 1 - y))
    unfolding settled
    release_settled ly s l =
        bit_or_lem (wholly (bit v k)) (2 ^ 64 - 1 - y) s
        ∙ ap₂ ◌||◌ (bit_wholly T A 0 v (bit v k) s l) (bit_not 64 ly s ∙ rw (lt-ltb s 64 (lt_of_lt_of_le l A.few_states)) (ap not (q s l)))

  pub told_next : TellsOne Next next_part
  unfolding settled
  told_next k v b x y q ly Low = next_row T A k v b false
  told_next k v b x y q ly High = next_row T A k v b true
  told_next k v b x y q ly Operand = next_operand T A k v b y q
  told_next k v b x y q ly Settled = all v (settled (next_part k b)) (λ l. refl)

  pub told_until : TellsTwo Until untilPart
  unfolding operand_of
  told_until k v a b x y p q ly Low = until_low T A k v a b x y p q
  told_until k v a b x y p q ly High = until_high T A k v a b x y p q
  told_until k v a b x y p q ly Operand = all v (operand_of (untilPart k a b)) (λ l. refl)
  told_until k v a b x y p q ly Settled = until_settled k v a b y q

  pub told_release : TellsTwo Release releasePart
  unfolding operand_of
  told_release k v a b x y p q ly Low = release_low T A k v a b x y p q
  told_release k v a b x y p q ly High = release_high T A k v a b x y p q
  told_release k v a b x y p q ly Operand = all v (operand_of (releasePart k a b)) (λ l. refl)
  told_release k v a b x y p q ly Settled = release_settled k v a b y q ly

  -- F a is 1 U a, and G a is 0 R a
  pub told_finally : TellsOne Finally (λ k b. untilPart k (λ l v. true) b)
  unfolding unfolds operand_of
  told_finally k v b x y q ly Low = until_low T A k v (λ l v. true) b (2 ^ 64 - 1) y (all v (λ l v. true) (λ l. refl)) q
  told_finally k v b x y q ly High = all v (unfolds (untilPart k (λ l v. true) b) true) (λ l. or-true (b l v))
  told_finally k v b x y q ly Operand = all v (operand_of (untilPart k (λ l v. true) b)) (λ l. refl)
  told_finally k v b x y q ly Settled = until_settled k v (λ l v. true) b y q

  pub told_globally : TellsOne Globally (λ k b. releasePart k (λ l v. false) b)
  unfolding unfolds operand_of
  told_globally k v b x y q ly Low = none v (unfolds (releasePart k (λ l v. false) b) false) (λ l. and-false (b l v))
  told_globally k v b x y q ly High = release_high T A k v (λ l v. false) b 0 y (none v (λ l v. false) (λ l. refl)) q
  told_globally k v b x y q ly Operand = all v (operand_of (releasePart k (λ l v. false) b)) (λ l. refl)
  told_globally k v b x y q ly Settled = release_settled k v (λ l v. false) b y q ly

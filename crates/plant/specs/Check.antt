-- What the table's check says: accepted exactly if the table is as `AcceptedTable` says (meaning/specs/Limits); refused by 1 exactly if a count or a length is wrong, by 2 exactly if
-- these are right and some bit names a state or a proposition beyond the counts.
use Prim.Native.Nat.{ℕ, zero, suc, ◌+◌, ◌-◌, ◌/◌, ◌^◌, ◌≤◌, ◌<◌}
use Rattle.std.specs.Prelude.{◌≡◌, refl, ◌↔◌, ◌⊎◌, List, Bool, true, false, leb, ltb, length, Ok}
use Rattle.std.proofs.Common.{sym, ◌∙◌, inl, inr, one-mul, le-div_iff_mul-le, eqb-true, leb-true, ltb-true, ltb-false, eq-eqb, ne_eqb, le-leb, lt-ltb, shr-shr}
use Rattle.std.proofs.Math.Logic.{⊎_elim}
use Rattle.std.proofs.Math.Bool.{So}
use Rattle.std.proofs.lemmas.Bool.{false≢true, lt-leb}
use native.Mathlib.Omega.{arith}
use Rattle.std.specs.Int.Bits.{bit_or, or_lt, or_add_and}
use Rattle.std.proofs.lemmas.Nat.{and_le_l, and_le_r}
use Rattle.std.proofs.Math.ListN.{get_or}
use Rattle.std.proofs.Math.Pow.{pow_pos}
use Rattle.meaning.specs.Bit.{bit}
use Rattle.meaning.specs.Limits.{most_props, Sets, AcceptedTable, most_states, most_fair}
use Rattle.text.specs.Cases.{below_or_beyond}
use Rattle.words.specs.Below.{union_below}
use Rattle.words.specs.Truth.{and_says}
use Rattle.words.specs.Tests.{below_cases}
use Rattle.words.specs.Laws.{bit_above}
use Rattle.words.specs.Unions.{union_lt, some_member}
use Rattle.answers.specs.declared.Kind.TheVariants.{Counts, Bits}
use Rattle.answers.specs.Chain.{refused_as, differ}
use Rattle.plant.specs.declared.Plant.{Plant}
use Rattle.plant.specs.Table.{plant_of, counts_of, bits_of, united, table_outcome, Lengths, Beyond, BitBeyond, in_start, in_fair, in_label, in_next}

-- ---- sets below a bound

-- a union is below a power of 2 exactly if both sets are
or_below : (n a b : ℕ) → (bit_or a b < 2 ^ n) ↔ ((a < 2 ^ n) × (b < 2 ^ n))
or_below n a b = (
  λ h. let p = or_add_and a b in let q = and_le_l a b in let r = and_le_r a b in (omega arith, omega arith),
  λ h. or_lt n a b h.0 h.1,
)

-- the union of all sets of a list is of numbers below n exactly if each set is
pub united_below : (n : ℕ) (l : List ℕ) → (united l < 2 ^ n) ↔ Sets n l
unfolding united union_below
united_below n l = (λ h i lt. each (length l) h i lt, union_lt n (length l) (λ i. get_or l i 0))
  where
    each : (m : ℕ) → union_below m (λ i. get_or l i 0) < 2 ^ n → (i : ℕ) → i < m → get_or l i 0 < 2 ^ n
    each zero h i lt = absurd (omega arith)
    each (suc m) h i lt =
        let parts = (or_below n (union_below m (λ i. get_or l i 0)) (get_or l m 0)).0 h in
        ⊎_elim (λ (b : i < m). each m parts.0 i b) (λ (e : i ≡ m). rw e parts.1) (below_cases lt)

-- a set that is not of numbers below n names one that is not
pub beyond_exactly : (n x : ℕ) → (2 ^ n ≤ x) ↔ Beyond n x
unfolding bit
beyond_exactly n x = (there, back)
  where
    there : 2 ^ n ≤ x → Beyond n x
    there h =
        let some : 0 < x / 2 ^ n = (le-div_iff_mul-le (pow_pos n)).1 (rw one-mul h) in
        let w = some_member (x / 2 ^ n) (rw (ne_eqb (x / 2 ^ n) 0 (λ e. omega arith))) in
        record { name = n + w.0; beyond = omega arith; named = rw shr-shr at w.1 }

    back : Beyond n x → 2 ^ n ≤ x
    back b = ⊎_elim (λ (l : x < 2 ^ n). absurd (false≢true (sym (bit_above n l b.beyond) ∙ b.named))) (λ (l : 2 ^ n ≤ x). l) (below_or_beyond x (2 ^ n))

-- up to 2 ^ n - 1 is below 2 ^ n
pub up_to : (n x : ℕ) → leb x (2 ^ n - 1) ≡ ltb x (2 ^ n)
up_to n x = go (ltb x (2 ^ n)) refl
  where
    go : (b : Bool) → ltb x (2 ^ n) ≡ b → leb x (2 ^ n - 1) ≡ b
    go true e = let h = ltb-true x (2 ^ n) e in le-leb x (2 ^ n - 1) (omega arith)
    go false e = let h = ltb-false x (2 ^ n) e in lt-leb x (2 ^ n - 1) (omega (arith, pow_pos n))

-- ---- the tests

pub counts_exactly : (p : Plant) (fair label next : ℕ) → So (counts_of p fair label next) ↔ Lengths p fair label next
counts_exactly p fair label next = (there, back)
  where
    there : So (counts_of p fair label next) → Lengths p fair label next
    there h =
        let (a, parts) = (and_says _ _).0 h in
        let (b, just) = (and_says _ _).0 a in
        let (props, states) = (and_says _ _).0 b in
        let (some_props, few_props) = (and_says _ _).0 props in
        let (some_states, few_states) = (and_says _ _).0 states in
        let (few-just, fairs) = (and_says _ _).0 just in
        let (labels, nexts) = (and_says _ _).0 parts in
        record {
          counts = record {
            some_props = leb-true 1 p.props some_props;
            props = leb-true p.props most_props few_props;
            some_states = leb-true 1 p.states some_states;
            states = leb-true p.states most_states few_states;
            just = leb-true p.just most_fair few-just;
          };
          fairs = eqb-true fair p.just fairs;
          labels = eqb-true label p.states labels;
          nexts = eqb-true next p.states nexts;
        }

    back : Lengths p fair label next → So (counts_of p fair label next)
    back s =
        let c = s.counts in
        (and_says _ _).1 (
          (and_says _ _).1 (
            (and_says _ _).1 (
              (and_says _ _).1 (le-leb 1 p.props c.some_props, le-leb p.props most_props c.props),
              (and_says _ _).1 (le-leb 1 p.states c.some_states, le-leb p.states most_states c.states),
            ),
            (and_says _ _).1 (le-leb p.just most_fair c.just, eq-eqb fair p.just s.fairs),
          ),
          (and_says _ _).1 (eq-eqb label p.states s.labels, eq-eqb next p.states s.nexts),
        )

module _ (p : Plant) (fair label next : List ℕ) where
  abbrev Long : Type 0
  Long = Lengths p (length fair) (length label) (length next)

  -- each set is of numbers below its count
  abbrev Within : Type 0
  Within = (p.start < 2 ^ p.states) × Sets p.states fair × Sets p.props label × Sets p.states next

  bits_within : So (bits_of p fair label next) ↔ Within
  bits_within = (there, back)
    where
      there : So (bits_of p fair label next) → Within
      there h =
          let (states, props) = (and_says _ _).0 h in
          let (a, nexts) = (or_below p.states (bit_or p.start (united fair)) (united next)).0 (ltb-true _ _ states) in
          let (start, fairs) = (or_below p.states p.start (united fair)).0 a in
          (start, (united_below p.states fair).0 fairs, (united_below p.props label).0 (ltb-true _ _ props), (united_below p.states next).0 nexts)

      back : Within → So (bits_of p fair label next)
      back (start, fairs, labels, nexts) =
          (and_says _ _).1 (
            lt-ltb _ _ ((or_below p.states _ _).1 ((or_below p.states _ _).1 (start, (united_below p.states fair).1 fairs), (united_below p.states next).1 nexts)),
            lt-ltb _ _ ((united_below p.props label).1 labels),
          )

  -- a set that is not within is one of these, and names a number beyond
  united_beyond : (n : ℕ) (l : List ℕ) → 2 ^ n ≤ united l → (i : ℕ) × (i < length l) × Beyond n (get_or l i 0)
  unfolding united union_below
  united_beyond n l h = found (length l) h
    where
      found : (m : ℕ) → 2 ^ n ≤ union_below m (λ i. get_or l i 0) → (i : ℕ) × (i < m) × Beyond n (get_or l i 0)
      found zero h = absurd (omega (arith, pow_pos n))
      found (suc m) h =
          ⊎_elim
          (λ (a : union_below m (λ i. get_or l i 0) < 2 ^ n). ⊎_elim
          (λ (b : get_or l m 0 < 2 ^ n). absurd (let c = or_lt n (union_below m (λ i. get_or l i 0)) (get_or l m 0) a b in omega arith))
          (λ (b : 2 ^ n ≤ get_or l m 0). (m, omega arith, (beyond_exactly n (get_or l m 0)).0 b)) (below_or_beyond (get_or l m 0) (2 ^ n)))
          (λ (a : 2 ^ n ≤ union_below m (λ i. get_or l i 0)). let (i, lt, b) = found m a in (i, omega arith, b))
          (below_or_beyond (union_below m (λ i. get_or l i 0)) (2 ^ n))

  bits_beyond : (bits_of p fair label next ≡ false) ↔ BitBeyond p fair label next
  bits_beyond = (there, back)
    where
      there : bits_of p fair label next ≡ false → BitBeyond p fair label next
      there e =
          ⊎_elim (λ (a : p.start < 2 ^ p.states). ⊎_elim (λ (b : united fair < 2 ^ p.states). ⊎_elim
          (λ (c : united label < 2 ^ p.props). ⊎_elim
          (λ (d : united next < 2 ^ p.states). absurd (false≢true (sym e ∙ bits_within.1
          (a, (united_below p.states fair).0 b, (united_below p.props label).0 c, (united_below p.states next).0 d))))
          (λ (d : 2 ^ p.states ≤ united next). let (i, lt, b) = united_beyond p.states next d in in_next i lt b) (below_or_beyond (united next) (2 ^ p.states)))
          (λ (c : 2 ^ p.props ≤ united label). let (i, lt, b) = united_beyond p.props label c in in_label i lt b) (below_or_beyond (united label) (2 ^ p.props)))
          (λ (b : 2 ^ p.states ≤ united fair). let (i, lt, b) = united_beyond p.states fair b in in_fair i lt b) (below_or_beyond (united fair) (2 ^ p.states)))
          (λ (a : 2 ^ p.states ≤ p.start). in_start ((beyond_exactly p.states p.start).0 a)) (below_or_beyond p.start (2 ^ p.states))

      not_within : Within → BitBeyond p fair label next → ⊥
      not_within w (in_start b) = let l = (beyond_exactly p.states p.start).1 b in let h = w.0 in omega arith
      not_within w (in_fair i lt b) = let l = (beyond_exactly p.states (get_or fair i 0)).1 b in let h = w.1 i lt in omega arith
      not_within w (in_label i lt b) = let l = (beyond_exactly p.props (get_or label i 0)).1 b in let h = w.2 i lt in omega arith
      not_within w (in_next i lt b) = let l = (beyond_exactly p.states (get_or next i 0)).1 b in let h = w.3 i lt in omega arith

      by_test : (b : Bool) → bits_of p fair label next ≡ b → BitBeyond p fair label next → b ≡ false
      by_test true e b = absurd (not_within (bits_within.0 e) b)
      by_test false e b = refl

      back : BitBeyond p fair label next → bits_of p fair label next ≡ false
      back b = by_test (bits_of p fair label next) refl b

  -- ---- the answers

  abbrev counted : Bool
  counted = counts_of p (length fair) (length label) (length next)

  -- by the two tests
  tests : {A : Type 0} → (counted ≡ false → A) → (So counted → bits_of p fair label next ≡ false → A) → (So counted → So (bits_of p fair label next) → A) → A
  tests {A} one two none = by_counts counted refl
    where
      by_bits : So counted → (b : Bool) → bits_of p fair label next ≡ b → A
      by_bits a true e = none a e
      by_bits a false e = two a e

      by_counts : (b : Bool) → counted ≡ b → A
      by_counts true e = by_bits e (bits_of p fair label next) refl
      by_counts false e = one e

  is_one : counted ≡ false → table_outcome p fair label next ≡ refused_as Counts
  is_one e = rw e

  is_two : So counted → bits_of p fair label next ≡ false → table_outcome p fair label next ≡ refused_as Bits
  is_two e f = rw (e, f)

  is_none : So counted → So (bits_of p fair label next) → table_outcome p fair label next ≡ Ok tt
  is_none e f = rw (e, f)

  pub accepted_exactly : (table_outcome p fair label next ≡ Ok tt) ↔ ((length fair ≡ p.just) × AcceptedTable (plant_of p fair label next))
  accepted_exactly = (
    λ e. tests (λ c. differ _ _ (λ n. omega arith) e (is_one c)) (λ c b. differ _ _ (λ n. omega arith) e (is_two c b))
        (λ c b. there ((counts_exactly p _ _ _).0 c) (bits_within.0 b)),
    λ (f, a). is_none ((counts_exactly p _ _ _).1 (counts f a)) (bits_within.1 (a.start_set, a.fair_sets, a.label_sets, a.next_sets)),
  )
    where
      there : Long → Within → (length fair ≡ p.just) × AcceptedTable (plant_of p fair label next)
      there l w = (
        l.fairs,
        record {
          some_props = l.counts.some_props;
          few_props = l.counts.props;
          some_states = l.counts.some_states;
          few_states = l.counts.states;
          few_fair = rw l.fairs l.counts.just;
          labels = l.labels;
          nexts = l.nexts;
          start_set = w.0;
          fair_sets = w.1;
          label_sets = w.2;
          next_sets = w.3;
        },
      )

      counts : length fair ≡ p.just → AcceptedTable (plant_of p fair label next) → Long
      counts f a =
          record {
            counts = record { some_props = a.some_props; props = a.few_props; some_states = a.some_states; states = a.few_states; just = rw (← f) a.few_fair };
            fairs = f;
            labels = a.labels;
            nexts = a.nexts;
          }

  pub counts_refused : (table_outcome p fair label next ≡ refused_as Counts) ↔ (Long → ⊥)
  counts_refused = (
    λ e l. let c = (counts_exactly p _ _ _).1 l in
        tests (λ d. false≢true (sym d ∙ c)) (λ d b. differ _ _ (λ n. omega arith) e (is_two d b)) (λ d b. differ _ _ (λ n. omega arith) e (is_none d b)),
    λ n. tests is_one (λ c b. absurd (n ((counts_exactly p _ _ _).0 c))) (λ c b. absurd (n ((counts_exactly p _ _ _).0 c))),
  )

  pub bits_refused : (table_outcome p fair label next ≡ refused_as Bits) ↔ (Long × BitBeyond p fair label next)
  bits_refused = (
    λ e. tests (λ c. differ _ _ (λ n. omega arith) e (is_one c)) (λ c b. ((counts_exactly p _ _ _).0 c, bits_beyond.0 b)) (λ c b. differ _ _ (λ n. omega arith) e (is_none c b)),
    λ (l, b). is_two ((counts_exactly p _ _ _).1 l) (bits_beyond.1 b),
  )

  -- there is no fourth answer
  pub one_of_three :
      ((table_outcome p fair label next ≡ Ok tt) ⊎ (table_outcome p fair label next ≡ refused_as Counts)) ⊎ (table_outcome p fair label next ≡ refused_as Bits)
  one_of_three = tests (λ c. inl (inr (is_one c))) (λ c b. inr (is_two c b)) (λ c b. inl (inl (is_none c b)))

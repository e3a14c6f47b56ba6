-- What a table handed in is refused for.
use Rattle.std.specs.Prelude.{ℕ, ◌^◌, ◌≤◌, ◌<◌, ◌≡◌, List, Bool, ◌&&◌, cond, eqb, leb, ltb, length, get_or, Ok}
use Rattle.std.proofs.Math.Bool.{So}
use Rattle.std.specs.Int.Bits.{bit_or}
use Rattle.meaning.specs.Bit.{bit}
use Rattle.meaning.specs.Limits.{most_props, most_states, most_fair}
use Rattle.meaning.specs.Run as run
use Rattle.words.specs.Below.{union_below}
use Rattle.answers.specs.declared.Kind.TheVariants.{Counts, Bits}
use Rattle.answers.specs.Results.{Outcome}
use Rattle.answers.specs.Chain.{refused_as}
use Rattle.plant.specs.declared.Plant.{Plant}

-- the table that is handed in as its counts and its parts
abbrev pub plant_of : Plant → List ℕ → List ℕ → List ℕ → run.Plant
plant_of p fair label next = record { props = p.props; states = p.states; start = p.start; fair = fair; label = label; next = next }

-- ---- the tests

-- the counts are in range, and the parts have their lengths
abbrev pub counts_of : Plant → ℕ → ℕ → ℕ → Bool
counts_of p fair label next =
    (((leb 1 p.props && leb p.props most_props) && (leb 1 p.states && leb p.states most_states)) && (leb p.just most_fair && eqb fair p.just))
    && (eqb label p.states && eqb next p.states)

-- the union of all sets of a list
unfoldable pub united : List ℕ → ℕ
united l = union_below (length l) (λ i. get_or l i 0)

-- all sets of states together are of numbers below `states`, all labels below `props`
abbrev pub bits_of : Plant → List ℕ → List ℕ → List ℕ → Bool
bits_of p fair label next = ltb (bit_or (bit_or p.start (united fair)) (united next)) (2 ^ p.states) && ltb (united label) (2 ^ p.props)

-- ---- the answer: 1 before 2

-- 1 for the counts and lengths, 2 for the bits, and else accepted
abbrev pub table_outcome : Plant → List ℕ → List ℕ → List ℕ → Outcome
table_outcome p fair label next = cond (counts_of p (length fair) (length label) (length next)) (cond (bits_of p fair label next) (Ok tt) (refused_as Bits)) (refused_as Counts)

-- ---- what a table must be (01, The plant table, and 01, Refusal numbers)

-- the counts are in range
pub record InRange (p : Plant) : Type 0 where
  pub some_props : 1 ≤ p.props
  pub props : p.props ≤ most_props
  pub some_states : 1 ≤ p.states
  pub states : p.states ≤ most_states
  pub just : p.just ≤ most_fair

-- and the lent parts have their lengths
pub record Lengths (p : Plant) (fair label next : ℕ) : Type 0 where
  pub counts : InRange p
  pub fairs : fair ≡ p.just
  pub labels : label ≡ p.states
  pub nexts : next ≡ p.states

-- a bit of the set x names a number that is not below n
pub record Beyond (n x : ℕ) : Type 0 where
  pub name : ℕ
  pub beyond : n ≤ name
  pub named : So (bit x name)

-- a bit names a state or a proposition beyond the counts: in the starting set, in a fairness set, in a label, in a set of next states
pub data BitBeyond (p : Plant) (fair label next : List ℕ) : Type 0 where
  in_start : Beyond p.states p.start → BitBeyond p fair label next
  in_fair : (i : ℕ) → i < length fair → Beyond p.states (get_or fair i 0) → BitBeyond p fair label next
  in_label : (i : ℕ) → i < length label → Beyond p.props (get_or label i 0) → BitBeyond p fair label next
  in_next : (i : ℕ) → i < length next → Beyond p.states (get_or next i 0) → BitBeyond p fair label next

-- The checks of sets of pairs and events as tests, for the calls' refusals. Those of tables stand in plant, beside the code that makes them.
use mathlib.Core.Logic.Iff
use Rattle.std.specs.Prelude.{ℕ, ◌^◌, ◌<◌, Bool, ◌&&◌, cond, List, ltb, eqb, length, get_or}
use Rattle.std.proofs.Common.{arith, lt-ltb, le-ltb}
use Rattle.std.proofs.Math.Decide.{dec_lt}
use Rattle.std.specs.Int.Bits.{bit_and}
use Rattle.words.specs.Below.{all_below}
use Rattle.words.specs.Tests.{eq_says, lt_says}
use Rattle.words.specs.Within.{members_below, within_says}
use Rattle.words.specs.Lists.{entry_inside}
use Rattle.meaning.specs.Says.{Says}
use Rattle.meaning.specs.Formula.{Formula, parts}
use Rattle.meaning.specs.Run.{Plant}
use Rattle.meaning.specs.Event.{Seen}
use Rattle.meaning.specs.Limits.{Legal}
use Rattle.model.specs.Sets.{PairSet}
use Rattle.words.specs.Truth.{says_and}
use Rattle.words.specs.Folds.{all_says}

-- check 9 of a set of pairs: 64 words, within the table below the rule's valuations and empty beyond
abbrev pub width : Plant → Formula → ℕ → ℕ
width T f v = cond (ltb v (2 ^ parts f)) T.states 0

unfoldable pub pairs_ok : Plant → Formula → List ℕ → Bool
pairs_ok T f Z = eqb (length Z) 64 && all_below 64 (λ v. ltb (get_or Z v 0) (2 ^ width T f v))

-- which it says
pub pairs_says : (T : Plant) (f : Formula) (Z : List ℕ) → Says (pairs_ok T f Z) (PairSet T f Z)
unfolding pairs_ok
pairs_says T f Z = Iff.trans
    (says_and (eq_says (length Z) 64) (all_says _ (λ v. get_or Z v 0 < 2 ^ width T f v) (λ v. lt_says (get_or Z v 0) (2 ^ width T f v)) 64)) (
      λ (long, words). record { long = long; range = λ s v i. within s v (dec_lt v (2 ^ parts f)) ((members_below (width T f v) (get_or Z v 0)).0 (words v (rw long at (entry_inside Z v s i))) s i) },
      λ z. (z.long, λ v _. (members_below (width T f v) (get_or Z v 0)).1 (λ s i. let (ls, lv) = z.range s v i in rw (lt-ltb v (2 ^ parts f) lv) ls)),
    )
  where
    within : (s v : ℕ) → Dec (v < 2 ^ parts f) → s < width T f v → (s < T.states) × (v < 2 ^ parts f)
    within s v (yes l) h = (rw (lt-ltb v (2 ^ parts f) l) at h, l)
    within s v (no g) h = absurd (let k : s < 0 = rw (le-ltb v (2 ^ parts f) (omega arith)) at h in omega arith)

-- check 10
unfoldable pub event_ok : Plant → Seen → Bool
event_ok T e = ltb e.see (2 ^ T.props) && eqb (bit_and e.val e.see) e.val

-- which it says
pub legal_says : (T : Plant) (e : Seen) → Says (event_ok T e) (Legal T e)
unfolding event_ok
legal_says T e = Iff.trans (says_and (lt_says e.see (2 ^ T.props)) (eq_says (bit_and e.val e.see) e.val)) (
  λ (a, b). record { sees = a; gives = (within_says e.val e.see).0 b },
  λ l. (l.sees, (within_says e.val e.see).1 l.gives),
)

-- Which states lead into a set in one move.
use Rattle.std.specs.Prelude.{ℕ, ◌≡◌, Bool, not, List, eqb, ltb, length, get_or}
use Rattle.std.proofs.Common.{sym, ◌∙◌, lt-ltb}
use Rattle.std.proofs.Math.Bool.{and-false}
use Rattle.std.specs.Int.Bits.{bit_and, and_zero_r}
use Rattle.meaning.specs.Bit.{bit}
use Rattle.words.specs.Below.{word_of}
use Rattle.words.specs.Laws.{bit_and_lem, bit_zero, same_bits}
use Rattle.words.specs.Lists.{entry_inside}
use Rattle.words.specs.Unions.{bit_word_of, some_member}
use Rattle.words.specs.Truth.{so_ext, and_says}

-- whether an entry has a member in common with the target
abbrev pub meets : List ℕ → ℕ → ℕ → Bool
meets next target s = not (eqb (bit_and (get_or next s 0) target) 0)

-- the states with a move into the target
unfoldable pub pre_of : List ℕ → ℕ → ℕ
pre_of next target = word_of (length next) (meets next target)

-- a state has a move into the target where its entry meets it
pub bit_pre : (next : List ℕ) (target s : ℕ) → bit (pre_of next target) s ≡ meets next target s
unfolding pre_of
bit_pre next target s = bit_word_of (length next) (meets next target) s
    ∙ so_ext _ _ (λ h. ((and_says (ltb s (length next)) (meets next target s)).0 h).1)
    (λ h. let (t, b) = some_member (bit_and (get_or next s 0) target) h in
    (and_says (ltb s (length next)) (meets next target s)).1
    (lt-ltb s (length next) (entry_inside next s t ((and_says (bit (get_or next s 0) t) (bit target t)).0 (rw bit_and_lem at b)).0), h))

-- into nothing there is no move
pub pre_none : (next : List ℕ) → 0 ≡ pre_of next 0
unfolding pre_of
pre_none next =
    sym (same_bits (word_of (length next) (meets next 0)) 0
    (λ s. rw (bit_word_of, and_zero_r) (and-false (ltb s (length next)) ∙ sym (bit_zero s))))

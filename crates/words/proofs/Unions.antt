-- The ones-count of a word counts its members.
use Rattle.std.specs.Prelude.{ℕ, zero, suc, ◌+◌, ◌*◌, ◌/◌, ◌%◌, ◌^◌, ◌<◌, ◌≡◌}
use Rattle.std.proofs.Common.{sym, ap, ap₂, ◌∙◌, pow-suc, arith}
use Rattle.std.proofs.Math.Arith.{lt-one}
use Rattle.std.specs.Int.Count.{ones, ones_in, ones_step}
use Rattle.meaning.specs.Bit.{bit}
use Rattle.words.specs.Word.{digit}
use Rattle.words.specs.Laws.{digit_of_lem, bit_low, bit_half}
use Rattle.words.specs.Below.{count_below}
use Rattle.words.specs.Folds.{count_same, count_first}

-- the ones-count of a word counts its members
pub ones_count : (n x : ℕ) → x < 2 ^ n → ones x ≡ count_below n (bit x)
unfolding count_below ones ones_in
ones_count zero x h = ap ones (lt-one h)
ones_count (suc n) x h =
    ones_step x
    ∙ ap₂ (λ (d m : ℕ). d + m)
    (digit_of_lem (x % 2) (omega arith) ∙ ap digit (sym (bit_low x)))
    (ones_count n (x / 2) (let e : 2 ^ suc n ≡ 2 ^ n * 2 = pow-suc 2 n in omega arith)
    ∙ count_same n (bit (x / 2)) (λ k. bit x (suc k)) (λ k _. bit_half x k))
    ∙ sym (count_first n (bit x))

-- What the library's calls make: the first words of a set, and what is left after the goals of a fold.
use Rattle.std.proofs.Common.{◌≡◌, refl, sym, ap, ◌∙◌, ℕ, zero, suc, ◌+◌, List, ltb, fold, add-one, arith, lt-ltb}
use Rattle.std.specs.List.{range_with_len}
use Rattle.words.specs.Word.{only_of}
use Rattle.words.specs.Below.{words_below}
use Rattle.words.specs.Lists.{words_ext, words_at, length_words}
use Rattle.pairs.specs.declared.Pairs.{Pairs}
use Rattle.sweeps.specs.Sweeps.{reaching_of}
use Rattle.sweeps.specs.Rounds.{goal_of, goals_after}

-- 64 words of which those from n on are 0
pub words_first : (n : ℕ) (f : ℕ → ℕ) → words_below 64 (λ v. only_of (ltb v n) (f v)) ≡ words_below n f
words_first n f =
    words_ext _ _ (length_words 64 (λ v. only_of (ltb v n) (f v))) (length_words n f)
    (λ v l. words_at 64 (λ v. only_of (ltb v n) (f v)) v l ∙ rw (lt-ltb v 64 l) (sym (words_at n f v l)))

module _ (fair next leave enter settled : List ℕ) (count : ℕ) where
  -- what of the set reaches goal g
  abbrev pub after_goal : Pairs → ℕ → Pairs
  after_goal set g = record { words = reaching_of next leave enter count set.words (goal_of fair count settled g) }

  goals_from : (start : List ℕ) (i n : ℕ) (set : Pairs) → set.words ≡ goals_after fair next leave enter settled count start i
      → (fold after_goal set (range_with_len i n)).words ≡ goals_after fair next leave enter settled count start (i + n)
  unfolding goals_after
  goals_from start i zero set e = e ∙ ap (λ (m : ℕ). goals_after fair next leave enter settled count start m) (let z : i ≡ i + 0 = omega arith in z)
  goals_from start i (suc n) set e =
      goals_from start (i + 1) n (after_goal set i)
      (rw add-one (ap (λ (s : List ℕ). reaching_of next leave enter count s (goal_of fair count settled i)) e))
      ∙ ap (λ (m : ℕ). goals_after fair next leave enter settled count start m) (let z : i + 1 + n ≡ i + suc n = omega arith in z)

  pub goals_by_fold : (set : Pairs) (n : ℕ) → (fold after_goal set (range_with_len 0 n)).words ≡ goals_after fair next leave enter settled count set.words n
  unfolding goals_after
  goals_by_fold set n = goals_from set.words 0 n set refl ∙ ap (λ (m : ℕ). goals_after fair next leave enter settled count set.words m) (let z : 0 + n ≡ n = omega arith in z)

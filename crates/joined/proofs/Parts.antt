-- The first n numbers of two lists, compared and copied by the library's calls.
use Rattle.std.proofs.Common.{ℕ, ◌+◌, ◌-◌, ◌≤◌, ◌<◌, ◌≡◌, sym, ap, ◌∙◌, Bool, List, ◌++◌, eqb, length, get_or, take, drop, ext_get_or, arith, length-append, length-drop}
use Rattle.std.proofs.lemmas.List.{get_or-take, get_or-drop, get_or_append_left, get_or-append_right, length-take-le}
use lib.Pointwise.{pointwise, bytes_decides}
use Rattle.words.specs.Below.{all_below}
use Rattle.words.specs.Folds.{all_at, all_of}
use Rattle.words.specs.Tests.{eq_says}
use Rattle.words.specs.Truth.{so_ext}
use Rattle.joined.specs.Table.{same_at}
use Rattle.joined.specs.Written.{written, written_ext}

module _ (n : ℕ) (one other : List ℕ) (long : n ≤ length one) (enough : n ≤ length other) where
  -- whether they are the same
  pub parts_same : {b : Bool} → b ≡ pointwise eqb (take n one) (take n other) → b ≡ all_below n (same_at one other)
  unfolding same_at
  parts_same e = e ∙ so_ext (pointwise eqb (take n one) (take n other)) (all_below n (same_at one other))
      (λ p. all_of n (same_at one other) (λ r l. (eq_says (get_or one r 0) (get_or other r 0)).1
      (sym (get_or-take n one r 0 l) ∙ ap (λ (m : List ℕ). get_or m r 0) ((bytes_decides (take n one) (take n other)).0 p) ∙ get_or-take n other r 0 l)))
      (λ a. (bytes_decides (take n one) (take n other)).1 (ext_get_or 0 (take n one) (take n other) (length-take-le n one long ∙ sym (length-take-le n other enough))
      (λ r h. let l : r < n = omega (arith, length-take-le n one long) in
      get_or-take n one r 0 l ∙ (eq_says (get_or one r 0) (get_or other r 0)).0 (all_at n (same_at one other) a r l) ∙ sym (get_or-take n other r 0 l))))

  -- those of the one over those of the other
  pub parts_copied : {part : List ℕ} → part ≡ take n one → part ++ drop n other ≡ written n (λ r. get_or one r 0) other
  parts_copied {part} e =
      let whole : length part ≡ n = ap length e ∙ length-take-le n one long in
      written_ext n (λ r. get_or one r 0) other (part ++ drop n other) enough (length-append part (drop n other) ∙ omega (arith, whole, length-drop n other))
      (λ k l. get_or_append_left part (drop n other) 0 k (omega (arith, whole)) ∙ ap (λ (m : List ℕ). get_or m k 0) e ∙ get_or-take n one k 0 l)
      (λ k l. let back : n + (k - n) ≡ k = omega arith in
      get_or-append_right part (drop n other) n k 0 whole l ∙ get_or-drop n other (k - n) 0 ∙ ap (λ (i : ℕ). get_or other i 0) back)

-- Lassos put together: a list of states before a lasso, and two lassos joined.
use Rattle.std.specs.Prelude.{ℕ, suc, ◌+◌, ◌-◌, ◌%◌, ◌<◌, ◌≡◌, ◌⊎◌, List, ◌++◌}
use Rattle.std.proofs.Common.{arith, add-zero, add-suc, eq-or-lt_of_le, ap, ◌∙◌, inl, inr, lt-ltb, le-ltb}
use Rattle.std.proofs.Math.Decide.{dec_lt}
use Rattle.std.proofs.Math.Path.{sym}
use Rattle.std.proofs.Math.Logic.{⊎_elim}
use Rattle.std.proofs.Math.Bool.{So}
use Rattle.std.proofs.Math.ListN.{length, get_or, length-append, get_or-append}
use Rattle.std.proofs.Math.Seq.{get_or-append-add}
use Rattle.meaning.specs.Bit.{bit}
use Rattle.words.specs.Below.{list_below}
use Rattle.words.specs.Lists.{length_list, list_at}
use Rattle.meaning.specs.Run.{Plant, Lasso, FairLasso, state_at, next_of}

-- below n, or n and so many more
pub below_or_beyond : (n i : ℕ) → (i < n) ⊎ ((j : ℕ) × (i ≡ n + j))
below_or_beyond n i = go (dec_lt i n)
  where
    go : Dec (i < n) → (i < n) ⊎ ((j : ℕ) × (i ≡ n + j))
    go (yes h) = inl h
    go (no h) = inr (i - n, omega arith)

module _ (L : Lasso) where
  -- the states of the stem, and those of the loop
  pub in_stem : (i : ℕ) → i < length L.stem → state_at L i ≡ get_or L.stem i 0
  unfolding state_at
  in_stem i h = rw (lt-ltb i (length L.stem))

  pub in_loop : (j : ℕ) → state_at L (length L.stem + j) ≡ get_or L.loop (j % length L.loop) 0
  unfolding state_at
  in_loop j = rw (le-ltb (length L.stem + j) (length L.stem) (omega arith))
      (ap (λ (k : ℕ). get_or L.loop (k % length L.loop) 0) (omega arith))

-- the states xs, then a lasso
unfoldable pub walk_then : List ℕ → Lasso → Lasso
walk_then xs L = record { stem = xs ++ L.stem; loop = L.loop }

module _ (xs : List ℕ) (L : Lasso) where
  -- first the states xs
  pub after_first : (i : ℕ) → i < length xs → state_at (walk_then xs L) i ≡ get_or xs i 0
  unfolding walk_then
  after_first i h =
      in_stem (walk_then xs L) i (rw length-append (omega arith)) ∙ get_or-append xs L.stem 0 i h

  -- then those of L
  pub after_then : (j : ℕ) → state_at (walk_then xs L) (length xs + j) ≡ state_at L j
  unfolding walk_then
  after_then j = ⊎_elim near (λ b. far b.0 b.1) (below_or_beyond (length L.stem) j)
    where
      near : j < length L.stem → state_at (walk_then xs L) (length xs + j) ≡ state_at L j
      near h = in_stem (walk_then xs L) (length xs + j) (rw length-append (omega arith)) ∙ get_or-append-add xs L.stem j 0 ∙ sym (in_stem L j h)

      far : (m : ℕ) → j ≡ length L.stem + m → state_at (walk_then xs L) (length xs + j) ≡ state_at L j
      far m e = ap (state_at (walk_then xs L)) (rw length-append (omega arith)) ∙ in_loop (walk_then xs L) m ∙ sym (in_loop L m) ∙ ap (state_at L) (sym e)

  -- it is a fair walk where L is one, the states xs are the table's, and each may be followed by the next
  pub after_fair : (T : Plant) → FairLasso T L
      → ((i : ℕ) → i < length xs → (get_or xs i 0 < T.states) × So (bit (next_of T (get_or xs i 0)) (state_at (walk_then xs L) (suc i))))
      → FairLasso T (walk_then xs L)
  unfolding walk_then
  after_fair T walk first = record {
    loops = walk.loops;
    within = λ i. ⊎_elim
        (λ h. rw (after_first i h) (first i h).0)
        (λ (m, e). rw (e, after_then m) (walk.within m))
        (below_or_beyond (length xs) i);
    moves = λ i. ⊎_elim
        (λ h. rw (after_first i h) (first i h).1)
        (λ (m, e). rw (e, ← (add-suc (length xs) m), after_then m, after_then (suc m)) (walk.moves m))
        (below_or_beyond (length xs) i);
    fair = walk.fair;
  }

-- the first n values of g, then a lasso: its states
module _ (g : ℕ → ℕ) (n : ℕ) (L : Lasso) where
  abbrev pub upto_after : Lasso
  upto_after = walk_then (list_below n g) L

  -- first the values
  pub upto_first : (i : ℕ) → i < n → state_at upto_after i ≡ g i
  upto_first i h = after_first (list_below n g) L i (rw length_list h) ∙ list_at n g i h

  -- then the lasso
  pub upto_then : (j : ℕ) → state_at upto_after (n + j) ≡ state_at L j
  upto_then j = rw (length_list n g) at (after_then (list_below n g) L j)

-- the first n states of L, then L'
abbrev pub join : Lasso → ℕ → Lasso → Lasso
join L n L' = walk_then (list_below n (state_at L)) L'

module _ (L : Lasso) (n : ℕ) (L' : Lasso) where
  -- first the states of L
  pub join_first : (j : ℕ) → j < n → state_at (join L n L') j ≡ state_at L j
  join_first j h = upto_first (state_at L) n L' j h

  -- then those of L'
  pub join_then : (j : ℕ) → state_at (join L n L') (n + j) ≡ state_at L' j
  join_then j = upto_then (state_at L) n L' j

  -- which meet at position n
  pub join_seam : state_at (join L n L') n ≡ state_at L' 0
  join_seam = rw (add-zero n) at (join_then 0)

  -- it is a fair walk where the last state taken of L may be followed by the first of L'
  pub join_fair : (T : Plant) → FairLasso T L → FairLasso T L'
      → ((m : ℕ) → suc m ≡ n → So (bit (next_of T (state_at L m)) (state_at L' 0))) → FairLasso T (join L n L')
  join_fair T walk walk' seam = after_fair (list_below n (state_at L)) L' T walk' λ j h.
      let lt : j < n = rw length_list at h in
      rw (list_at n (state_at L) j lt) (walk.within j, ⊎_elim (now j) (before j) (eq-or-lt_of_le lt))
    where
      Moves : ℕ → Type 0
      Moves j = So (bit (next_of T (state_at L j)) (state_at (join L n L') (suc j)))

      now : (j : ℕ) → suc j ≡ n → Moves j
      now j e = rw (ap (state_at (join L n L')) e ∙ join_seam) (seam j e)

      before : (j : ℕ) → suc j < n → Moves j
      before j h = rw (join_first (suc j) h) (walk.moves j)

-- With the rule's moves and settled parts, the rounds leave the live set.
use Prim.Native.Nat.{ℕ, zero, suc, ◌+◌, ◌-◌, ◌^◌, ◌≤◌, ◌<◌}
use Rattle.std.proofs.Common.{arith, ◌∙◌, length-append, take-suc, get_or-append-add}
use Rattle.std.proofs.Math.Decide.{dec_lt}
use Rattle.std.specs.Prelude.{◌≡◌, true, length, get_or}
use Rattle.std.proofs.Math.Path.{refl, sym, ap}
use mathlib.Core.List.{List, [], ◌∷◌, ◌++◌, map, foldl, foldl-append}
use Rattle.std.proofs.Math.ListN.{take, length-map, get_or-append}
use Rattle.std.proofs.Math.Seq.{take-length}
use borrow.Author.Tests.{lt-ltb, le-ltb}
use Rattle.words.specs.Below.{word_of}
use Rattle.words.specs.Lists.{at_map, words_at, words_same}
use Rattle.words.specs.Unions.{word_at_lem}
use Rattle.words.specs.Within.{and_same}
use Rattle.pairs.specs.Sets.{same_of}
use Rattle.moves.specs.Fit.{entry}
use Rattle.meaning.specs.Formula.{Formula, parts}
use Rattle.meaning.specs.Run.{Plant, label_of}
use Rattle.meaning.specs.Limits.{AcceptedTable, Small}
use Rattle.meaning.specs.Step.{next_part, table}
use Rattle.theory.specs.Move.{settled}
use Rattle.theory.specs.Parts.{part_of, length_table}
use Rattle.model.specs.Sets.{PairSet}
use Rattle.model.specs.Tables.{Rows}
use Rattle.model.specs.LiveSet.{meet_of, before, reaching, fair_set, settled_set, goal_sets, narrow, all_pairs, live_set, enough}
use Rattle.model.specs.Reaching.{meet_set, reaching_set}
use Rattle.model.proofs.Lives.{Keeping, keeping_start, keeping_more}
use Rattle.model.specs.Settle.{settle_same}
use Rattle.sweeps.specs.Sweeps.{reaching_of}
use Rattle.sweeps.specs.SweepsRight.{Moves, movers_right, reaching_right}
use Rattle.sweeps.specs.Rounds.{every_of, settled_in, goal_of, goals_after, round_of, settle_of}

module _ (T : Plant) (f : Formula) (A : AcceptedTable T) (small : Small f) (leave enter : List ℕ) (m : Moves T f leave enter)
    (done : List ℕ) (rows : Rows T f done settled) where
  abbrev n : ℕ
  n = 2 ^ parts f

  -- ---- the goals

  -- only the pairs of Z count
  goal_same : (Z G H : List ℕ) → meet_of Z G ≡ meet_of Z H → reaching T f Z G ≡ reaching T f Z H
  unfolding reaching
  goal_same Z G H e = rw e

  settled_same : (Z : List ℕ) → PairSet T f Z → (k : ℕ) → k < parts f → meet_of Z (settled_in n done k) ≡ meet_of Z (settled_set T f (part_of f k))
  unfolding meet_of settled_in
  settled_same Z z k lk = words_same 64 _ _ (λ v l. and_same (get_or Z v 0) _ _ (λ s i. let (ls, lv) = z.range s v i in
      rw (words_at n (λ v. entry done v k) v l, words_at n (λ v. word_of T.states (λ s. settled (part_of f k) (label_of T s) v)) v l, lt-ltb v n lv)
      (rows.holds v k s lv lk ls ∙ sym (word_at_lem T.states (λ s. settled (part_of f k) (label_of T s) v) s ls))))

  goal_at : (Z : List ℕ) → PairSet T f Z → (g : ℕ) → g < length T.fair + parts f
      → reaching T f Z (goal_of T.fair n done g) ≡ reaching T f Z (get_or (goal_sets T f) g [])
  unfolding goal_of goal_sets every_of
  goal_at Z z g l = go (dec_lt g (length T.fair))
    where
      fairs : List (List ℕ)
      fairs = map (fair_set T f) T.fair

      settleds : List (List ℕ)
      settleds = map (settled_set T f) (table f 0)

      far : length fairs ≡ length T.fair
      far = length-map T.fair (fair_set T f)

      go : Dec (g < length T.fair) → reaching T f Z (goal_of T.fair n done g) ≡ reaching T f Z (get_or (goal_sets T f) g [])
      go (yes h) = rw (lt-ltb g (length T.fair) h)
          (ap (reaching T f Z) (sym (get_or-append fairs settleds [] g (rw far h) ∙ at_map (fair_set T f) T.fair g 0 [] h)))
      go (no h) =
          let e : g ≡ length fairs + (g - length T.fair) = rw far (omega arith) in
          let k : g - length T.fair < parts f = omega arith in
          rw (le-ltb g (length T.fair) (omega arith))
          (goal_same Z _ _ (settled_same Z z (g - length T.fair) k)
          ∙ ap (reaching T f Z) (sym (ap (λ (i : ℕ). get_or (fairs ++ settleds) i []) e ∙ get_or-append-add fairs settleds (g - length T.fair) []
          ∙ at_map (settled_set T f) (table f 0) (g - length T.fair) (next_part 0 (λ l v. true)) [] (rw (length_table f 0) k))))

  -- ---- a round

  goals_set : (l : List (List ℕ)) (Y : List ℕ) → PairSet T f Y → PairSet T f (foldl (reaching T f) Y l)
  goals_set [] Y y = y
  goals_set (G ∷ Gs) Y y = goals_set Gs (reaching T f Y G) (reaching_set T f A small y G)

  many : length (goal_sets T f) ≡ length T.fair + parts f
  unfolding goal_sets
  many = rw (length-append, length-map T.fair, length-map (table f 0), length_table f 0)

  goals_right : (Y : List ℕ) → PairSet T f Y → (g : ℕ) → g ≤ length T.fair + parts f
      → goals_after T.fair T.next leave enter done n Y g ≡ foldl (reaching T f) Y (take g (goal_sets T f))
  unfolding goals_after
  goals_right Y y zero l = refl
  goals_right Y y (suc g) l =
      let left = foldl (reaching T f) Y (take g (goal_sets T f)) in
      let set : PairSet T f left = goals_set (take g (goal_sets T f)) Y y in
      ap (λ (Z : List ℕ). reaching_of T.next leave enter n Z (goal_of T.fair n done g)) (goals_right Y y g (omega arith))
      ∙ reaching_right T f A small leave enter m set (goal_of T.fair n done g)
      ∙ goal_at left set g (omega arith)
      ∙ sym (ap (foldl (reaching T f) Y) (take-suc (goal_sets T f) g [] (rw many (omega arith)))
      ∙ foldl-append (reaching T f) Y (take g (goal_sets T f)) (get_or (goal_sets T f) g [] ∷ []))

  pub round_right : (Z : List ℕ) → PairSet T f Z → round_of T.fair T.next leave enter done (parts f) Z ≡ narrow T f Z
  unfolding round_of narrow
  round_right Z z =
      ap (λ (Y : List ℕ). goals_after T.fair T.next leave enter done n Y (length T.fair + parts f)) (movers_right T f A small leave enter m Z Z z)
      ∙ goals_right (meet_of Z (before T f Z)) (meet_set T f A small (before T f Z) z) (length T.fair + parts f) (omega arith)
      ∙ ap (foldl (reaching T f) (meet_of Z (before T f Z))) (ap (λ (i : ℕ). take i (goal_sets T f)) (sym many) ∙ take-length (goal_sets T f))

  -- ---- all rounds

  pub live_right : settle_of T.fair T.next leave enter done (parts f) (all_pairs T f) ≡ live_set T f
  unfolding settle_of live_set
  live_right = settle_same (round_of T.fair T.next leave enter done (parts f)) (narrow T f) same_of (Keeping T f) (λ Z k. round_right Z k.set)
      (keeping_more T f A small) enough (all_pairs T f) (keeping_start T f A small)

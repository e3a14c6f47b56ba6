-- The loop over a list of states: what is kept so far, and what the rest of the list brings.
use Prim.Native.Nat.{ℕ, ◌+◌, ◌≤◌, ◌<◌}
use mathlib.Core.Bool.{Bool, true, false, ◌&&◌, cond}
use mathlib.Core.Path.{◌≡◌, refl, sym, ap, subst, ◌∙◌}
use mathlib.Core.List.{List, [], ◌∷◌, ◌++◌, append_assoc, append-nil}
use native.Mathlib.Omega.{arith}
use lib.Dec.{ltb}
use lib.ListN.{length, get_or, take, drop, drop_of_length-le}
use lib.Seq.{take_all, take-append-le}
use borrow.Author.Tests.{ltb-false}
use Rattle.writing.specs.Put.{Put, puts, put_none, put_length}
use Rattle.report_text.specs.States.{ends, grown, with_digit, states_from, states_of}
use Rattle.report_text.proofs.Turn.{byte}

-- of the list up to `at` these states are kept, and n is the number that is being read
pub record Kept (list before now : List ℕ) (count n at : ℕ) : Type 0 where
  pub kept : List ℕ
  pub put : Put before 0 kept now count
  pub rest : take (length before) (kept ++ states_from n (drop at list)) ≡ take (length before) (states_from 0 list)

pub kept_start : (list before : List ℕ) → Kept list before before 0 0 0
kept_start list before = record { kept = []; put = put_none before 0 (omega arith); rest = refl }

pub kept_room : {list before now : List ℕ} {count n at : ℕ} → Kept list before now count n at → count ≤ length now
kept_room k = omega (arith, k.put.len, k.put.room, put_length k.put)

pub kept_length : {list before now : List ℕ} {count n at : ℕ} → Kept list before now count n at → length now ≡ length before
kept_length k = put_length k.put

pub none_read : (list before : List ℕ) → length list ≡ 0 → Put before 0 (take (length before) (states_of list)) before 0
unfolding states_of
none_read [] before e = subst (λ (l : List ℕ). Put before 0 l before 0) (sym (take_none (length before))) (put_none before 0 (omega arith))
  where
    take_none : (n : ℕ) → take {A = ℕ} n [] ≡ []
    take_none n = take_all n [] (omega arith)
none_read (b ∷ list) before e = absurd (omega arith)

-- a state more, as long as there is room
abbrev more : Bool → ℕ → List ℕ → ℕ → List ℕ
more ended room kept n = kept ++ cond (ended && ltb (length kept) room) (n ∷ []) []

-- what is kept with a state more is the same as all would be
fits : (room : ℕ) (kept : List ℕ) (n : ℕ) (rest : List ℕ) → take room (more true room kept n ++ rest) ≡ take room (kept ++ n ∷ rest)
fits room kept n rest = by_room (ltb (length kept) room) refl
  where
    by_room : (t : Bool) → ltb (length kept) room ≡ t → take room ((kept ++ cond t (n ∷ []) []) ++ rest) ≡ take room (kept ++ n ∷ rest)
    by_room true e = ap (take room) (append_assoc kept (n ∷ []) rest)
    by_room false e =
        let full : room ≤ length kept = ltb-false (length kept) room e in
        rw append-nil (take-append-le room kept rest full ∙ sym (take-append-le room kept (n ∷ rest) full))

-- a byte of the list
turn : (room : ℕ) (kept : List ℕ) (n b : ℕ) (s : List ℕ) → take room (more (ends b) room kept n ++ states_from (grown n b) s) ≡ take room (kept ++ states_from n (b ∷ s))
unfolding states_from grown
turn room kept n b s = by_byte (ends b)
  where
    by_byte : (t : Bool) → take room (more t room kept n ++ states_from (cond t 0 (with_digit n b)) s) ≡ take room (kept ++ cond t (n ∷ states_from 0 s) (states_from (with_digit n b) s))
    by_byte true = fits room kept n (states_from 0 s)
    by_byte false = rw append-nil refl

-- how much is kept is counted
counted : {before now kept : List ℕ} {count : ℕ} → Put before 0 kept now count → (ended : Bool) (n : ℕ)
    → cond (ended && ltb count (length now)) (n ∷ []) [] ≡ cond (ended && ltb (length kept) (length before)) (n ∷ []) []
counted {before} {now} {kept} {count} p ended n =
    let c : count ≡ length kept = omega (arith, p.len) in
    rw (c, put_length p) refl

pub kept_turn : {list before now last : List ℕ} {count n at end : ℕ} (b : ℕ) (ended : Bool) → Kept list before now count n at → at < length list → b ≡ get_or list at 0 → ended ≡ ends b
    → Put now count (cond (ended && ltb count (length now)) (n ∷ []) []) last end → Kept list before last end (grown n b) (at + 1)
kept_turn {list} {before} {now} {last} {count} {n} {at} {end} b ended k low is_b is-end put =
    let put' = rw (counted k.put ended n, is-end) at put in
    let here : drop at list ≡ b ∷ drop (at + 1) list = byte list at low ∙ ap (λ (x : ℕ). x ∷ drop (at + 1) list) (sym is_b) in
    record {
      kept = more (ends b) (length before) k.kept n;
      put = puts k.put put';
      rest = turn (length before) k.kept n b (drop (at + 1) list) ∙ ap (λ (l : List ℕ). take (length before) (k.kept ++ states_from n l)) (sym here) ∙ k.rest;
    }

some : (list : List ℕ) → (length list ≡ 0 → ⊥) → states_from 0 list ≡ states_of list
unfolding states_of
some [] full = absurd (full refl)
some (b ∷ list) full = refl

-- the last number is kept as well
pub kept_end : {list before now last : List ℕ} {count n at end : ℕ} → Kept list before now count n at → (length list ≡ 0 → ⊥) → length list ≤ at
    → Put now count (cond (true && ltb count (length now)) (n ∷ []) []) last end → Put before 0 (take (length before) (states_of list)) last end
unfolding states_from
kept_end {list} {before} {now} {last} {count} {n} {at} {end} k full done put =
    let put' = rw (counted k.put true n) at put in
    let all = puts k.put put' in
    let kept' : List ℕ = more true (length before) k.kept n in
    let whole : take (length before) kept' ≡ kept' = take_all (length before) kept' (omega (arith, all.room)) in
    let last_one : take (length before) (kept' ++ []) ≡ take (length before) (k.kept ++ n ∷ []) = fits (length before) k.kept n [] in
    let gone : drop at list ≡ [] = drop_of_length-le list {i = at} done in
    let is : kept' ≡ take (length before) (states_of list) =
    sym whole ∙ sym (ap (take (length before)) (append-nil kept')) ∙ last_one ∙ sym (ap (λ (l : List ℕ). take (length before) (k.kept ++ states_from n l)) gone) ∙ k.rest ∙ ap (take (length before)) (some list full) in
    subst (λ (l : List ℕ). Put before 0 l last end) is all

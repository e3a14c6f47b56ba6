-- With the rule's moves, the sweeps find what the definitions of the live set say.
use Prim.Native.Nat.{ℕ, ◌^◌, ◌<◌}
use Rattle.std.proofs.Common.{arith, sym, ◌∙◌, ⊎_elim}
use Rattle.std.specs.Prelude.{◌≡◌, ◌⊎◌, ◌||◌, get_or}
use Rattle.std.proofs.Math.Path.{ap}
use Rattle.std.proofs.Math.Logic.{inl, inr}
use Rattle.std.proofs.Math.Bool.{So}
use Rattle.std.proofs.lemmas.Bool.{false≢true}
use mathlib.Core.List.{List}
use borrow.Author.Tests.{lt-ltb}
use Rattle.words.specs.Within.{members_below}
use Rattle.words.specs.Truth.{so_ext, or_says, true_or_false}
use Rattle.pairs.specs.Sets.{Fit, inside, inside_join, join_of, length_join, pairs_ext, same_of}
use Rattle.moves.specs.Leading.{leading_of}
use Rattle.meaning.specs.Formula.{Formula, parts}
use Rattle.meaning.specs.Run.{Plant}
use Rattle.meaning.specs.Limits.{AcceptedTable, Small}
use Rattle.model.specs.Sets.{PairSet}
use Rattle.model.specs.LiveSet.{meet_of, before, widen, reaching, enough}
use Rattle.model.specs.Reaching.{Found, found_start, found_more, meet_says}
use Rattle.leads.specs.Halves.{from_in, to_in}
use Rattle.sweeps.specs.Sweeps.{without_set, movers_of, sweep_of, reaching_of}
use Rattle.model.specs.Settle.{settle_same}
use Rattle.sweeps.specs.Laws.{without_inside, inside_without}

-- the pairs with a move into a set, worked out with the halves, are those of the rule
pub record Moves (T : Plant) (f : Formula) (leave enter : List ℕ) : Type 0 where
  pub leading : (Z : List ℕ) → PairSet T f Z → leading_of T.next (from_in leave) (to_in enter) (2 ^ parts f) Z ≡ before T f Z

module _ (T : Plant) (f : Formula) (A : AcceptedTable T) (small : Small f) (leave enter : List ℕ) (m : Moves T f leave enter) where
  pub movers_right : (Z B : List ℕ) → PairSet T f B → movers_of T.next leave enter (2 ^ parts f) B Z ≡ meet_of Z (before T f B)
  unfolding movers_of
  movers_right Z B b = ap (meet_of Z) (m.leading B b)

  -- a set of pairs is one of words
  pub set_fits : {B : List ℕ} → PairSet T f B → Fit B
  set_fits {B} b v l = (members_below 64 (get_or B v 0)).1 (λ s i. let h = (b.range s v i).0 in let k = A.few_states in omega arith)

  module _ {Z : List ℕ} (z : PairSet T f Z) (G : List ℕ) where
    sweep_right : (B : List ℕ) → PairSet T f B → sweep_of T.next leave enter (2 ^ parts f) Z B ≡ widen T f Z B
    unfolding sweep_of widen
    sweep_right B b = ap (join_of B) (movers_right (without_set Z B) B b) ∙ pairs_ext (join_of B new) (join_of B all) (length_join B new) (length_join B all)
        (λ s v l. inside_join B new s v ∙ rw (inside_join B all s v, lt-ltb v 64 l)
        (so_ext (inside B s v || inside new s v) (inside B s v || inside all s v)
        (λ i. (or_says (inside B s v) (inside all s v)).1 (⊎_elim inl (λ n. inr (more s v n)) ((or_says (inside B s v) (inside new s v)).0 i)))
        (λ i. (or_says (inside B s v) (inside new s v)).1 (⊎_elim inl (λ n. less s v n) ((or_says (inside B s v) (inside all s v)).0 i)))))
      where
        new : List ℕ
        new = meet_of (without_set Z B) (before T f B)

        all : List ℕ
        all = meet_of Z (before T f B)

        more : (s v : ℕ) → So (inside new s v) → So (inside all s v)
        more s v i =
            let (l, (w, h)) = (meet_says (without_set Z B) (before T f B) s v).0 i in
            (meet_says Z (before T f B) s v).1 (l, ((without_inside Z B (set_fits b) s v w).2, h))

        less : (s v : ℕ) → So (inside all s v) → So (inside B s v) ⊎ So (inside new s v)
        less s v i =
            let (l, (h, g)) = (meet_says Z (before T f B) s v).0 i in
            let low : s < 64 = (let r = (z.range s v h).0 in let k = A.few_states in omega arith) in
            ⊎_elim inl (λ o. inr ((meet_says (without_set Z B) (before T f B) s v).1
            (l, (inside_without Z B (set_fits b) s v l low h (λ j. false≢true (sym o ∙ j)), g)))) (true_or_false (inside B s v))

    pub reaching_right : reaching_of T.next leave enter (2 ^ parts f) Z G ≡ reaching T f Z G
    unfolding reaching_of reaching
    reaching_right = settle_same (sweep_of T.next leave enter (2 ^ parts f) Z) (widen T f Z) same_of (Found T f Z G) (λ B k. sweep_right B k.set)
        (found_more T f A small z G) enough (meet_of Z G) (found_start T f A small z G)

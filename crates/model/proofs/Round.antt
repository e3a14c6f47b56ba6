-- One round drops no live pair, and where it drops none, the live set is found.
use Rattle.std.specs.Prelude.{ℕ, ◌^◌, ◌≡◌, refl, ◌⊎◌}
use Rattle.std.proofs.Common.{◌∙◌, inr, ⊎_elim, lt-ltb}
use Rattle.std.proofs.Math.Logic.{inl}
use Rattle.std.proofs.Math.Bool.{So}
use mathlib.Core.List.Memᴰ
use mathlib.Core.List.{List, [], ◌∷◌, ◌++◌, map, foldl, Forall₂, Memᴰ}
use Rattle.meaning.specs.Bit.{bit}
use Rattle.words.specs.Below.{words_below}
use Rattle.words.specs.Unions.{word_at_lem}
use Rattle.graphs.specs.Sets.{Nodes}
use Rattle.graphs.specs.Close.{closure_target}
use Rattle.graphs.specs.Trim.{Trimmed, trimmed_start, trimmed_on}
use Rattle.meaning.specs.Formula.{Formula, parts}
use Rattle.meaning.specs.Run.{Plant, label_of}
use Rattle.meaning.specs.Step.{Part, table}
use Rattle.theory.specs.Move.{settled}
use Rattle.meaning.specs.Limits.{AcceptedTable, Small}
use Rattle.theory.specs.Node.{state_of, values_of, valid, edge, in_set, settled_at, goals}
use Rattle.theory.proofs.Node.{valid_says}
use Rattle.theory.proofs.Alive.{valuations_few}
use Rattle.model.specs.Sets.{PairSet, nodes_of, nodes_valid}
use Rattle.pairs.specs.Sets.{inside_words}
use Rattle.model.specs.LiveSet.{meet_of, before, reaching, fair_set, settled_set, goal_sets, narrow}
use Rattle.model.specs.Reaching.{meet_set, before_node, reaching_set, reaching_closure}

module _ (T : Plant) (f : Formula) (A : AcceptedTable T) (small : Small f) where
  abbrev n : ℕ
  n = 2 ^ parts f

  abbrev Goals : List Nodes
  Goals = goals T f

  -- the words G are the goal g
  abbrev Is : List ℕ → Nodes → Type 0
  Is G g = (x : ℕ) → So (valid T f x) → nodes_of G x ≡ g x

  word_is : (g : ℕ → ℕ) (x : ℕ) → So (valid T f x) → nodes_of (words_below n g) x ≡ bit (g (values_of x)) (state_of x)
  word_is g x i = inside_words n g (valuations_few f small) (state_of x) (values_of x) ∙ rw (lt-ltb (values_of x) n ((valid_says T f x).0 i).1)

  settled_is : (c : Part) → Is (settled_set T f c) (settled_at T c)
  settled_is c x i = word_is _ x i ∙ word_at_lem T.states (λ s. settled c (label_of T s) (values_of x)) (state_of x) ((valid_says T f x).0 i).0

  goals_are : Forall₂ Is (goal_sets T f) Goals
  unfolding goal_sets goals
  goals_are = go T.fair
    where
      parts_are : (cs : List Part) → Forall₂ Is (map (settled_set T f) cs) (map (settled_at T) cs)
      parts_are [] = Forall₂.nil
      parts_are (c ∷ cs) = Forall₂.cons (settled_is c) (parts_are cs)

      go : (Js : List ℕ) → Forall₂ Is (map (fair_set T f) Js ++ map (settled_set T f) (table f 0)) (map in_set Js ++ map (settled_at T) (table f 0))
      go [] = parts_are (table f 0)
      go (J ∷ Js) = Forall₂.cons (λ x i. word_is (λ v. J) x i) (go Js)

  -- one round
  module _ {Z : List ℕ} (z : PairSet T f Z) where
    -- what is left of Z as far as the goals hs go
    abbrev Left : List Nodes → List ℕ → Type 0
    Left hs Y = PairSet T f Y × Trimmed (edge T f) Goals hs (nodes_of Z) (nodes_of Y)

    left_start : Left [] (meet_of Z (before T f Z))
    left_start = (meet_set T f A small (before T f Z) z, trimmed_start (before_node T f A small z z))

    left_on : {Gs : List (List ℕ)} {gs : List Nodes} → Forall₂ Is Gs gs → (hs all : List Nodes) → ((g : Nodes) → Memᴰ g gs → Memᴰ g Goals)
        → ((g : Nodes) → Memᴰ g all → Memᴰ g gs ⊎ Memᴰ g hs) → (Y : List ℕ) → Left hs Y → Left all (foldl (reaching T f) Y Gs)
    left_on Forall₂.nil hs all ours cover Y (y, t) = (
      y,
      record {
        inside = t.inside;
        keeps = t.keeps;
        stays = λ whole x i. let k = t.stays whole x i in
            record { moves = k.moves; meets = λ g m. k.meets g (⊎_elim (λ m. absurd (Memᴰ.not-nil m)) (λ m. m) (cover g m)) };
      },
    )
    left_on (Forall₂.cons {a = G} {b = g} e es) hs all ours cover Y (y, t) = left_on es (g ∷ hs) all
        (λ h m. ours h (Memᴰ.tail m))
        (λ h m. ⊎_elim (λ k. ⊎_elim (λ p. inr (Memᴰ.head p)) inl (Memᴰ.cases_cons k)) (λ k. inr (Memᴰ.tail k)) (cover h m))
        (reaching T f Y G) (
          reaching_set T f A small y G,
          trimmed_on t (ours g (Memᴰ.head refl))
              (closure_target (λ x i. rw (e x (nodes_valid y x i)) (λ s. s, λ s. s)) (reaching_closure T f A small y G)) (λ h m. Memᴰ.cases_cons m),
        )

    pub narrowed : Left Goals (narrow T f Z)
    unfolding narrow
    narrowed = left_on goals_are [] Goals (λ g m. m) (λ g m. inl m) (meet_of Z (before T f Z)) left_start

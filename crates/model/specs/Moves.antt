-- The moves between two valuations, a word of states at a time: from the states in `from`, by the table, into the states in `to`.
use mathlib.Core.Logic.Iff
use Rattle.std.specs.Prelude.{ℕ, ◌<◌, ◌≡◌, refl, Bool, true, false, ◌&&◌, List, [], ◌∷◌}
use Rattle.std.proofs.Common.{ap₂, ◌∙◌}
use Rattle.std.proofs.Math.Bool.{So, and-true}
use Rattle.meaning.specs.Bit.{bit}
use Rattle.words.specs.Below.{word_of}
use Rattle.words.specs.Unions.{word_at_lem}
use Rattle.meaning.specs.Says.{Says}
use Rattle.meaning.specs.Formula.{Formula}
use Rattle.meaning.specs.Run.{Plant, label_of, next_of}
use Rattle.meaning.specs.Step.{Part, next_part, untilPart, releasePart, fit, table, every, fits, leads}
use Rattle.words.specs.Truth.{says_itself, says_and₃}

-- the parts U and R (and F and G) look at the label of the state left
unfoldable pub leaving : Part → ℕ → ℕ → ℕ → Bool
leaving (next_part k a) v w l = true
leaving (untilPart k a b) v w l = fit (untilPart k a b) l v l w
leaving (releasePart k a b) v w l = fit (releasePart k a b) l v l w

-- the parts X look at the label of the state entered
unfoldable pub entering : Part → ℕ → ℕ → ℕ → Bool
entering (next_part k a) v w l = fit (next_part k a) l v l w
entering (untilPart k a b) v w l = true
entering (releasePart k a b) v w l = true

module _ (T : Plant) (f : Formula) where
  -- the states that a move from valuation v to w may leave, and those that it may enter
  unfoldable pub from : ℕ → ℕ → ℕ
  from v w = word_of T.states (λ s. every (λ c. leaving c v w (label_of T s)) (table f 0))

  unfoldable pub to : ℕ → ℕ → ℕ
  to v w = word_of T.states (λ s. every (λ c. entering c v w (label_of T s)) (table f 0))

part_split : (c : Part) (l v l' v' : ℕ) → fit c l v l' v' ≡ (leaving c v v' l && entering c v v' l')
unfolding fit leaving entering
part_split (next_part k a) l v l' v' = refl
part_split (untilPart k a b) l v l' v' = rw and-true
part_split (releasePart k a b) l v l' v' = rw and-true

split_all : {A : Type 0} (t u r : A → Bool) → ((x : A) → r x ≡ (t x && u x)) → (xs : List A) → every r xs ≡ (every t xs && every u xs)
unfolding every
split_all t u r h [] = refl
split_all t u r h (x ∷ xs) = ap₂ ◌&&◌ (h x) (split_all t u r h xs) ∙ swap (t x) (u x) (every t xs) (every u xs)
  where
    swap : (a b c d : Bool) → ((a && b) && (c && d)) ≡ ((a && c) && (b && d))
    swap true true c d = refl
    swap true false true d = refl
    swap true false false d = refl
    swap false b c d = refl

-- what fits, in two: a test of the state left, and a test of the state entered
pub fits_split : (f : Formula) (l v l' v' : ℕ) → fits f l v l' v' ≡ (every (λ c. leaving c v v' l) (table f 0) && every (λ c. entering c v v' l') (table f 0))
unfolding fits
fits_split f l v l' v' = split_all _ _ _ (λ c. part_split c l v l' v') (table f 0)

module _ (T : Plant) (f : Formula) (v w : ℕ) where
  pub bit_from : (s : ℕ) → s < T.states → bit (from T f v w) s ≡ every (λ c. leaving c v w (label_of T s)) (table f 0)
  unfolding from
  bit_from s l = word_at_lem T.states (λ s. every (λ c. leaving c v w (label_of T s)) (table f 0)) s l

  pub bit_to : (t : ℕ) → t < T.states → bit (to T f v w) t ≡ every (λ c. entering c v w (label_of T t)) (table f 0)
  unfolding to
  bit_to t l = word_at_lem T.states (λ s. every (λ c. entering c v w (label_of T s)) (table f 0)) t l

  -- a pair leads to another where its state is in `from`, and has a next state in `to`
  pub leads_says : (s t : ℕ) → s < T.states → t < T.states
      → Says (leads T f s v t w) (So (bit (from T f v w) s) × So (bit (next_of T s) t) × So (bit (to T f v w) t))
  leads_says s t ls lt =
      rw (bit_from s ls, bit_to t lt, fits_split f (label_of T s) v (label_of T t) w)
      (Iff.trans (says_and₃ (says_itself (bit (next_of T s) t)) (says_itself _) (says_itself _)) (λ (a, b, c). (b, a, c), λ (b, a, c). (a, b, c)))

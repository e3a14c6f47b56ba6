-- The pairs that one move of a set of pairs leads to.
use Rattle.std.specs.Prelude.{ℕ, ◌<◌, ◌≡◌, Bool, ◌&&◌, List, length, get_or}
use Rattle.std.proofs.Math.Path.{ap}
use Rattle.std.proofs.Common.{◌∙◌}
use Rattle.std.proofs.Math.Bool.{So}
use Rattle.std.specs.Int.Bits.{bit_and}
use Rattle.meaning.specs.Bit.{bit}
use Rattle.words.specs.Below.{any_below, union_below, words_below}
use Rattle.words.specs.Laws.{bit_and_lem}
use Rattle.words.specs.Folds.{any_same, any_found, any_of}
use Rattle.words.specs.Unions.{bit_union}
use Rattle.pairs.specs.Post.{post_of, bit_post}
use Rattle.pairs.specs.Sets.{inside}
use Rattle.words.specs.Truth.{and_says}

-- A move from (s, v) to (t, w) is allowed where s is in src v w, t in next s, and t in dst v w.
module _ (next old : List ℕ) (src dst : ℕ → ℕ → ℕ) where
  -- where the pairs of the set with valuation v lead to, at w
  abbrev pub moved_from : ℕ → ℕ → ℕ
  moved_from w v = bit_and (post_of next (bit_and (get_or old v 0) (src v w))) (dst v w)

  -- where the pairs of the set with a valuation below n lead to, at w
  unfoldable pub reached_at : ℕ → ℕ → ℕ
  reached_at n w = union_below n (moved_from w)

  -- the same, cut to a set of live pairs and to the states that agree
  abbrev pub image_at : ℕ → List ℕ → ℕ → ℕ → ℕ
  image_at n live agree w = bit_and (bit_and (get_or live w 0) agree) (reached_at n w)

  -- the same for each w below n
  unfoldable pub image_of : ℕ → List ℕ → ℕ → List ℕ
  image_of n live agree = words_below n (image_at n live agree)

  -- the pair (s, v) of the set has a move to (t, w), but for t in dst v w
  abbrev pub moves_to : ℕ → ℕ → ℕ → ℕ → Bool
  moves_to t w v s = (inside old s v && bit (src v w) s) && bit (get_or next s 0) t

  -- some pair of the set with valuation v has a move to (t, w)
  abbrev pub leads_from : ℕ → ℕ → ℕ → Bool
  leads_from t w v = any_below (length next) (moves_to t w v) && bit (dst v w) t

  -- some pair of the set has a move to (t, w)
  abbrev pub leads_to : ℕ → ℕ → ℕ → Bool
  leads_to n t w = any_below n (leads_from t w)

  pub bit_reached : (n w t : ℕ) → bit (reached_at n w) t ≡ leads_to n t w
  unfolding reached_at
  bit_reached n w t =
      bit_union n (moved_from w) t
      ∙ any_same n (λ v. bit (moved_from w v) t) (leads_from t w)
      (λ v _. bit_and_lem (post_of next (bit_and (get_or old v 0) (src v w))) (dst v w) t ∙ ap (λ (b : Bool). b && bit (dst v w) t) (moves v))
    where
      moves : (v : ℕ) → bit (post_of next (bit_and (get_or old v 0) (src v w))) t ≡ any_below (length next) (moves_to t w v)
      moves v = bit_post next (bit_and (get_or old v 0) (src v w)) t ∙ simp bit_and_lem

-- a move of a pair of the set to (t, w)
pub record MoveTo (next old : List ℕ) (src dst : ℕ → ℕ → ℕ) (n t w : ℕ) : Type 0 where
  pub v : ℕ
  pub s : ℕ
  pub small : v < n
  pub state : s < length next
  pub held : So (inside old s v)
  pub leaves : So (bit (src v w) s)
  pub allowed : So (bit (get_or next s 0) t)
  pub arrives : So (bit (dst v w) t)

module _ (next old : List ℕ) (src dst : ℕ → ℕ → ℕ) (n t w : ℕ) where
  abbrev moves : ℕ → ℕ → Bool
  moves = moves_to next old src dst t w

  pub leads_move : So (leads_to next old src dst n t w) → MoveTo next old src dst n t w
  leads_move h =
      let a = any_found n (leads_from next old src dst t w) h in
      let b = (and_says (any_below (length next) (moves a.0)) (bit (dst a.0 w) t)).0 a.2 in
      let c = any_found (length next) (moves a.0) b.0 in
      let d = (and_says (inside old c.0 a.0 && bit (src a.0 w) c.0) (bit (get_or next c.0 0) t)).0 c.2 in
      let e = (and_says (inside old c.0 a.0) (bit (src a.0 w) c.0)).0 d.0 in
      record { v = a.0; s = c.0; small = a.1; state = c.1; held = e.0; leaves = e.1; allowed = d.1; arrives = b.1 }

  pub move_leads : MoveTo next old src dst n t w → So (leads_to next old src dst n t w)
  move_leads m =
      any_of n (leads_from next old src dst t w) m.v m.small
      ((and_says (any_below (length next) (moves m.v)) (bit (dst m.v w) t)).1 (any_of (length next) (moves m.v) m.s m.state (rw (m.held, m.leaves, m.allowed)), m.arrives))

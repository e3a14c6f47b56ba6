-- For code: other ways to the same words.
use Rattle.std.specs.Prelude.{ℕ, ◌^◌, ◌<◌, ◌≡◌, Bool, true, false, ◌&&◌, List, ltb, length, get_or}
use Rattle.std.proofs.Common.{◌∙◌, ltb-true}
use Rattle.std.proofs.Math.Bool.{So}
use Rattle.std.specs.Int.Bits.{bit_and}
use Rattle.meaning.specs.Bit.{bit}
use Rattle.words.specs.Below.{all_below}
use Rattle.words.specs.Lists.{entry_inside}
use Rattle.words.specs.Folds.{any_found}
use Rattle.words.specs.Unions.{union_same, bit_word_of}
use Rattle.pairs.specs.Post.{post_of, bit_post}
use Rattle.moves.specs.Image.{reached_at, image_of}
use Rattle.moves.specs.Back.{meets, pre_of}
use Rattle.moves.specs.Leading.{leading_at}
use Rattle.labels.specs.Labels.{agreeing_of}
use Rattle.meaning.specs.Formula.{Formula, parts}
use Rattle.meaning.specs.Run.{Plant, label_of, next_of}
use Rattle.meaning.specs.Event.{Event}
use Rattle.meaning.specs.Limits.{AcceptedTable}
use Rattle.theory.specs.Parts.{part_of, every_parts}
use Rattle.model.specs.Sets.{PairSet}
use Rattle.words.specs.Within.{members_below, and_same}
use Rattle.model.specs.Moves.{leaving, entering, from, to, bit_from, bit_to}
use Rattle.model.specs.Monitor.{Monitor, side, source_at, kept_of}
use Rattle.words.specs.Truth.{and_says}

-- after the first event, and with no restart, a step is the image of what was held
pub moved_image : (T : Plant) (f : Formula) (live : List ℕ) (m : Monitor) (e : Event) (b : Bool) → m.seen ≡ true → e.new ≡ false
    → kept_of T f live m e b ≡ image_of T.next (side m b) (from T f) (to T f) (2 ^ parts f) live (agreeing_of T.label e.seen.see e.seen.val)
unfolding kept_of source_at image_of
moved_image T f live m e b seen old = rw (seen, old)

-- only the states of the table matter in `from` and `to`
module _ (T : Plant) (f : Formula) (A : AcceptedTable T) (Z : List ℕ) (z : PairSet T f Z) (src dst : ℕ → ℕ → ℕ)
    (leave : (v w s : ℕ) → v < 2 ^ parts f → w < 2 ^ parts f → s < T.states → bit (src v w) s ≡ bit (from T f v w) s)
    (enter : (v w t : ℕ) → v < 2 ^ parts f → w < 2 ^ parts f → t < T.states → bit (dst v w) t ≡ bit (to T f v w) t) where
  next_low : (s t : ℕ) → So (bit (next_of T s) t) → t < T.states
  next_low s t h = (members_below T.states (next_of T s)).0 (A.next_sets s (entry_inside T.next s t h)) t h

  -- for a step
  pub reached_same : (w : ℕ) → w < 2 ^ parts f → reached_at T.next Z src dst (2 ^ parts f) w ≡ reached_at T.next Z (from T f) (to T f) (2 ^ parts f) w
  unfolding reached_at
  reached_same w lw = union_same (2 ^ parts f) _ _ λ v lv.
      rw (and_same (get_or Z v 0) (src v w) (from T f v w) (λ s i. leave v w s lv lw (z.range s v i).0))
      (and_same (post_of T.next (bit_and (get_or Z v 0) (from T f v w))) (dst v w) (to T f v w) (λ t i. enter v w t lv lw (post_low (bit_and (get_or Z v 0) (from T f v w)) t i)))
    where
      post_low : (set t : ℕ) → So (bit (post_of T.next set) t) → t < T.states
      post_low set t i =
          let (s, _, h) = any_found (length T.next) (λ s. bit set s && bit (next_of T s) t) (rw bit_post at i) in
          next_low s t ((and_says (bit set s) (bit (next_of T s) t)).0 h).1

  -- and for a sweep
  pub leading_same : (v : ℕ) → v < 2 ^ parts f → leading_at T.next src dst (2 ^ parts f) Z v ≡ leading_at T.next (from T f) (to T f) (2 ^ parts f) Z v
  unfolding leading_at pre_of
  leading_same v lv = union_same (2 ^ parts f) _ _ λ w lw.
      rw (and_same (get_or Z w 0) (dst v w) (to T f v w) (λ t i. enter v w t lv lw (z.range t w i).0))
      (and_same (pre_of T.next (bit_and (get_or Z w 0) (to T f v w))) (src v w) (from T f v w) (λ s i. leave v w s lv lw (pre_low (bit_and (get_or Z w 0) (to T f v w)) s i)))
    where
      pre_low : (target s : ℕ) → So (bit (pre_of T.next target) s) → s < T.states
      pre_low target s i = rw A.nexts at (ltb-true s (length T.next) ((and_says (ltb s (length T.next)) (meets T.next target s)).0 (rw bit_word_of at i)).0)

-- `from` and `to`, part by part
module _ (T : Plant) (f : Formula) (v w : ℕ) where
  pub from_parts : (s : ℕ) → s < T.states → bit (from T f v w) s ≡ all_below (parts f) (λ k. leaving (part_of f k) v w (label_of T s))
  from_parts s l = bit_from T f v w s l ∙ every_parts f (λ c. leaving c v w (label_of T s))

  pub to_parts : (t : ℕ) → t < T.states → bit (to T f v w) t ≡ all_below (parts f) (λ k. entering (part_of f k) v w (label_of T t))
  to_parts t l = bit_to T f v w t l ∙ every_parts f (λ c. entering c v w (label_of T t))

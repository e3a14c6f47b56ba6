-- Both halves together are what all parts ask.
use Prim.Native.Nat.{ℕ, zero, suc, ◌+◌, ◌-◌, ◌*◌, ◌/◌, ◌%◌, ◌^◌, ◌≤◌, ◌<◌}
use Rattle.std.proofs.Common.{zero-add, arith, add-one, sym, ap, ap₂, ◌∙◌, length-set, get_or-set_same, lt-ltb, le-ltb}
use Rattle.std.proofs.Math.Decide.{dec_lt}
use Rattle.std.specs.Prelude.{◌≡◌, Bool, cond, List, length, get_or, set}
use Rattle.std.proofs.Math.Path.{refl}
use Rattle.std.proofs.Math.Bool.{and-true}
use Rattle.std.proofs.Math.Logic.{⊎_elim}
use Rattle.std.specs.Int.Bits.{bit_and}
use Rattle.std.proofs.Math.Seq.{get_or-set_other}
use Rattle.meaning.specs.Bit.{bit}
use Rattle.words.specs.Below.{shared_below}
use Rattle.words.specs.Laws.{bit_half, bit_mod}
use Rattle.words.specs.Tests.{below_cases}
use Rattle.words.specs.Unions.{shared_split, shared_same}
use Rattle.pairs.specs.Post.{post_of, post_none}
use Rattle.moves.specs.Fit.{entry, agreeing, fitting_of, meeting_of}
use Rattle.leads.specs.Halves.{fitting_from, meeting_from, middle_of, halves_after, leaving_of, entering_of, both_of, from_in, to_in, moved_of}

-- where no state is left to move from, none is reached
pub moved_none : (next leave enter : List ℕ) (held v w : ℕ) → bit_and held (from_in leave v w) ≡ 0 → 0 ≡ moved_of next leave enter held v w
moved_none next leave enter held v w e = sym (ap (λ (x : ℕ). bit_and x (to_in enter v w)) (ap (post_of next) e ∙ post_none next))

-- ---- the words stored

module _ (f g : ℕ → ℕ) where
  -- a turn of the loop
  pub halves_turn : (n : ℕ) (l : List ℕ) (x y : ℕ) → l ≡ halves_after f g n → x ≡ f n → y ≡ g n → set (set l n x) (n + 512) y ≡ halves_after f g (n + 1)
  unfolding halves_after
  halves_turn n l x y e hx hy = rw (e, hx, hy, add-one)

  length_halves : (n : ℕ) → length (halves_after f g n) ≡ 1024
  unfolding halves_after
  length_halves zero = refl
  length_halves (suc n) = rw (length-set, length-set) (length_halves n)

  halves_low : (n i : ℕ) → n ≤ 512 → i < n → get_or (halves_after f g n) i 0 ≡ f i
  unfolding halves_after
  halves_low zero i m l = absurd (omega arith)
  halves_low (suc n) i m l =
      get_or-set_other (set (halves_after f g n) n (f n)) (n + 512) i (g n) 0 (λ e. omega arith)
      ∙ ⊎_elim (λ k. get_or-set_other (halves_after f g n) n i (f n) 0 (λ e. omega arith) ∙ halves_low n i (omega arith) k)
      (λ e. rw e (get_or-set_same (halves_after f g n) n (f n) 0 (rw (length_halves n) (omega arith)))) (below_cases l)

  halves_high : (n i : ℕ) → n ≤ 512 → i < n → get_or (halves_after f g n) (i + 512) 0 ≡ g i
  unfolding halves_after
  halves_high zero i m l = absurd (omega arith)
  halves_high (suc n) i m l = ⊎_elim
      (λ k. get_or-set_other (set (halves_after f g n) n (f n)) (n + 512) (i + 512) (g n) 0 (λ e. omega arith)
      ∙ get_or-set_other (halves_after f g n) n (i + 512) (f n) 0 (λ e. omega arith) ∙ halves_high n i (omega arith) k)
      (λ e. rw e (get_or-set_same (set (halves_after f g n) n (f n)) (n + 512) (g n) 0 (rw (length-set, length_halves n) (omega arith))))
      (below_cases l)

  both_halves : (x y : ℕ) → x < 64 → y < 64 → both_of (halves_after f g 512) x y ≡ bit_and (f (x * 8 + y % 8)) (g (x * 8 + y / 8))
  both_halves x y lx ly = ap₂ bit_and (halves_low 512 (x * 8 + y % 8) (omega arith) (omega arith)) (halves_high 512 (x * 8 + y / 8) (omega arith) (omega arith))

-- ---- what the parts share, in two

-- the last three digits are those of the remainder, the others those of the rest
low_digit : (z k : ℕ) → k < 3 → bit (z % 8) k ≡ bit z k
low_digit z k l = bit_mod 3 z k ∙ rw (lt-ltb k 3 l) (and-true (bit z k))

high_digit : (z k : ℕ) → 3 ≤ k → bit (z / 8 * 8) k ≡ bit z k
high_digit z k l =
    let e : k ≡ suc (suc (suc (k - 3))) = omega arith in
    let h : z / 8 * 8 / 2 / 2 / 2 ≡ z / 2 / 2 / 2 = omega arith in
    rw e (sym (down (z / 8 * 8) (k - 3)) ∙ ap (λ (y : ℕ). bit y (k - 3)) h ∙ down z (k - 3))
  where
    down : (y j : ℕ) → bit (y / 2 / 2 / 2) j ≡ bit y (suc (suc (suc j)))
    down y j = bit_half (y / 2 / 2) j ∙ bit_half (y / 2) (suc j) ∙ bit_half y (suc (suc j))

-- parts that look at their own digit of z alone: half of them at its last digits, the others at its first
halves_join : (parts x : ℕ) (F : ℕ → Bool → ℕ) (z : ℕ)
    → bit_and (shared_below x (middle_of parts) (λ j. F (0 + j) (bit (z % 8) (0 + j))))
    (shared_below x (parts - middle_of parts) (λ j. F (middle_of parts + j) (bit (z / 8 * 8) (middle_of parts + j))))
    ≡ shared_below x parts (λ k. F k (bit z k))
halves_join parts x F z = go (dec_lt parts 3)
  where
    cut : (m : ℕ) → m ≤ 3 → m ≤ parts → (m < parts → m ≡ 3)
        → bit_and (shared_below x m (λ j. F (0 + j) (bit (z % 8) (0 + j)))) (shared_below x (parts - m) (λ j. F (m + j) (bit (z / 8 * 8) (m + j))))
        ≡ shared_below x parts (λ k. F k (bit z k))
    cut m few most more =
        ap₂ bit_and (shared_same x m _ (λ k. F k (bit z k)) (λ j l. ap₂ F (zero-add j) (ap (bit (z % 8)) (zero-add j) ∙ low_digit z j (omega arith))))
        (shared_same x (parts - m) _ (λ j. F (m + j) (bit z (m + j))) (λ j l. ap (F (m + j)) (high_digit z (m + j) (let e = more (omega arith) in omega arith))))
        ∙ sym (shared_split x m (parts - m) (λ k. F k (bit z k)))
        ∙ ap (λ (n : ℕ). shared_below x n (λ k. F k (bit z k))) (let e : m + (parts - m) ≡ parts = omega arith in e)

    go : Dec (parts < 3) → bit_and (shared_below x (middle_of parts) (λ j. F (0 + j) (bit (z % 8) (0 + j))))
        (shared_below x (parts - middle_of parts) (λ j. F (middle_of parts + j) (bit (z / 8 * 8) (middle_of parts + j))))
        ≡ shared_below x parts (λ k. F k (bit z k))
    go (yes l) = rw (lt-ltb parts 3 l) (cut parts (omega arith) (omega arith) (λ h. absurd (omega arith)))
    go (no h) = rw (le-ltb parts 3 (omega arith)) (cut 3 (omega arith) (omega arith) (λ _. refl))

-- ---- so the halves give what all parts ask

-- the index of two halves, taken apart
index_apart : (x h : ℕ) → h < 8 → ((x * 8 + h) / 8 ≡ x) × ((x * 8 + h) % 8 ≡ h)
index_apart x h l = (omega arith, omega arith)

pub leaving_fits : (parts : ℕ) (low high : List ℕ) (v w : ℕ) → v < 64 → w < 64 → from_in (leaving_of parts low high) v w ≡ fitting_of parts low high v w
unfolding leaving_of fitting_of fitting_from
leaving_fits parts low high v w lv lw =
    let (a, b) = index_apart v (w % 8) (omega arith) in
    let (c, d) = index_apart v (w / 8) (omega arith) in
    both_halves _ _ v w lv lw
    ∙ rw (a, b, c, d) (halves_join parts (2 ^ 64 - 1) (λ k x. agreeing (bit v k) (cond x (entry high v k) (entry low v k))) w)

pub entering_meets : (parts nexts : ℕ) (operand : List ℕ) (v w : ℕ) → v < 64 → w < 64 → to_in (entering_of parts nexts operand) v w ≡ meeting_of parts nexts operand v w
unfolding entering_of meeting_of meeting_from
entering_meets parts nexts operand v w lv lw =
    let (a, b) = index_apart w (v % 8) (omega arith) in
    let (c, d) = index_apart w (v / 8) (omega arith) in
    both_halves _ _ w v lw lv
    ∙ rw (a, b, c, d) (halves_join parts (2 ^ 64 - 1) (λ k x. cond (bit nexts k) (agreeing x (entry operand w k)) (2 ^ 64 - 1)) v)

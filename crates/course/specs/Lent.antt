-- Two sets that are lent: what came to them is what comes to the monitor that they are of.
use Prim.Native.Nat.{ℕ, zero, suc, ◌+◌}
use Rattle.std.specs.Prelude.{◌≡◌, true, false, List}
use Rattle.std.proofs.Math.Path.{refl}
use Rattle.std.proofs.Common.{sym, ap, ap₂, ◌∙◌}
use Rattle.std.proofs.Math.Bool.{Bool, cond}
use Rattle.pairs.specs.Sets.{join_of}
use Rattle.moves.specs.Image.{image_of}
use Rattle.leads.specs.Halves.{from_in, to_in}
use Rattle.labels.specs.Labels.{agreeing_of}
use Rattle.event_log.specs.declared.Event.{Event}
use Rattle.event_numbers.specs.Numbers.{number_of, missing_of}
use Rattle.sides.specs.declared.Monitor.{Monitor}
use Rattle.sides.specs.Sides.{sides_of, split_of, kept_of, moved_by, restarted_by, advanced_by, caught_up_by, came_by, expecting}
use Rattle.sides.proofs.SidesRight.{restarted_whole, advanced_new, advanced_next, came_at_once}

module _ (label next leave enter holds : List ℕ) (count : ℕ) (live : List ℕ) where
  -- whatever the case is, the number stays, and an event came
  advanced_sides : (m : Monitor) (e : Event) → let x = advanced_by label next leave enter holds count live m e in x ≡ sides_of m.expected true x.keeps.words x.breaks.words
  unfolding advanced_by kept_of moved_by restarted_by
  advanced_sides m e = by m.seen e.new
    where
      after : Bool → Bool → Monitor
      after s n =
          let agree = agreeing_of label e.see e.val in
          cond s (cond n (restarted_by next leave enter holds count live m agree) (moved_by next leave enter count live m agree)) (kept_of m live agree)

      by : (s n : Bool) → after s n ≡ sides_of m.expected true (after s n).keeps.words (after s n).breaks.words
      by true true = refl
      by true false = refl
      by false n = refl

  caught_number : (m : Monitor) (k : ℕ) → (caught_up_by label next leave enter count live m k).expected ≡ m.expected
  unfolding caught_up_by moved_by
  caught_number m zero = refl
  caught_number m (suc k) = caught_number m k

  module _ (m : Monitor) (e : Event) (k : ℕ) where
    abbrev came : Monitor
    came = came_by label next leave enter holds count live m k e

    -- both sets moved
    pub came_moved : {agree : ℕ} {keeps breaks : List ℕ} → agree ≡ agreeing_of label e.see e.val → k ≡ 0 → m.seen ≡ true → e.new ≡ false
        → keeps ≡ image_of next m.keeps.words (from_in leave) (to_in enter) count live agree → breaks ≡ image_of next m.breaks.words (from_in leave) (to_in enter) count live agree
        → sides_of m.expected true keeps breaks ≡ came
    unfolding moved_by
    came_moved a none seen new ek eb =
        came_at_once label next leave enter count live m holds e k none (advanced_next label next leave enter holds count live m e a seen new (ap₂ (sides_of m.expected true) ek eb))

    -- or moved as one and split
    pub came_split : {agree : ℕ} {keeps breaks : List ℕ} → agree ≡ agreeing_of label e.see e.val → k ≡ 0 → m.seen ≡ true → e.new ≡ true
        → let reached = image_of next (join_of m.keeps.words m.breaks.words) (from_in leave) (to_in enter) count live agree in
        keeps ≡ split_of reached agree holds true → breaks ≡ split_of reached agree holds false → sides_of m.expected true keeps breaks ≡ came
    came_split {agree} a none seen new ek eb =
        came_at_once label next leave enter count live m holds e k none
        (advanced_new label next leave enter holds count live m e a seen new (restarted_whole next leave enter holds count live m agree refl refl ek eb))

    -- or all that came stored
    pub came_stored : {x : Monitor} → x ≡ came → sides_of m.expected true x.keeps.words x.breaks.words ≡ came
    came_stored is =
        ap₂ (λ (n : ℕ) (y : Monitor). sides_of n true y.keeps.words y.breaks.words) (sym (caught_number m k)) is
        ∙ sym (advanced_sides (caught_up_by label next leave enter count live m k) e)

  -- with the number that the event takes
  pub taken_lent : (m : Monitor) (e : Event) {number : ℕ} {x : Monitor} → number ≡ number_of e.num m.expected
      → x ≡ came_by label next leave enter holds count live (expecting (number + 1) m) (missing_of m.seen m.expected number) e
      → let n = number_of e.num m.expected in x ≡ came_by label next leave enter holds count live (expecting (n + 1) m) (missing_of m.seen m.expected n) e
  taken_lent m e is came = came ∙ ap (λ (n : ℕ). came_by label next leave enter holds count live (expecting (n + 1) m) (missing_of m.seen m.expected n) e) is

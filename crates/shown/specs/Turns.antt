-- What the loops leave.
use Rattle.std.specs.Prelude.{ℕ, ◌+◌, ◌<◌, ◌≡◌, refl, Bool, ◌&&◌, List, length}
use Rattle.std.proofs.Common.{add-one, ap, ◌∙◌, lt-ltb}
use Rattle.words.specs.Below.{all_below}
use Rattle.node_value.specs.Turns.{all_turn}
use Rattle.event_log.specs.declared.Event.{Event}
use Rattle.shown.specs.Positions.{position_of, later_of, mark_of}
use Rattle.shown.specs.Tests.{move_at, moves_of, agrees_at, agree_at, agree_of}

-- after the last move
pub moves_end : (next : List ℕ) (states : ℕ) (run : List ℕ) (s i : ℕ) (good : Bool) → s < length run → i ≡ length run
    → good ≡ all_below i (move_at next states run s) → good ≡ moves_of next states run s
unfolding moves_of
moves_end next states run s i good l e h = rw (lt-ltb s (length run) l) (h ∙ rw e)

-- one line more: its event is `this`, and the first line's `begin`
pub mark_turn : (event : ℕ → Event) (n : ℕ) {mark at r : ℕ} {begin this : Event} → begin ≡ event 0 → this ≡ event n → mark ≡ mark_of event n
    → at ≡ position_of begin.num this.num n → r ≡ later_of this.new at mark → r ≡ mark_of event (n + 1)
unfolding mark_of
mark_turn event n b e m f h = rw (add-one, h, f, m, b, e)

pub agree_turn : (label run : List ℕ) (s : ℕ) (event : ℕ → Event) (n : ℕ) {good now : Bool} {at : ℕ} {begin this : Event} → begin ≡ event 0 → this ≡ event n
    → good ≡ all_below n (agree_at label run s event) → at ≡ position_of begin.num this.num n → now ≡ agrees_at label run s at this.see this.val
    → (good && now) ≡ all_below (n + 1) (agree_at label run s event)
agree_turn label run s event n b e g f h = all_turn n (agree_at label run s event) _ _ g (h ∙ rw (f, b, e) refl)

-- behind the last line
pub mark_end : (event : ℕ → Event) {n k mark : ℕ} → n ≡ k → mark ≡ mark_of event n → mark ≡ mark_of event k
mark_end event e h = h ∙ ap (mark_of event) e

pub agree_end : (label run : List ℕ) (s : ℕ) (event : ℕ → Event) {n k : ℕ} {good : Bool} → n ≡ k → good ≡ all_below n (agree_at label run s event) → good ≡ agree_of label run s event k
unfolding agree_of
agree_end label run s event e h = h ∙ ap (λ (m : ℕ). all_below m (agree_at label run s event)) e

-- What a call that reads a form gives: the guess at the value, and the cursor behind that value's slots. Stretches read one after the other are one.
use Rattle.std.specs.Prelude.{ℕ, List, length, drop}
use Rattle.std.proofs.Math.Path.{◌≡◌, ap, ap₂}
use Rattle.std.proofs.Common.{sym, ◌∙◌, arith, drop-drop}
use Rattle.text.specs.Slot.{Slot, matched}
use Rattle.text.specs.After.{cursor_after, cursor, goes_on, after_at, after_matched}
use Rattle.text.specs.Form.{Form, led, ended, both, seen}
use Rattle.text.specs.Hex.{hex}
use Rattle.text.specs.Count.{counted}
use Rattle.text.specs.Read.{IsHex, IsCount}
use Rattle.text.specs.declared.Cursor.{Cursor}

-- behind c the form gives the value, and the cursor behind it
pub record Took {A : Type 0} (F : Form A) (s : List ℕ) (c : Cursor) (value : A) (next : Cursor) : Type 0 where
  pub is : value ≡ F.guess (drop c.at s)
  pub goes : next ≡ cursor_after s c (F.slots value)

-- the text at a later cursor
pub drop_after : (s : List ℕ) (c d : Cursor) (ts : List Slot) → d ≡ cursor_after s c ts → drop d.at s ≡ drop (length ts) (drop c.at s)
drop_after s c d ts e = ap (λ (i : ℕ). drop i s) (ap (λ (x : Cursor). x.at) e ∙ after_at s c ts) ∙ sym (drop-drop (length ts) c.at s)

module _ {A : Type 0} {F : Form A} {s : List ℕ} where
  pub took_led : (ws : List Slot) {c d e : Cursor} {v : A} → d ≡ cursor_after s c ws → Took F s d v e → Took (led ws F) s c v e
  unfolding led
  took_led ws {c} {d} {e} {v} p t = record { is = t.is ∙ ap F.guess (drop_after s c d ws p); goes = goes_on s c d e ws (F.slots v) p t.goes }

  pub took_ended : (ws : List Slot) {c d e : Cursor} {v : A} → Took F s c v d → e ≡ cursor_after s d ws → Took (ended F ws) s c v e
  unfolding ended
  took_ended ws {c} {d} {e} {v} t p = record { is = t.is; goes = goes_on s c d e (F.slots v) ws t.goes p }

  pub took_both : {B : Type 0} (G : A → Form B) {c d e : Cursor} {a : A} {b : B} → Took F s c a d → Took (G a) s d b e → Took (both F G) s c (a, b) e
  unfolding both
  took_both {B} G {c} {d} {e} {a} {b} t u =
      record {
        is = same t.is (u.is ∙ ap (G a).guess (drop_after s c d (F.slots a) t.goes));
        goes = goes_on s c d e (F.slots a) ((G a).slots b) t.goes u.goes;
      }
    where
      same :
          a ≡ F.guess (drop c.at s) → b ≡ (G a).guess (drop (length (F.slots a)) (drop c.at s))
          → ◌≡◌ {A = A × B} (a, b)
          (F.guess (drop c.at s), (G (F.guess (drop c.at s))).guess (drop (length (F.slots (F.guess (drop c.at s)))) (drop c.at s)))
      same p q = ap₂ (λ (x : A) (y : B). (x, y)) p (q ∙ ap (λ (x : A). (G x).guess (drop (length (F.slots x)) (drop c.at s))) p)

  pub took_seen : {B : Type 0} (Ok : B → Type 0) (to : A → B) (from : B → A) {c e : Cursor} {a : A} → from (to a) ≡ a → Took F s c a e → Took (seen F Ok to from) s c (to a) e
  unfolding seen
  took_seen Ok to from {c} {e} {a} r t = record { is = ap to t.is; goes = t.goes ∙ ap (λ (x : A). cursor_after s c (F.slots x)) (sym r) }

  -- from the start of a text the cursor tells how far the text fits the guess
  pub took_all : {v : A} {e : Cursor} → Took F s (cursor 0 0) v e → (v ≡ F.guess s) × (e ≡ cursor (length (F.slots v)) (matched s (F.slots v)))
  took_all {v} t = (t.is, t.goes ∙ after_matched s 0 (F.slots v) ∙ ap₂ cursor (omega arith) (omega arith))

pub hex_took : {s : List ℕ} {c d : Cursor} {w v : ℕ} → IsHex s c w v d → Took (hex w) s c v d
unfolding hex
hex_took h = record { is = h.is; goes = h.slots }

pub count_took : {s : List ℕ} {c d : Cursor} {end lo hi v : ℕ} → IsCount s c end lo hi v d → Took (counted end lo hi) s c v d
unfolding counted
count_took h = record { is = h.is; goes = h.slots }

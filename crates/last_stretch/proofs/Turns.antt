-- What the loop over the lines, from the last one back, has found, and that it ends where the stretch begins.
use Prim.Native.Nat.{ℕ, suc, ◌+◌, ◌-◌, ◌≤◌, ◌<◌}
use native.Mathlib.Omega.{arith}
use mathlib.Core.Path.{◌≡◌, refl, sym, ap, ap₂, subst, ◌∙◌}
use mathlib.Core.Bool.{Bool, true, false, ◌&&◌, not, cond}
use lib.Dec.{ltb}
use borrow.Author.Tests.{ltb-false, lt-ltb, le-ltb}
use Rattle.meaning.specs.Bit.{bit}
use Rattle.words.specs.Truth.{and_says}
use Rattle.syntax.specs.declared.Rule.{Rule}
use Rattle.event_log.specs.declared.Event.{Event}
use Rattle.within.specs.Props.{props_of}
use Rattle.last_stretch.specs.declared.Back.{Back}
use Rattle.last_stretch.specs.declared.Found.{Found}
use Rattle.last_stretch.specs.Stretch.{begins, behind_last, further_of, back_from, found_in, found_of}

module _ (rule : Rule) (used : ℕ) (event : ℕ → Event) (n : ℕ) where
  -- the lines from `line` on were looked at, and the stretch begins there or before
  pub record Looked (back : Back) (line : ℕ) : Type 0 where
    pub low : line ≤ n
    pub is : back ≡ back_from rule used event (n - line) line
    pub begun : cond back.going (begins event line) line ≡ begins event n

  pub starts : {back : Back} → back ≡ behind_last rule → Looked back n
  unfolding back_from
  starts e = record { low = omega arith; is = let z : n - n ≡ 0 = omega arith in rw z e; begun = rw e refl }

  -- one line further back, which is there and not before the stretch
  pub goes_back : {back next : Back} {line i : ℕ} {e : Event} → Looked back line → (back.going && ltb 0 line) ≡ true → i + 1 ≡ line → e ≡ event i
      → next ≡ further_of rule used back e → Looked next i
  unfolding back_from further_of begins
  goes_back {back} {next} {line} {i} {e} g test at is made =
      let m : n - i ≡ suc (n - line) = omega (arith, g.low) in
      let j : suc i ≡ line = omega arith in
      record {
        low = omega (arith, g.low);
        is = rw (m, j) (made ∙ ap₂ (further_of rule used) g.is is);
        begun = rw made (by e.new refl);
      }
    where
      there : begins event (suc i) ≡ begins event n
      there =
          let j : line ≡ suc i = omega arith in
          ap (begins event) (sym j) ∙ subst (λ (b : Bool). cond b (begins event line) line ≡ begins event n) ((and_says back.going (ltb 0 line)).0 test).0 g.begun

      by : (b : Bool) → e.new ≡ b → cond (not b) (begins event i) i ≡ begins event n
      by true new = subst (λ (b : Bool). cond b i (begins event i) ≡ begins event n) (ap (λ (x : Event). x.new) (sym is) ∙ new) there
      by false new = subst (λ (b : Bool). cond b i (begins event i) ≡ begins event n) (ap (λ (x : Event). x.new) (sym is) ∙ new) there

  -- behind the loop the stretch begins at the line
  pub ends : {back : Back} {line : ℕ} → Looked back line → (back.going && ltb 0 line) ≡ false → back ≡ back_from rule used event (n - begins event n) (begins event n)
  unfolding begins
  ends {back} {line} g test = subst (λ (i : ℕ). back ≡ back_from rule used event (n - i) i) (by back.going refl) g.is
    where
      by : (b : Bool) → back.going ≡ b → line ≡ begins event n
      by false e = subst (λ (b : Bool). cond b (begins event line) line ≡ begins event n) e g.begun
      by true e =
          let z : line ≡ 0 = let t : (true && ltb 0 line) ≡ false = rw e at test in let h = ltb-false 0 line t in omega arith in
          let b : begins event line ≡ begins event n = subst (λ (b : Bool). cond b (begins event line) line ≡ begins event n) e g.begun in
          z ∙ sym (ap (begins event) z) ∙ b

  -- so it does where the loop is left at the restart, and where no line is left
  pub ends_restart : {back : Back} {line : ℕ} → Looked back line → back.going ≡ false → back ≡ back_from rule used event (n - begins event n) (begins event n)
  ends_restart {back} {line} g e = ends g (rw e refl)

  pub ends_first : {back : Back} {line : ℕ} → Looked back line → line ≤ 0 → back ≡ back_from rule used event (n - begins event n) (begins event n)
  ends_first {back} {line} g z = ends g (none back.going)
    where
      none : (b : Bool) → (b && ltb 0 line) ≡ false
      none true = le-ltb 0 line z
      none false = refl

-- while it goes on, and there is a line
pub going_on : {b : Bool} {line : ℕ} → b ≡ true → 0 < line → (b && ltb 0 line) ≡ true
going_on {b} {line} e l = rw (e, lt-ltb 0 line l)

pub found : (rule : Rule) (event : ℕ → Event) (n : ℕ) {used : ℕ} → used ≡ props_of rule
    → {back : Back} → back ≡ back_from rule used event (n - begins event n) (begins event n)
    → {r h : Bool} → r ≡ (ltb 0 n && back.all) → h ≡ bit back.stack 0 → record { ready = r; holds = h } ≡ found_of rule event n
unfolding found_of
found rule event n {used} all {back} is {r} {h} ready holds =
    rw (ready, holds) (ap (found_in n) (is ∙ ap (λ (u : ℕ). back_from rule u event (n - begins event n) (begins event n)) all))

-- however the lines were counted
pub found_counted : (rule : Rule) (event : ℕ → Event) {n k : ℕ} → n ≡ k → {r : Found} → r ≡ found_of rule event n → r ≡ found_of rule event k
found_counted rule event e h = h ∙ ap (found_of rule event) e

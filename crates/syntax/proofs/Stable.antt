-- With fuel enough, more fuel makes no difference to the reader.
use Prim.Native.Nat.{ℕ, zero, suc, ◌+◌, ◌*◌, ◌≤◌, ◌<◌}
use mathlib.Core.Path.{◌≡◌, refl, ap, ◌∙◌}
use mathlib.Core.List.{List, [], ◌∷◌}
use mathlib.Core.Bool.{Bool, true, false, cond}
use native.Mathlib.Omega.{arith}
use borrow.Author.Tests.{eqb-true}
use lib.ListN.{length}
use Rattle.syntax.specs.declared.Token.{Token}
use Rattle.syntax.specs.Grammar.{Level, arrows, ors, ands, untils, prefixes, leaves}
use Rattle.syntax.specs.Reader.{Got, stay, written_first, closed, onward, op_of, head, tail, begins, read, more}

-- how many calls deep the reader goes without reading a token
unfoldable pub height : Level → ℕ
height arrows = 5
height ors = 4
height ands = 3
height untils = 2
height prefixes = 1
height leaves = 0

tail_le : (ts : List Token) → length (tail ts) ≤ length ts
unfolding tail
tail_le [] = omega arith
tail_le (t ∷ ts) = omega arith

tail_lt : (k : ℕ) → k < 8 → (ts : List Token) → begins k ts ≡ true → length (tail ts) < length ts
unfolding tail head
tail_lt k h [] e = absurd (omega (arith, eqb-true 8 k e))
tail_lt k h (t ∷ ts) e = omega arith

-- what is picked
pub picked : {b : Bool} (x y : Got) → b ≡ true → cond b x y ≡ x
picked x y e = rw e

pub unpicked : {b : Bool} (x y : Got) → b ≡ false → cond b x y ≡ y
unpicked x y e = rw e

by_pick : (P : Got → Type 0) (b : Bool) {x y : Got} → (b ≡ true → P x) → (b ≡ false → P y) → P (cond b x y)
by_pick P true f g = f refl
by_pick P false f g = g refl

pick_both : (b : Bool) {x x' y y' : Got} → (b ≡ true → x ≡ x') → (b ≡ false → y ≡ y') → cond b x y ≡ cond b x' y'
pick_both true f g = f refl
pick_both false f g = g refl

onward_both : (k k' : List Token → Got) {g g' : Got} → g ≡ g' → k g'.rest ≡ k' g'.rest → onward k g ≡ onward k' g'
onward_both k k' {g} {g'} e f = ap (onward k) e ∙ ap (written_first g'.out) f

-- g leaves no more than ts
abbrev Within : List Token → Got → Type 0
Within ts g = length g.rest ≤ length ts

mutual
  unfolding read more

  read_within : (n : ℕ) (l : Level) (ts : List Token) → Within ts (read n l ts)
  read_within zero l ts = omega arith
  read_within (suc n) arrows ts = omega (arith, read_within n ors ts, more_within n arrows (read n ors ts).rest)
  read_within (suc n) ors ts = omega (arith, read_within n ands ts, more_within n ors (read n ands ts).rest)
  read_within (suc n) ands ts = omega (arith, read_within n untils ts, more_within n ands (read n untils ts).rest)
  read_within (suc n) untils ts = omega (arith, read_within n prefixes ts, more_within n untils (read n prefixes ts).rest)
  read_within (suc n) prefixes ts =
      by_pick (Within ts) (begins 4 ts) (λ _. omega (arith, tail_le ts, read_within n prefixes (tail ts))) (λ _. read_within n leaves ts)
  read_within (suc n) leaves ts =
      by_pick (Within ts) (begins 5 ts) (λ _. tail_le ts)
      (λ _. by_pick (Within ts) (begins 6 ts) (λ _. omega (arith, tail_le ts, read_within n arrows (tail ts), tail_le (read n arrows (tail ts)).rest)) (λ _. omega arith))

  more_within : (n : ℕ) (l : Level) (ts : List Token) → Within ts (more n l ts)
  more_within zero l ts = omega arith
  more_within (suc n) arrows ts = by_pick (Within ts) (begins 0 ts) (λ _. omega (arith, tail_le ts, read_within n arrows (tail ts))) (λ _. omega arith)
  more_within (suc n) ors ts =
      by_pick (Within ts) (begins 1 ts) (λ _. omega (arith, tail_le ts, read_within n ands (tail ts), more_within n ors (read n ands (tail ts)).rest)) (λ _. omega arith)
  more_within (suc n) ands ts =
      by_pick (Within ts) (begins 2 ts) (λ _. omega (arith, tail_le ts, read_within n untils (tail ts), more_within n ands (read n untils (tail ts)).rest)) (λ _. omega arith)
  more_within (suc n) untils ts = by_pick (Within ts) (begins 3 ts) (λ _. omega (arith, tail_le ts, read_within n untils (tail ts))) (λ _. omega arith)
  more_within (suc n) prefixes ts = omega arith
  more_within (suc n) leaves ts = omega arith

mutual
  unfolding read more height

  read_stable : (n : ℕ) (l : Level) (ts : List Token) → 8 * length ts + height l < n → read (suc n) l ts ≡ read n l ts
  read_stable zero l ts h = absurd (omega arith)
  read_stable (suc n) arrows ts h =
      onward_both (λ us. more (suc n) arrows us) (λ us. more n arrows us) (read_stable n ors ts (omega arith)) (more_stable n arrows (read n ors ts).rest (omega (arith, read_within n ors ts)))
  read_stable (suc n) ors ts h =
      onward_both (λ us. more (suc n) ors us) (λ us. more n ors us) (read_stable n ands ts (omega arith)) (more_stable n ors (read n ands ts).rest (omega (arith, read_within n ands ts)))
  read_stable (suc n) ands ts h =
      onward_both (λ us. more (suc n) ands us) (λ us. more n ands us) (read_stable n untils ts (omega arith)) (more_stable n ands (read n untils ts).rest (omega (arith, read_within n untils ts)))
  read_stable (suc n) untils ts h =
      onward_both (λ us. more (suc n) untils us) (λ us. more n untils us) (read_stable n prefixes ts (omega arith)) (more_stable n untils (read n prefixes ts).rest (omega (arith, read_within n prefixes ts)))
  read_stable (suc n) prefixes ts h =
      pick_both (begins 4 ts) (λ e. ap (closed (op_of (head ts))) (read_stable n prefixes (tail ts) (omega (arith, tail_lt 4 (omega arith) ts e)))) (λ _. read_stable n leaves ts (omega arith))
  read_stable (suc n) leaves ts h =
      pick_both (begins 5 ts) (λ _. refl)
      (λ _. pick_both (begins 6 ts) (λ e. ap (onward (λ us. stay (tail us))) (read_stable n arrows (tail ts) (omega (arith, tail_lt 6 (omega arith) ts e)))) (λ _. refl))

  more_stable : (n : ℕ) (l : Level) (ts : List Token) → 8 * length ts < n → more (suc n) l ts ≡ more n l ts
  more_stable zero l ts h = absurd (omega arith)
  more_stable (suc n) arrows ts h =
      pick_both (begins 0 ts) (λ e. ap (closed (op_of (head ts))) (read_stable n arrows (tail ts) (omega (arith, tail_lt 0 (omega arith) ts e)))) (λ _. refl)
  more_stable (suc n) ors ts h =
      pick_both (begins 1 ts) (λ e. onward_both (λ us. more (suc n) ors us) (λ us. more n ors us)
      (ap (closed (op_of (head ts))) (read_stable n ands (tail ts) (omega (arith, tail_lt 1 (omega arith) ts e))))
      (more_stable n ors (read n ands (tail ts)).rest (omega (arith, tail_lt 1 (omega arith) ts e, read_within n ands (tail ts))))) (λ _. refl)
  more_stable (suc n) ands ts h =
      pick_both (begins 2 ts) (λ e. onward_both (λ us. more (suc n) ands us) (λ us. more n ands us)
      (ap (closed (op_of (head ts))) (read_stable n untils (tail ts) (omega (arith, tail_lt 2 (omega arith) ts e))))
      (more_stable n ands (read n untils (tail ts)).rest (omega (arith, tail_lt 2 (omega arith) ts e, read_within n untils (tail ts))))) (λ _. refl)
  more_stable (suc n) untils ts h =
      pick_both (begins 3 ts) (λ e. ap (closed (op_of (head ts))) (read_stable n untils (tail ts) (omega (arith, tail_lt 3 (omega arith) ts e)))) (λ _. refl)
  more_stable (suc n) prefixes ts h = refl
  more_stable (suc n) leaves ts h = refl

-- any fuel above what is needed reads the same
pub stable : (l : Level) (ts : List Token) (n k : ℕ) → 8 * length ts + height l < n → read (n + k) l ts ≡ read n l ts
stable l ts n zero h = let e : n + 0 ≡ n = omega arith in ap (λ m. read m l ts) e
stable l ts n (suc k) h =
    let e : n + suc k ≡ suc (n + k) = omega arith in
    ap (λ m. read m l ts) e ∙ read_stable (n + k) l ts (omega arith) ∙ stable l ts n k h

-- What is told of a rule's last node, by how many operands it has.
use Prim.Native.Nat.{ℕ, zero, suc, ◌+◌, ◌-◌, ◌≤◌, ◌<◌}
use mathlib.Core.Path.{◌≡◌, refl, ap, ◌∙◌}
use mathlib.Core.List.{List, [], ◌∷◌, ◌++◌}
use native.Mathlib.Omega.{arith}
use native.Mathlib.Numerals.{sub-one}
use borrow.Author.Tests.{eq-eqb, ne_eqb}
use lib.ListN.{length, get_or}
use Rattle.syntax.specs.declared.Op.{Op}
use Rattle.syntax.specs.declared.Node.{Node}
use Rattle.syntax.specs.Postfix.{sides}
use Rattle.syntax.specs.Print.{inside}
use Rattle.syntax.specs.Value.{blank}
use Rattle.printer.specs.Tell.{width, word, back, Line, tell, Wording, parens, share, shares, Room, Told}
use Rattle.printer.specs.declared.Spot.{Spot}
use Rattle.writing.specs.Put.{Put, put_length, put_none, put_to, put_before}

-- the node before k
abbrev pub node_at : List Node → ℕ → Op
node_at ns i = (get_or ns i blank).op

back_one : (ns : List Node) (k : ℕ) → (k ≡ 0 → ⊥) → back ns k ≡ node_at ns (k - 1) ∷ back ns (k - 1)
unfolding back
back_one ns zero h = absurd (h refl)
back_one ns (suc k) h = rw (sub-one (suc k))

module _ (o : Op) (os : List Op) (n : ℕ) where
  pub tell_leaf : sides o ≡ 0 → tell (suc n) (o ∷ os) ≡ record { text = word o; rest = os }
  unfolding tell
  tell_leaf e = simp (eq-eqb (sides o) 0 e)

  pub tell_one : sides o ≡ 1 → tell (suc n) (o ∷ os) ≡ record { text = word o ++ (tell n os).text; rest = (tell n os).rest }
  unfolding tell
  tell_one e = simp (ne_eqb (sides o) 0 (λ q. omega arith), eq-eqb (sides o) 1 e)

  pub tell_two : (sides o ≡ 0 → ⊥) → (sides o ≡ 1 → ⊥) → tell (suc n) (o ∷ os)
      ≡ record { text = inside (tell n (tell n os).rest).text (word o) (tell n os).text; rest = (tell n (tell n os).rest).rest }
  unfolding tell
  tell_two e f = simp (ne_eqb (sides o) 0 e, ne_eqb (sides o) 1 f)

-- the parentheses of each sign of node
few : (k : ℕ) → k ≤ 1 → parens k ≡ 0
few zero h = refl
few (suc zero) h = refl
few (suc (suc k)) h = absurd (omega arith)

pub many : (k : ℕ) → (k ≡ 0 → ⊥) → (k ≡ 1 → ⊥) → parens k ≡ 2
many zero e f = absurd (e refl)
many (suc zero) e f = absurd (f refl)
many (suc (suc k)) e f = refl

-- a line is told, and the nodes before j are left
abbrev Lined : List Node → ℕ → List ℕ → ℕ → ℕ → List ℕ → Line → Type 0
Lined ns j a lo hi b l = (l.rest ≡ back ns j) × Put a lo l.text b hi

pub told_none : (ns : List Node) (k hi : ℕ) (a : List ℕ) → k ≡ 0 → hi ≤ length a → Told ns k hi a (record { node = k; at = hi }) a
unfolding back tell
told_none ns k hi a e h = rw e (record { down = omega arith; paid = refl; told = go })
  where
    go : (n : ℕ) → 0 < n → Lined ns 0 a hi hi a (tell n [])
    go zero lt = absurd (omega arith)
    go (suc n) lt = (refl, put_none a hi h)

-- what is told fits
pub told_fits : {ns : List Node} {k hi : ℕ} {a : List ℕ} {r : Spot} {b : List ℕ} → Told ns k hi a r b → (r.at ≤ hi) × (hi ≤ length a) × (length b ≡ length a)
told_fits {k = k} x = let w = (x.told (suc k) (omega arith)).1 in (omega (arith, w.len), omega (arith, w.len, w.room), put_length w)

-- there is a last node, and room for all
pub record Last (ns : List Node) (k hi size : ℕ) : Type 0 where
  pub some : k ≡ 0 → ⊥
  pub room : Room ns k hi size

module _ {ns : List Node} {k hi size : ℕ} (l : Last ns k hi size) where
  abbrev o : Op
  o = node_at ns (k - 1)

  is : back ns k ≡ o ∷ back ns (k - 1)
  is = back_one ns k l.some

  shared : shares (back ns k) ≡ share o + shares (back ns (k - 1))
  unfolding shares
  shared = ap shares is

  -- ---- what is told of it

  pub told_leaf : sides o ≡ 0 → {a b : List ℕ} {r : ℕ} → Wording a hi o r b → Told ns k hi a (record { node = k - 1; at = r }) b
  told_leaf e {a} {b} {r} w = record { down = omega arith; paid = omega (arith, shared, few (sides o) (omega arith), w.begins); told = go }
    where
      go : (n : ℕ) → k < n → Lined ns (k - 1) a r hi b (tell n (back ns k))
      go zero lt = absurd (omega arith)
      go (suc n) lt = rw (is, tell_leaf o (back ns (k - 1)) n e) (refl, w.wrote)

  pub told_one : sides o ≡ 1 → {a b c : List ℕ} {s : Spot} {r : ℕ} → Told ns (k - 1) hi a s b → Wording b s.at o r c → Told ns k hi a (record { node = s.node; at = r }) c
  told_one e {a} {b} {c} {s} {r} x w =
      record { down = omega (arith, x.down); paid = omega (arith, shared, few (sides o) (omega arith), x.paid, w.begins); told = go }
    where
      go : (n : ℕ) → k < n → Lined ns s.node a r hi c (tell n (back ns k))
      go zero lt = absurd (omega arith)
      go (suc n) lt = let some = l.some in let y = x.told n (omega arith) in rw (is, tell_one o (back ns (k - 1)) n e) (y.0, put_before y.1 w.wrote)

  pub told_two : (sides o ≡ 0 → ⊥) → (sides o ≡ 1 → ⊥) → {a b c d e f : List ℕ} {close m lead behind past : ℕ} {s q : Spot} → Put a close (41 ∷ []) b behind → close + 1 ≡ hi
      → Told ns (k - 1) close b s c → Wording c s.at o m d → Told ns s.node m d q e → Put e lead (40 ∷ []) f past → lead + 1 ≡ q.at
      → Told ns k hi a (record { node = q.node; at = lead }) f
  told_two z u {a} {b} {c} {d} {e} {f} {close} {m} {lead} {behind} {past} {s} {q} wc ec x w y wo eo =
      record { down = omega (arith, x.down, y.down); paid = omega (arith, shared, many (sides o) z u, x.paid, w.begins, y.paid); told = go }
    where
      go : (n : ℕ) → k < n → Lined ns q.node a lead hi f (tell n (back ns k))
      go zero lt = absurd (omega arith)
      go (suc n) lt =
          let some = l.some in
          let p = x.told n (omega arith) in
          let r = y.told n (omega (arith, x.down)) in
          rw (is, tell_two o (back ns (k - 1)) n z u, p.0)
          (r.0, put_before (put_before (put_before (put_before (put_to (wc.len ∙ ec) wc) p.1) w.wrote) r.1) (put_to (wo.len ∙ eo) wo))

  -- ---- the room for each part of its rule

  budget : width o + parens (sides o) + shares (back ns (k - 1)) ≤ hi
  budget = omega (arith, l.room.room, shared)

  pub room_leaf : (width o ≤ hi) × (hi ≤ size)
  room_leaf = (omega (arith, budget), l.room.fits)

  pub room_inner : Room ns (k - 1) hi size
  room_inner = record { nodes = omega (arith, l.room.nodes); room = omega (arith, budget); fits = l.room.fits }

  pub room_word : {a b : List ℕ} {s : Spot} → Told ns (k - 1) hi a s b → (width o ≤ s.at) × (s.at ≤ length b)
  room_word x = let f = told_fits x in (omega (arith, budget, x.paid), omega arith)

  module _ (two : parens (sides o) ≡ 2) where
    pub room_close : (1 ≤ hi) × (hi - 1 < size)
    room_close = (omega (arith, budget), omega (arith, budget, l.room.fits))

    module _ {a b : List ℕ} {behind : ℕ} (wb : Put a (hi - 1) (41 ∷ []) b behind) where
      pub room_right : Room ns (k - 1) (hi - 1) (length b)
      room_right = record { nodes = omega (arith, l.room.nodes); room = omega (arith, budget); fits = omega (arith, wb.room, put_length wb) }

      module _ {s : Spot} {c : List ℕ} (x : Told ns (k - 1) (hi - 1) b s c) where
        pub room_sign : (width o ≤ s.at) × (s.at ≤ length c)
        room_sign = let f = told_fits x in (omega (arith, budget, x.paid), omega arith)

        module _ {m : ℕ} {d : List ℕ} (w : Wording c s.at o m d) where
          pub room_left : Room ns s.node m (length d)
          room_left =
              let f = told_fits x in
              record {
                nodes = omega (arith, l.room.nodes, x.down);
                room = omega (arith, budget, x.paid, w.begins);
                fits = omega (arith, w.begins, put_length w.wrote);
              }

          pub room_lead : {q : Spot} {e : List ℕ} → Told ns s.node m d q e → (1 ≤ q.at) × (q.at - 1 < length e)
          room_lead {q} y =
              let f = told_fits y in
              let one : 1 ≤ q.at = omega (arith, budget, x.paid, w.begins, y.paid) in
              (one, omega arith)

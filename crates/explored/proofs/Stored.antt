-- A block as the library copies it into a list.
use Rattle.std.proofs.Common.{ℕ, ◌+◌, ◌-◌, ◌*◌, ◌≤◌, ◌≡◌, sym, ap, ◌∙◌, inl, inr, List, ◌++◌, length, get_or, take, drop, ext_get_or, arith, length-append, length-drop}
use Rattle.std.proofs.lemmas.List.{get_or-take, get_or-drop, get_or_append_left, get_or-append_right, length-take-le}
use Rattle.std.proofs.Math.Decide.{dec_lt}
use borrow.Rule.Slice.PartMut.{put_mid}
use Rattle.explored.specs.Blocks.{stored, stored_length, stored_here, stored_other}

module _ (size row : ℕ) (block room : List ℕ) (long : length block ≡ size) (enough : row * size + size ≤ length room) where
  abbrev at : ℕ
  at = row * size

  front : length (take at room) ≡ at
  front = length-take-le at room (omega arith)

  abbrev behind : List ℕ
  behind = block ++ drop size (drop at room)

  whole : length (take at room ++ behind) ≡ length (stored size row block size room)
  whole =
      let parts : length (take at room) + length behind ≡ length room = omega (arith, front, length-append block (drop size (drop at room)), length-drop size (drop at room), length-drop at room, long, enough) in
      length-append (take at room) behind ∙ parts ∙ sym (stored_length size row block size room)

  word : (p : ℕ) → get_or (take at room ++ behind) p 0 ≡ get_or (stored size row block size room) p 0
  word p = elim (dec_lt p at) [
    | yes l ↦ get_or_append_left (take at room) behind 0 p (omega (arith, front)) ∙ get_or-take at room p 0 l ∙ sym (stored_other size row block size room p (inl l))
    | no d ↦ get_or-append_right (take at room) behind at p 0 front (omega arith) ∙ elim (dec_lt (p - at) size) [
      | yes l ↦ get_or_append_left block (drop size (drop at room)) 0 (p - at) (omega (arith, long))
          ∙ sym (stored_here size row block size room (p - at) l enough) ∙ place (p - at) (omega arith)
      | no h ↦ get_or-append_right block (drop size (drop at room)) size (p - at) 0 long (omega arith)
          ∙ get_or-drop size (drop at room) (p - at - size) 0 ∙ get_or-drop at room (size + (p - at - size)) 0
          ∙ beyond (at + (size + (p - at - size))) (omega arith) ∙ sym (stored_other size row block size room p (inr (omega arith)))
    ]
  ]
    where
      place : (i : ℕ) → row * size + i ≡ p → get_or (stored size row block size room) (row * size + i) 0 ≡ get_or (stored size row block size room) p 0
      place i e = ap (λ (k : ℕ). get_or (stored size row block size room) k 0) e

      beyond : (i : ℕ) → i ≡ p → get_or room i 0 ≡ get_or room p 0
      beyond i e = ap (λ (k : ℕ). get_or room k 0) e

  pub stored_copied : {part : List ℕ} → part ≡ block → (n : ℕ) → n ≡ size → put_mid at n room part ≡ stored size row block size room
  stored_copied e n f = rw (e, f) (ext_get_or 0 (take at room ++ behind) (stored size row block size room) whole (λ p h. word p))

-- What putting a text into a buffer makes of it: said once for all that is written into lent bytes. Two texts put one behind the other are one.
use Rattle.std.specs.Prelude.{ℕ, ◌+◌, ◌-◌, ◌≤◌, ◌<◌, ◌≡◌, refl, List, [], ◌∷◌, ◌++◌, length, take, drop, set}
use Rattle.std.proofs.Common.{sym, ap, ap₂, ◌∙◌, append_assoc, append-nil, arith, add-one, zero-add, take-append-drop, length-append, length-drop, drop_of_length-le, length-take-le, take_at, take_all, take-take, drop_at, drop-drop}
use Rattle.std.proofs.lemmas.List.{set_split, take-append-le}
use Rattle.std.proofs.Math.Seq.{take-length, drop-append-add}
use borrow.Rule.Slice.PartMut.{put_mid}
use Rattle.words.specs.Over.{over}

-- the text was put into a buffer from `at` on, for which there was room, and ends at `end`; all other bytes stay
pub record Put (before : List ℕ) (at : ℕ) (text now : List ℕ) (end : ℕ) : Type 0 where
  pub len : end ≡ at + length text
  pub bytes : now ≡ take at before ++ (text ++ drop (at + length text) before)
  pub room : at + length text ≤ length before

-- ---- its laws

-- the bytes of a line of n bytes with a text put behind them
abbrev put : ℕ → List ℕ → List ℕ → List ℕ
put n b s = take n b ++ (s ++ drop (n + length s) b)

-- a text put behind a text
seam : (n : ℕ) (b s t : List ℕ) → n + length s ≤ length b → put (n + length s) (put n b s) t ≡ put n b (s ++ t)
seam n b s t room =
    let front : List ℕ = take n b ++ s in
    let rest : List ℕ = drop (n + length s) b in
    let long : length front ≡ n + length s = length-append (take n b) s ∙ ap (λ (k : ℕ). k + length s) (length-take-le n b (omega arith)) in
    let whole : put n b s ≡ front ++ rest = sym (append_assoc (take n b) s rest) in
    let first : take (n + length s) (front ++ rest) ≡ front = take_at front rest (n + length s) long in
    let sum : n + length s + length t ≡ n + length (s ++ t) = omega (arith, length-append s t) in
    let last : drop (n + length s + length t) (front ++ rest) ≡ drop (n + length (s ++ t)) b =
    ap (λ (k : ℕ). drop (k + length t) (front ++ rest)) (sym long) ∙ drop-append-add front rest (length t) ∙ drop-drop (length t) (n + length s) b ∙ ap (λ (k : ℕ). drop k b) sum in
    rw (whole, first, last) (append_assoc (take n b) s _ ∙ ap (λ (l : List ℕ). take n b ++ l) (sym (append_assoc s t _)))

-- a text that fits leaves as many bytes
as_long : (n : ℕ) (b s : List ℕ) → n + length s ≤ length b → length (put n b s) ≡ length b
as_long n b s room =
    let low : n ≤ length b = omega arith in
    omega (arith, length-append (take n b) (s ++ drop (n + length s) b), length-append s (drop (n + length s) b), length-take-le n b low, length-drop (n + length s) b)

-- the buffer stays as long as it was
pub put_length : {before now s : List ℕ} {at end : ℕ} → Put before at s now end → length now ≡ length before
put_length {before} {now} {s} {at} p = ap length p.bytes ∙ as_long at before s p.room

-- one text behind another
pub puts : {before now last s t : List ℕ} {at mid end : ℕ} → Put before at s now mid → Put now mid t last end → Put before at (s ++ t) last end
puts {before} {now} {last} {s} {t} {at} {mid} {end} p q = record {
  len = omega (arith, length-append s t, p.len, q.len);
  bytes = q.bytes ∙ rw (p.len, p.bytes) (seam at before s t p.room);
  room = omega (arith, length-append s t, p.len, q.room, put_length p);
}

-- where it ends, said in another way
pub put_to : {before now s : List ℕ} {at end other : ℕ} → end ≡ other → Put before at s now end → Put before at s now other
put_to e p = rw e at p

-- one text before another: for texts that are written from their end on
pub put_before : {before now last s t : List ℕ} {at mid end : ℕ} → Put before mid t now end → Put now at s last mid → Put before at (s ++ t) last end
put_before {before} {now} {last} {s} {t} {at} {mid} {end} p q =
    let long : length (take mid before) ≡ mid = length-take-le mid before (omega (arith, p.room)) in
    let front : take at now ≡ take at before =
    ap (take at) p.bytes ∙ take-append-le at (take mid before) (t ++ drop (mid + length t) before) (omega (arith, q.len)) ∙ take-take at mid before (omega (arith, q.len)) in
    let seen : drop (at + length s) now ≡ t ++ drop (mid + length t) before =
    ap (λ (k : ℕ). drop k now) (sym q.len) ∙ ap (drop mid) p.bytes ∙ drop_at (take mid before) (t ++ drop (mid + length t) before) mid long in
    let whole : mid + length t ≡ at + length (s ++ t) = omega (arith, length-append s t, q.len) in
    record {
      len = p.len ∙ whole;
      bytes = q.bytes ∙ ap₂ (λ (x y : List ℕ). x ++ (s ++ y)) front seen ∙ ap (λ (l : List ℕ). take at before ++ l) (sym (append_assoc s t _))
          ∙ ap (λ (k : ℕ). take at before ++ ((s ++ t) ++ drop k before)) whole;
      room = omega (arith, whole, p.room);
    }

-- no byte put
pub put_none : (b : List ℕ) (at : ℕ) → at ≤ length b → Put b at [] b at
put_none b at low =
    let same : at ≡ at + 0 = omega arith in
    record { len = same; bytes = sym (take-append-drop at b) ∙ ap (λ (k : ℕ). take at b ++ drop k b) same; room = omega arith }

-- one byte put
pub put_one : (b : List ℕ) (at x : ℕ) → at < length b → Put b at (x ∷ []) (set b at x) (at + 1)
put_one b at x low = record { len = refl; bytes = rw add-one (set_split b at x low); room = omega arith }

-- put at the start, a text lies over the buffer
pub put_over : {before now s : List ℕ} {end : ℕ} → Put before 0 s now end → (end ≡ length s) × (now ≡ over s before)
put_over {before} {s} p = (p.len ∙ zero-add (length s), p.bytes ∙ ap (λ (k : ℕ). s ++ drop k before) (zero-add (length s)))

-- and is what stands there
pub put_start_lem : {before now s : List ℕ} {end : ℕ} → Put before 0 s now end → take end now ≡ s
put_start_lem {before} {now} {s} {end} p = let (long, is) = put_over p in ap (take end) is ∙ take_at s (drop (length s) before) end (sym long)

-- the part `xs[k..]`
pub behind : (k : ℕ) (xs : List ℕ) → take (length xs - k) (drop k xs) ≡ drop k xs
behind k xs = take_all (length xs - k) (drop k xs) (omega (arith, length-drop k xs))

-- where the tail `&mut buffer[at..]` is lent to `bytes::copy` and comes back
pub copied : (b : List ℕ) (at : ℕ) (text last : List ℕ) → at + length text ≤ length b → last ≡ take (length text) text ++ drop (length text) (take (length b - at) (drop at b)) →
    Put b at text (put_mid at (length b - at) b last) (at + length text)
copied b at text last room is =
    let ended : length (drop at b) ≤ length b - at = omega (arith, length-drop at b) in
    let rest : drop (length text) (take (length b - at) (drop at b)) ≡ drop (at + length text) b = ap (λ (l : List ℕ). drop (length text) l) (behind at b) ∙ drop-drop (length text) at b in
    let lent : last ≡ text ++ drop (at + length text) b = is ∙ ap₂ (λ (s t : List ℕ). s ++ t) (take-length text) rest in
    record {
      len = refl;
      bytes = ap (λ (l : List ℕ). take at b ++ l) (ap (λ (l : List ℕ). last ++ l) (drop_of_length-le (drop at b) ended) ∙ append-nil last ∙ lent);
      room = room;
    }

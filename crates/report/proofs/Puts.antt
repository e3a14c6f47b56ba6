-- Texts put on a line: on an empty line they make the line of a text. That two texts put are one is a law of `Put` itself.
use mathlib.Core.Path.{◌≡◌, ap, ap₂, sym, ◌∙◌}
use mathlib.Core.List.{List, [], ◌++◌, map}
use Prim.Native.Nat.{ℕ, zero, suc, ◌+◌, ◌-◌, ◌≤◌}
use native.Mathlib.Omega.{arith}
use native.Mathlib.Numerals.{unary_clauses}
use native.Mathlib.Nat.{zero-add, sub-zero, suc-sub-suc}
use lib.Dec.{eqb}
use lib.ListN.{get_or, length-map, length, take, drop, replicate, length-append, length-drop, length-replicate}
use lib.Seq.{length-take-le}
use mir.Val.{Val}
use denote.Laws.{Is}
use denote.Struct.Field.{u8-field, array_field}
use Rattle.io.specs.Counts.{IsPrefixLen}
use Rattle.io.proofs.Counting.{prefix_len_of_le}
pub use Rattle.writing.specs.Put.{puts, put_length, behind}
use Rattle.writing.specs.Put.{put_none as nothing_put}
use Rattle.report.specs.declared.Line.{Line}
use Rattle.report.specs.Text.{state_text, states_text}
use Rattle.report.specs.Line.{Put, PutOn, line_of}

-- where a text that was put ends is a count of the buffer's bytes
pub put_counts : {before now s : List ℕ} {at end : ℕ} → Put before at s now end → IsPrefixLen end now
put_counts {before} {now} {s} {at} {end} p = prefix_len_of_le end now (omega (arith, p.len, p.room, put_length p))

-- no state put
pub put_none : (b : List ℕ) (at : ℕ) (states : List ℕ) → at ≤ length b → Put b at (states_text 0 states) b at
unfolding states_text
put_none b at states low = nothing_put b at low

-- one state more
pub put_more : {before now last : List ℕ} {at mid end : ℕ} (i : ℕ) (states : List ℕ) →
    Put before at (states_text i states) now mid → Put now mid (state_text (eqb i 0) (get_or states i 0)) last end → Put before at (states_text (i + 1) states) last end
unfolding states_text
put_more i states p q = simp unary_clauses (puts p q)

zeros_left : (k n : ℕ) → k ≤ n → drop k (replicate {A = ℕ} n 0) ≡ replicate (n - k) 0
zeros_left zero n h = ap (λ (k : ℕ). replicate {A = ℕ} k 0) (sym (sub-zero n))
zeros_left (suc k) zero h = elim h [ ]
zeros_left (suc k) (suc n) h = zeros_left k n (omega arith) ∙ ap (λ (k : ℕ). replicate {A = ℕ} k 0) (sym (suc-sub-suc n k))

-- a text put on an empty line
pub line : {r : Line} {text : List ℕ} → PutOn (line_of []) text r → (r ≡ line_of text) × IsPrefixLen r.len r.bytes
line {r} {text} p =
    let few : length text ≤ 70 = simp zero-add at p.room in
    let zeros : drop (0 + length text) (replicate {A = ℕ} 70 0) ≡ replicate (70 - length text) 0 = simp zero-add (zeros_left (length text) 70 few) in
    let is : r ≡ line_of text = ap₂ (λ (n : ℕ) (b : List ℕ). record { len = n; bytes = b }) (p.len ∙ zero-add (length text)) (p.bytes ∙ ap (λ (l : List ℕ). text ++ l) zeros) in
    (is, prefix_len_of_le r.len r.bytes (omega (arith, few, ap (λ (l : Line). l.len) is, ap (λ (l : Line). length l.bytes) is, length-append text (replicate (70 - length text) 0), length-replicate {A = ℕ} (70 - length text) 0)))

-- what holding an array of 70 bytes tells
pub full : (xs : List ℕ) {vs : List Val} → Is (array_field u8-field 70).row (map u8-field.into xs) vs → length xs ≡ 70
full xs is = sym (length-map xs u8-field.into) ∙ is.1.0.1

-- the two parts `xs[..k]` and `xs[k..]` have all of it
pub both_parts : (k : ℕ) (xs : List ℕ) → k ≤ length xs → length (take k xs) + length (take (length xs - k) (drop k xs)) ≡ length xs
both_parts k xs low = omega (arith, length-take-le k xs low, ap (λ (l : List ℕ). length l) (behind k xs), length-drop k xs)

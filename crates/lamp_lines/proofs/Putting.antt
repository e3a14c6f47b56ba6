-- A line put is its text.
use mathlib.Core.Path.{◌≡◌, refl, ap, subst, sym, ◌∙◌}
use mathlib.Core.List.{List, ◌++◌}
use Prim.Native.Nat.{ℕ, ◌+◌, ◌-◌, ◌≤◌}
use native.Mathlib.Omega.{arith}
use native.Mathlib.Numerals.{unary_clauses}
use lib.ListN.{length, take, drop, get_or, replicate, take-append-drop}
use lib.Seq.{take_at}
use Rattle.report.specs.declared.Line.{Line}
use Rattle.report.specs.Text.{lamp_text}
use Rattle.report.specs.Line.{Put, line_of}
use Rattle.report.proofs.Puts.{puts}
use Rattle.lamp_lines.specs.Lines.{lamp_of, byte_lines}

pub line_put : {l : Line} {b now text : List ℕ} {at end : ℕ} → l ≡ line_of text → Put b at (take l.len l.bytes) now end → Put b at text now end
line_put {l} {b} {now} {text} {at} {end} e p =
    subst (λ (s : List ℕ). Put b at s now end) (ap (λ (k : Line). take k.len k.bytes) e ∙ take_at text (replicate (70 - length text) 0) (length text) refl) p

-- no line put, and one more
pub none_put : (b : List ℕ) (at : ℕ) (verdicts lefts numbers : List ℕ) → at ≤ length b → Put b at (byte_lines 0 verdicts lefts numbers) b at
unfolding byte_lines
none_put b at verdicts lefts numbers low =
    let same : at ≡ at + 0 = omega arith in
    record { len = same; bytes = sym (take-append-drop at b) ∙ ap (λ (k : ℕ). take at b ++ drop k b) same; room = omega arith }

pub more_put : {before now last : List ℕ} {at mid end : ℕ} (n : ℕ) (verdicts lefts numbers : List ℕ) → Put before at (byte_lines n verdicts lefts numbers) now mid
    → Put now mid (lamp_text (get_or numbers n 0) (lamp_of (get_or verdicts n 0) (get_or lefts n 0))) last end → Put before at (byte_lines (n + 1) verdicts lefts numbers) last end
unfolding byte_lines
more_put n verdicts lefts numbers p q = simp unary_clauses (puts p q)

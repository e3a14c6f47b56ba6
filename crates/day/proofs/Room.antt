-- A day sheet's text that was written has at most 6,080 bytes.
use Rattle.std.specs.Prelude.{Result, Ok, Err}
use Prim.Native.Nat.{ℕ, ◌≤◌, zero-le}
use mathlib.Core.Path.{◌≡◌, refl, sym, ap, subst, ◌∙◌}
use mathlib.Core.List.{List}
use lib.Dec.{leb}
use lib.ListN.{length}
use borrow.Author.Tests.{leb-true}
use Rattle.answers.specs.declared.Kind.TheVariants.{Value, Room}
use Rattle.answers.specs.Results.{Outcome}
use Rattle.answers.specs.Chain.{unless, chain_accepts, unless_accepts}
use Rattle.stretches.specs.declared.DaySheet.{DaySheet}
use Rattle.day_writer.specs.declared.Length.{Length}
use Rattle.answers.specs.declared.Refusal.{Refusal}
use Rattle.day_writer.specs.Text.{sheet_text}
use Rattle.day_writer.specs.Writing.{write_outcome, told_by, write_answer}
use Rattle.day_writer.specs.Promises.{at_most_6080}

abbrev bytes_of : Result Length Refusal → ℕ
bytes_of (Ok l) = l.bytes
bytes_of (Err r) = 0

by_outcome : (s : DaySheet) (old : List ℕ) (o : Outcome) → write_outcome s old ≡ o → bytes_of (told_by s old o) ≤ 6080
by_outcome s old (Ok _) e =
    let few = ((chain_accepts (unless (leb s.count 64) Value) (unless (leb (length (sheet_text s)) (length old)) Room)).0 e).0 in
    at_most_6080 s (leb-true s.count 64 ((unless_accepts (leb s.count 64) Value).0 few))
by_outcome s old (Err r) e = zero-le

pub written_fits : (s : DaySheet) (old : List ℕ) {w : Result Length Refusal} {l : Length} → w ≡ write_answer s old → w ≡ Ok l → l.bytes ≤ 6080
written_fits s old e f = subst (λ (n : ℕ). n ≤ 6080) (ap bytes_of (sym e) ∙ ap bytes_of f) (by_outcome s old (write_outcome s old) refl)

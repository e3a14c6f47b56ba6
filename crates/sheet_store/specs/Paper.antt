-- The store's answers on paper: a count, or a refusal's number with its sheet and place.
use Rattle.std.specs.Prelude.{◌≡◌, Result, Ok, Err}
use Rattle.std.proofs.Common.{ap, arith}
use Rattle.settings.specs.Paper.{Paper, counted, refusal, one_refusal, apart}
use Rattle.sheet_store.specs.declared.Sheets.{Sheets}
use Rattle.settings.specs.declared.SheetRefusal.{SheetRefusal}
use Rattle.sheet_store.specs.declared.Length.{Length}

-- how many sheets are kept
abbrev pub add_paper : Result Sheets SheetRefusal → Paper
add_paper (Ok n) = counted n.count
add_paper (Err r) = refusal r

-- how many bytes were copied
abbrev pub copy_paper : Result Length SheetRefusal → Paper
copy_paper (Ok n) = counted n.bytes
copy_paper (Err r) = refusal r

pub one-add : (a b : Result Sheets SheetRefusal) → add_paper a ≡ add_paper b → a ≡ b
one-add (Ok n) (Ok m) same = let e : n.count ≡ m.count = cc in ap (λ k. Ok (record { count = k })) e
one-add (Ok n) (Err r) same = absurd (apart (λ e. omega arith) same)
one-add (Err r) (Ok n) same = absurd (apart (λ e. omega arith) same)
one-add (Err q) (Err r) same = ap Err (one_refusal q r same)

pub one_copy : (a b : Result Length SheetRefusal) → copy_paper a ≡ copy_paper b → a ≡ b
one_copy (Ok n) (Ok m) same = let e : n.bytes ≡ m.bytes = cc in ap (λ k. Ok (record { bytes = k })) e
one_copy (Ok n) (Err r) same = absurd (apart (λ e. omega arith) same)
one_copy (Err r) (Ok n) same = absurd (apart (λ e. omega arith) same)
one_copy (Err q) (Err r) same = ap Err (one_refusal q r same)

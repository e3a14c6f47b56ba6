-- Two answers of write_table, of print_rule, or of witness, that stand for the same on paper are equal, as those of the other calls are (answers/proofs/Promises).
use Rattle.std.specs.Prelude.{◌≡◌, Result, Ok, Err}
use Rattle.std.proofs.Common.{sym, ap}
use Rattle.answers.proofs.Promises.{one_refusal}
use Rattle.plant_writer.specs.declared.Length.{Length as TableLength}
use Rattle.answers.specs.declared.Refusal.{Refusal}
use Rattle.plant_writer.specs.OnPaper.{wrote}
use Rattle.rule.specs.declared.Length.{Length}
use Rattle.rule.specs.OnPaper.{printed}
use Rattle.walk.specs.declared.Lengths.{Lengths}
use Rattle.witness.specs.OnPaper.{witnessed}
use Rattle.refusals.specs.Judged.{accepted_taken}

pub one_wrote : (a b : Result TableLength Refusal) → wrote a ≡ wrote b → a ≡ b
one_wrote (Ok i) (Ok j) same = let bytes : i.bytes ≡ j.bytes = cc in λ k. Ok (record { bytes = bytes k })
one_wrote (Ok i) (Err r) same = absurd (accepted_taken _ _ _ same)
one_wrote (Err r) (Ok j) same = absurd (accepted_taken _ _ _ (sym same))
one_wrote (Err q) (Err r) same = ap Err (one_refusal q r same)

pub one_printed : (a b : Result Length Refusal) → printed a ≡ printed b → a ≡ b
one_printed (Ok i) (Ok j) same = let bytes : i.bytes ≡ j.bytes = cc in λ k. Ok (record { bytes = bytes k })
one_printed (Ok i) (Err r) same = absurd (accepted_taken _ _ _ same)
one_printed (Err r) (Ok j) same = absurd (accepted_taken _ _ _ (sym same))
one_printed (Err q) (Err r) same = ap Err (one_refusal q r same)

pub one_witnessed : (a b : Result Lengths Refusal) → witnessed a ≡ witnessed b → a ≡ b
one_witnessed (Ok i) (Ok j) same =
    let stem : i.stem ≡ j.stem = cc in
    let turn : i.turn ≡ j.turn = cc in
    λ k. Ok (record { stem = stem k; turn = turn k })
one_witnessed (Ok i) (Err r) same = absurd (accepted_taken _ _ _ same)
one_witnessed (Err r) (Ok j) same = absurd (accepted_taken _ _ _ (sym same))
one_witnessed (Err q) (Err r) same = ap Err (one_refusal q r same)

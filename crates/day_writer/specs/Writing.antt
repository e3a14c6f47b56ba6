-- What writing a sheet answers, and what it leaves in the buffer.
use Rattle.std.specs.Prelude.{ℕ, ◌≤◌, ◌<◌, ◌≡◌, List, leb, length, Result, Ok, Err}
use Rattle.std.proofs.Common.{sym, ap, ◌∙◌, le-leb}
use Rattle.std.proofs.lemmas.Bool.{lt-leb}
use Rattle.words.specs.Over.{over}
use Rattle.answers.specs.declared.Kind.TheVariants.{Value, Room}
use Rattle.answers.specs.declared.Refusal.{Refusal}
use Rattle.answers.specs.Results.{Outcome}
use Rattle.answers.specs.Paper.{refused_at}
use Rattle.answers.specs.Chain.{and_then, unless}
use Rattle.stretches.specs.declared.DaySheet.{DaySheet}
use Rattle.day_writer.specs.declared.Length.{Length}
use Rattle.day_writer.specs.Text.{sheet_text}

module _ (s : DaySheet) (old : List ℕ) where
  -- 9 for a sheet that counts more than 64 stretches, and then 11 for a buffer shorter than its text
  abbrev pub write_outcome : Outcome
  write_outcome = and_then (unless (leb s.count 64) Value) (unless (leb (length (sheet_text s)) (length old)) Room)

  -- the refusal, or how many bytes the text has
  abbrev pub told_by : Outcome → Result Length Refusal
  told_by (Ok _) = Ok (record { bytes = length (sheet_text s) })
  told_by (Err r) = Err r

  abbrev pub write_answer : Result Length Refusal
  write_answer = told_by write_outcome

  -- the text over the buffer's start where it is written, and else the buffer as it was
  abbrev pub left_by : Outcome → List ℕ
  left_by (Ok _) = over (sheet_text s) old
  left_by (Err r) = old

  abbrev pub write_buffer : List ℕ
  write_buffer = left_by write_outcome

  -- ---- its three cases

  by_outcome : (o : Outcome) → write_outcome ≡ o → (told_by o ≡ write_answer) × (left_by o ≡ write_buffer)
  by_outcome o e = (ap told_by (sym e), ap left_by (sym e))

  pub overfull : 64 < s.count → (r : Refusal) → r ≡ refused_at Value 0 → (Err r ≡ write_answer) × (old ≡ write_buffer)
  overfull many r is = by_outcome (Err r)
      (ap (λ b. and_then (unless b Value) (unless (leb (length (sheet_text s)) (length old)) Room)) (lt-leb s.count 64 many) ∙ ap Err (sym is))

  module _ (few : s.count ≤ 64) where
    passes : write_outcome ≡ unless (leb (length (sheet_text s)) (length old)) Room
    passes = ap (λ b. and_then (unless b Value) (unless (leb (length (sheet_text s)) (length old)) Room)) (le-leb s.count 64 few)

    pub no_room : length old < length (sheet_text s) → (r : Refusal) → r ≡ refused_at Room 0 → (Err r ≡ write_answer) × (old ≡ write_buffer)
    no_room h r is = by_outcome (Err r) (passes ∙ ap (λ b. unless b Room) (lt-leb (length (sheet_text s)) (length old) h) ∙ ap Err (sym is))

    pub fitting : length (sheet_text s) ≤ length old → (n : ℕ) (now : List ℕ) → n ≡ length (sheet_text s) → now ≡ over (sheet_text s) old
        → (Ok (record { bytes = n }) ≡ write_answer) × (now ≡ write_buffer)
    fitting h n now long laid =
        let r = by_outcome (Ok tt) (passes ∙ ap (λ b. unless b Room) (le-leb (length (sheet_text s)) (length old) h)) in
        (ap (λ (k : ℕ). Ok (record { bytes = k })) long ∙ r.0, laid ∙ r.1)

-- More of specs/Where. Where the values stand in a sheet; so a text is a sheet with one set of values only.
use Rattle.std.specs.Prelude.{ℕ, ◌≡◌, List, length, take, drop, Ok}
use Rattle.std.proofs.Common.{sym, ap, ap₂, ◌∙◌, arith}
use Rattle.std.proofs.Math.Decide.{dec_lt}
use Rattle.sheet.specs.declared.Lines.{Lines}
use Rattle.sheet.specs.declared.Key.{Key}
use Rattle.sheet.specs.declared.Key.TheVariants.{Edition, Rule, Closing}
use Rattle.sheet.specs.Sheet.{Values, IsSheet, value_of, from_of}
use Rattle.sheet.specs.Machine.{scan_of}
use Rattle.sheet.specs.Read.{lines_of}
use Rattle.sheet.proofs.Read.{sheet_read}
use Rattle.sheet.proofs.Promises.{accepted_exactly}
use Rattle.sheet.specs.Where.{Few, empty, length_of, length_told, start_of, start_told, told_few, value_stands}

-- so a text has one set of values
module _ (s : List ℕ) (x y : Values) (is : IsSheet s x) (it : IsSheet s y) where
  same_lines : lines_of x ≡ lines_of y
  same_lines = let e : Ok (lines_of x) ≡ Ok (lines_of y) = sym (sheet_read s x is) ∙ sheet_read s y it in cc e

  same_value : (k : Key) → value_of k x ≡ value_of k y
  same_value k =
      let e : length (value_of k x) ≡ length (value_of k y) = sym (length_told k x) ∙ ap (length_of k) same_lines ∙ length_told k y in
      let f : from_of k x ≡ from_of k y = sym (start_told k x) ∙ ap (start_of k) same_lines ∙ start_told k y in
      elim (dec_lt 0 (length (value_of k x))) [
        | yes h ↦ sym (value_stands s x k is h) ∙ ap₂ (λ n m. take n (drop m s)) e f ∙ value_stands s y k it (omega arith)
        | no h ↦ empty (value_of k x) (omega arith) ∙ sym (empty (value_of k y) (omega arith))
      ]

  pub one_sheet : x ≡ y
  one_sheet = λ i. record { edition = same_value Edition i; rule = same_value Rule i; closing = same_value Closing i }

-- the lines of a text that is accepted
pub scan_few : (s : List ℕ) (l : Lines) → scan_of s ≡ Ok l → Few l
scan_few s l e = told_few s l ((accepted_exactly s l).0 e)

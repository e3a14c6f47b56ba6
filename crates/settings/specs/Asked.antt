-- The answers of `ask`, as the code makes them.
use Rattle.std.specs.Prelude.{cond, List, ℕ, ◌+◌, eqb, Result, Ok, Err}
use Rattle.sheet.specs.declared.Key.{Key}
use Rattle.sheet.specs.declared.Lines.{Lines}
use Rattle.sheet.specs.Machine.{scan_of}
use Rattle.sheet.specs.Where.{length_of, start_of}
use Rattle.answers.specs.declared.Kind.{Kind}
use Rattle.answers.specs.declared.Kind.TheVariants.{NoKey, SheetText}
use Rattle.settings.specs.declared.Spot.{Spot}
use Rattle.settings.specs.declared.SheetRefusal.{SheetRefusal}
use Rattle.settings.specs.Part.{spot_at}

abbrev pub refusal_of : Kind → ℕ → ℕ → SheetRefusal
refusal_of k sheet place = record { kind = k; sheet = sheet; place = place }

-- the spot of a key's value in the sheet n, by its lines
abbrev pub spot_in : ℕ → Key → Lines → Spot
spot_in n key l = spot_at n (start_of key l) (start_of key l + length_of key l)

-- both sheets are in order: the local line's value where there is one, and else that of the shared line
unfoldable pub chosen : Lines → Lines → Key → Result Spot SheetRefusal
chosen own common key =
    cond (eqb (length_of key own) 0) (cond (eqb (length_of key common) 0) (Err (refusal_of NoKey 0 0)) (Ok (spot_in 2 key common))) (Ok (spot_in 1 key own))

-- the local sheet is checked before the shared one, and both before a key is looked for
abbrev pub judged : Result Lines ℕ → Result Lines ℕ → Key → Result Spot SheetRefusal
judged (Err i) common key = Err (refusal_of SheetText 1 i)
judged (Ok own) (Err i) key = Err (refusal_of SheetText 2 i)
judged (Ok own) (Ok common) key = chosen own common key

unfoldable pub asked : List ℕ → List ℕ → Key → Result Spot SheetRefusal
asked local shared key = judged (scan_of local) (scan_of shared) key

-- the spot of an answer; no bytes where it is a refusal
abbrev pub spot_of : Result Spot SheetRefusal → Spot
spot_of (Ok p) = p
spot_of (Err r) = spot_at 1 0 0

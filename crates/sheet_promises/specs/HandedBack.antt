-- WHAT LOOK_UP HANDS BACK, said of the lent sheets themselves: the very bytes of the value, at the address where they stand in the sheet that the answer names; no bytes with a refusal.
use Rattle.std.specs.Prelude.{◌≡◌, refl, List, [], ℕ, length, Result, Ok, Err}
use Rattle.std.proofs.Common.{sym, ◌∙◌, arith, le-ltb}
use Rattle.std.specs.Borrow.{Bor}
use Rattle.sheet.specs.declared.Key.{Key}
use Rattle.sheet.specs.Sheet.{Values, IsSheet, value_of, from_of}
use Rattle.settings.specs.declared.SheetRefusal.{SheetRefusal}
use Rattle.settings.specs.declared.Spot.{Spot}
use Rattle.settings.specs.Part.{spot_at, bytes_at, shifted, IsPart}
use Rattle.settings.specs.Asked.{asked, spot_of}
use Rattle.settings.specs.Answers.{Answers, local_malformed, shared_malformed, in_local, in_shared, in_neither, spot_of_value}
use Rattle.settings.specs.Promises.{asked_exactly, local_part, shared_part}

pub data HandedBack (local shared : Bor (List ℕ)) (key : Key) : Result Spot SheetRefusal → Bor (List ℕ) → Type 0 where
  from_local :
      {x y : Values} {r : Bor (List ℕ)} → IsSheet local.now x → IsSheet shared.now y → (value_of key x ≡ [] → ⊥)
      → r.now ≡ value_of key x → r.ref_ptr ≡ shifted local.ref_ptr (from_of key x) → HandedBack local shared key (Ok (spot_of_value 1 key x)) r
  from_shared :
      {x y : Values} {r : Bor (List ℕ)} → IsSheet local.now x → IsSheet shared.now y → value_of key x ≡ [] → (value_of key y ≡ [] → ⊥)
      → r.now ≡ value_of key y → r.ref_ptr ≡ shifted shared.ref_ptr (from_of key y) → HandedBack local shared key (Ok (spot_of_value 2 key y)) r
  nothing : {q : SheetRefusal} {r : Bor (List ℕ)} → Answers local.now shared.now key (Err q) → r.now ≡ [] → HandedBack local shared key (Err q) r

-- what the contract of look_up says is that
pub handed_back :
    (local shared r : Bor (List ℕ)) (key : Key) (a : Result Spot SheetRefusal) → a ≡ asked local.now shared.now key → IsPart (spot_of a) local shared r → HandedBack local shared key a r
handed_back local shared r key a e p = by_answer ((asked_exactly local.now shared.now key a).0 (sym e)) p
  where
    -- a refusal's spot is at the start of the local sheet, and empty
    none : (s : List ℕ) → bytes_at (spot_at 1 0 0) s ≡ []
    none s = rw (le-ltb (length s) 0 (omega arith)) refl

    by_answer : {a : Result Spot SheetRefusal} → Answers local.now shared.now key a → IsPart (spot_of a) local shared r → HandedBack local shared key a r
    by_answer (local_malformed m) p = nothing (local_malformed m) (p.bytes ∙ none local.now)
    by_answer (shared_malformed is m) p = nothing (shared_malformed is m) (p.bytes ∙ none local.now)
    by_answer (in_local {x} is it h) p = let q = local_part local shared r key x is h p in from_local is it h q.0 q.1
    by_answer (in_shared {x} {y} is it e h) p = let q = shared_part local shared r key y it h p in from_shared is it e h q.0 q.1
    by_answer (in_neither is it e f) p = nothing (in_neither is it e f) (p.bytes ∙ none local.now)

-- What is answered to what is asked, as request j says it: this is to be believed, with sheet/specs/Sheet.
use Rattle.std.specs.Prelude.{◌≡◌, List, [], ℕ, ◌+◌, length, Result, Ok, Err}
use Rattle.sheet.specs.declared.Key.{Key}
use Rattle.sheet.specs.Sheet.{Values, IsSheet, Malformed, value_of, from_of}
use Rattle.settings.specs.declared.Spot.{Spot}
use Rattle.settings.specs.declared.SheetRefusal.{SheetRefusal}
use Rattle.answers.specs.declared.Kind.TheVariants.{NoKey, SheetText}
use Rattle.settings.specs.Part.{spot_at}
use Rattle.settings.specs.Asked.{refusal_of}

-- the bytes of a key's value in the sheet n
abbrev pub spot_of_value : ℕ → Key → Values → Spot
spot_of_value n key x = spot_at n (from_of key x) (from_of key x + length (value_of key x))

-- the local sheet is 1 and goes first, the shared one is 2; both are checked before a key is looked for
pub data Answers (local shared : List ℕ) (key : Key) : Result Spot SheetRefusal → Type 0 where
  local_malformed : {i : ℕ} → Malformed local i → Answers local shared key (Err (refusal_of SheetText 1 i))
  shared_malformed : {x : Values} {i : ℕ} → IsSheet local x → Malformed shared i → Answers local shared key (Err (refusal_of SheetText 2 i))
  in_local : {x y : Values} → IsSheet local x → IsSheet shared y → (value_of key x ≡ [] → ⊥) → Answers local shared key (Ok (spot_of_value 1 key x))
  in_shared :
      {x y : Values} → IsSheet local x → IsSheet shared y → value_of key x ≡ [] → (value_of key y ≡ [] → ⊥) → Answers local shared key (Ok (spot_of_value 2 key y))
  in_neither : {x y : Values} → IsSheet local x → IsSheet shared y → value_of key x ≡ [] → value_of key y ≡ [] → Answers local shared key (Err (refusal_of NoKey 0 0))

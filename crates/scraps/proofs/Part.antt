-- What values handed in tell by `c.good`: a radio's part has 40 bytes, and a set of pairs 64 words.
use Prim.Native.Nat.{ℕ}
use mathlib.Core.Path.{◌≡◌, sym, ◌∙◌}
use mathlib.Core.List.{List, map}
use lib.ListN.{length, length-map}
use mir.Val.{Val}
use denote.Laws.{Is}
use denote.Struct.Field.{u8-field, u64-field, array_field}

pub full_part : (xs : List ℕ) {vs : List Val} → Is (array_field u8-field 40).row (map u8-field.into xs) vs → length xs ≡ 40
full_part xs is = sym (length-map xs u8-field.into) ∙ is.1.0.1

pub full_words : (xs : List ℕ) {vs : List Val} → Is (array_field u64-field 64).row (map u64-field.into xs) vs → length xs ≡ 64
full_words xs is = sym (length-map xs u64-field.into) ∙ is.1.0.1

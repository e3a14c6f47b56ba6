-- A sheet's array has 64 lines: a parameter that is a sheet tells it by `c.good`.
use mathlib.Core.Path.{◌≡◌, sym, ◌∙◌}
use mathlib.Core.List.{List, map}
use lib.ListN.{length, length-map}
use mir.Val.{Val}
use denote.Laws.{Is}
use denote.Struct.Field.{array_field}
use Rattle.stretches.specs.declared.Stretch.{Stretch}
use Rattle.stretches.specs.contracts.Stretch.{the_field}

pub full : (ls : List Stretch) {vs : List Val} → Is (array_field the_field 64).row (map the_field.into ls) vs → length ls ≡ 64
full ls is = sym (length-map ls the_field.into) ∙ is.1.0.1

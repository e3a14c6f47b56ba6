-- `sheet_store::overfull`: what `any` finds among the sheets that are counted.
use Rattle.std.proofs.Common.{rules, tests, ◌≡◌, ◌∙◌, ltb, take}
use Rattle.std.specs.List.{list_any}
use Rattle.std.proofs.lemmas.Iterator.{YieldsList-from_slice}
use Rattle.std.proofs.lemmas.Iterator.Search.{any_from_yields_List}
use Rattle.sheet_store.proofs.Searches.{overfull_by_any}
use Rattle.sheet_store.proofs.overfull.Goals as goal

pub returns-else-store-gt-MAX : goal.returns-else-store-gt-MAX
returns-else-store-gt-MAX c =
    let st = c.args.store in
    let found : c.any.result ≡ list_any (λ t. ltb 1024 t.len) (take st.count st.sheets) =
    any_from_yields_List (λ t. ltb 1024 t.len) _ _ _ c.any.ensures.ran (YieldsList-from_slice (take st.count st.sheets) cc) (λ x b q k. search (rules, tests)) in
    found ∙ overfull_by_any st c.if-store-gt-MAX.false

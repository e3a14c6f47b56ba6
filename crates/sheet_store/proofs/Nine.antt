-- More of specs/Nine. WHAT WAS ADDED COMES OUT UNTIL IT IS THE OLDEST OF NINE: byte for byte as long as fewer than eight sheets were taken behind it (`comes_out`), and no more from the eighth on (`goes_out`).
use Rattle.std.specs.Prelude.{ℕ, ◌≤◌, ◌<◌, ◌≡◌, true}
use Rattle.std.proofs.Math.Path.{refl, sym}
use Rattle.std.proofs.Common.{ap, ◌∙◌, inr, arith}
use mathlib.Core.List.{List, [], ◌∷◌, ◌++◌, append-nil}
use Rattle.answers.specs.declared.Kind.TheVariants.{NotHeld}
use Rattle.sheet_store.specs.declared.Store.{Store}
use Rattle.sheet_store.specs.Store.{edition_of, added, keeps, copied}
use Rattle.sheet_store.specs.Shelf.{none, newest_from, Shelf, shelf_copies, shelf_lacks, copy_of}
use Rattle.sheet_store.specs.Promises.{shelved, adding, takes, shelved_if, shelving}
use Rattle.sheet_store.proofs.Promises.{shelf_on}
use Rattle.sheet_store.specs.Nine.{goes, newest_last, stays, taken_of}
use Rattle.sheet_store.specs.Nine as of_nine

-- ---- the promises

module _ (st : Store) (ts : List (List ℕ)) (h : Shelf st ts) (s : List ℕ) (took : takes ts s ≡ true) where
  abbrev kept : List (List ℕ)
  kept = of_nine.kept st ts h s took

  placed : shelved_if ts s ≡ kept ++ s ∷ []
  unfolding shelved_if shelved
  placed = rw took refl

  after : Shelf (added st s).store (shelved_if ts s)
  unfolding adding shelving
  after = shelf_on st ts h (s ∷ [])

  -- behind it any texts come, of which fewer than eight are taken: its edition gives its very bytes
  pub comes_out : (rest : List (List ℕ)) (buf : List ℕ) → taken_of (shelved_if ts s) rest < 8 → copied (adding st (s ∷ rest)) (edition_of s) buf ≡ copy_of s buf
  unfolding adding
  comes_out rest buf l =
      let a = stays rest (shelved_if ts s) kept [] s placed (omega arith) in
      shelf_copies (adding (added st s).store rest) a.before a.behind s buf (rw (← a.split) (shelf_on (added st s).store (shelved_if ts s) after rest))

  -- from the eighth on it is not held
  pub goes_out : (rest : List (List ℕ)) (buf : List ℕ) → 8 ≤ taken_of (shelved_if ts s) rest → copied (adding st (s ∷ rest)) (edition_of s) buf ≡ keeps NotHeld buf
  unfolding adding newest_from
  goes_out rest buf l =
      let g = goes (edition_of s) rest (shelved_if ts s) (shelved_if ts s) [] 8
      (record { split = sym (append-nil (shelved_if ts s)); few = after.few; newer = none; newest = sym (ap (newest_from 0) placed ∙ newest_last 0 kept s) }) (omega arith) l in
      shelf_lacks (adding (added st s).store rest) _ (edition_of s) buf (shelf_on (added st s).store (shelved_if ts s) after rest) (inr g)

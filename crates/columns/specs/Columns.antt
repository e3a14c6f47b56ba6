-- THE COLUMNS OF A FIXED MACHINE (02, g): the legal events, by see first, within one see by val, and of each the one without restart first. What must be believed of columns is `columns_of`.
use Rattle.std.specs.Prelude.{ℕ, zero, suc, ◌/◌, ◌%◌, ◌^◌, ◌≤◌, ◌≡◌, refl, Bool, true, false, cond, List, [], ◌∷◌, ◌++◌, eqb, get_or}
use Rattle.std.proofs.Common.{arith}
use Rattle.words.specs.Below.{list_below}
use Rattle.event_log.specs.declared.Num.TheVariants.{Expected}
use Rattle.event_log.specs.declared.Event.{Event}
use Rattle.event_log.specs.Legal.{legal_of}

-- an event with the number that is expected
abbrev pub event : ℕ → ℕ → Bool → Event
event see val new = record { num = Expected; see = see; val = val; new = new }

-- those that see and give the same, if that is legal
abbrev pub legal_two : ℕ → ℕ → ℕ → List Event
legal_two props see val = cond (legal_of (event see val false) props) (event see val false ∷ event see val true ∷ []) []

-- those that see the same and give less than n
abbrev pub giving_below : ℕ → ℕ → ℕ → List Event
giving_below props see zero = []
giving_below props see (suc val) = giving_below props see val ++ legal_two props see val

-- and those that see less than n
abbrev pub seeing_below : ℕ → ℕ → List Event
seeing_below props zero = []
seeing_below props (suc see) = seeing_below props see ++ giving_below props see (2 ^ props)

-- THE COLUMNS: all of them, since a legal event sees and gives less than 2 ^ props
unfoldable pub columns_of : ℕ → List Event
columns_of props = seeing_below props (2 ^ props)

-- ---- as code has them

abbrev pub sees : List ℕ
sees = 0 ∷ 1 ∷ 1 ∷ 2 ∷ 2 ∷ 3 ∷ 3 ∷ 3 ∷ 3 ∷ 4 ∷ 4 ∷ 5 ∷ 5 ∷ 5 ∷ 5 ∷ 6 ∷ 6 ∷ 6 ∷ 6 ∷ 7 ∷ 7 ∷ 7 ∷ 7 ∷ 7 ∷ 7 ∷ 7 ∷ 7 ∷ []

abbrev pub vals : List ℕ
vals = 0 ∷ 0 ∷ 1 ∷ 0 ∷ 2 ∷ 0 ∷ 1 ∷ 2 ∷ 3 ∷ 0 ∷ 4 ∷ 0 ∷ 1 ∷ 4 ∷ 5 ∷ 0 ∷ 2 ∷ 4 ∷ 6 ∷ 0 ∷ 1 ∷ 2 ∷ 3 ∷ 4 ∷ 5 ∷ 6 ∷ 7 ∷ []

unfoldable pub event_at : ℕ → Event
event_at k = event (get_or sees (k / 2) 0) (get_or vals (k / 2) 0) (eqb (k % 2) 1)

unfoldable pub count_of : ℕ → ℕ
count_of props = cond (eqb props 1) 6 (cond (eqb props 2) 18 54)

-- they are the columns
pub columns_are : (props : ℕ) → 1 ≤ props → props ≤ 3 → columns_of props ≡ list_below (count_of props) event_at
unfolding columns_of count_of event_at list_below legal_of
columns_are zero a b = absurd (omega arith)
columns_are (suc zero) a b = refl
columns_are (suc (suc zero)) a b = refl
columns_are (suc (suc (suc zero))) a b = refl
columns_are (suc (suc (suc (suc p)))) a b = absurd (omega arith)

-- there are at most 54, and some
pub few_columns : (props : ℕ) → (1 ≤ count_of props) × (count_of props ≤ 54)
unfolding count_of
few_columns props = go (eqb props 1) (eqb props 2)
  where
    go : (a b : Bool) → (1 ≤ cond a 6 (cond b 18 54)) × (cond a 6 (cond b 18 54) ≤ 54)
    go true b = (omega arith, omega arith)
    go false true = (omega arith, omega arith)
    go false false = (omega arith, omega arith)

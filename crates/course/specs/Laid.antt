-- Bytes laid over the start of a buffer, as far as there is room.
use Rattle.std.specs.Prelude.{ℕ, suc, ◌≤◌, ◌≡◌, refl, List, [], ◌∷◌, ◌++◌, length, set}
use Rattle.std.proofs.Common.{arith, ap}
use Rattle.words.specs.Over.{over}

unfoldable pub laid : List ℕ → List ℕ → List ℕ
laid [] old = old
laid (b ∷ bs) [] = []
laid (b ∷ bs) (o ∷ old) = b ∷ laid bs old

-- a store just behind them lays one more
pub laid_more : (bs old : List ℕ) (b : ℕ) → set (laid bs old) (length bs) b ≡ laid (bs ++ b ∷ []) old
unfolding laid
laid_more [] [] b = refl
laid_more [] (o ∷ old) b = refl
laid_more (x ∷ bs) [] b = refl
laid_more (x ∷ bs) (o ∷ old) b = ap (λ (l : List ℕ). x ∷ l) (laid_more bs old b)

pub laid_length : (bs old : List ℕ) → length (laid bs old) ≡ length old
unfolding laid
laid_length [] old = refl
laid_length (b ∷ bs) [] = refl
laid_length (b ∷ bs) (o ∷ old) = ap suc (laid_length bs old)

-- with room for all, they are the buffer's start, and its rest stays
pub laid_over : (bs old : List ℕ) → length bs ≤ length old → laid bs old ≡ over bs old
unfolding laid
laid_over [] old room = refl
laid_over (b ∷ bs) [] room = absurd (omega arith)
laid_over (b ∷ bs) (o ∷ old) room = ap (λ (l : List ℕ). b ∷ l) (laid_over bs old (omega arith))

-- A word's bytes, as the library gives them, in the words of Words.
use Rattle.std.proofs.Common.{◌≡◌, refl, ℕ, zero, suc, ◌<◌, get_or, arith}
use Rattle.std.specs.Int.{to_le_bytes, w64}
use Rattle.store_words.specs.Words.{byte_of}

pub byte_is : (w k : ℕ) → k < 8 → get_or (to_le_bytes w64 w) k 0 ≡ byte_of w k
unfolding byte_of
byte_is w zero h = refl
byte_is w (suc zero) h = refl
byte_is w (suc (suc zero)) h = omega arith
byte_is w (suc (suc (suc zero))) h = omega arith
byte_is w (suc (suc (suc (suc zero)))) h = omega arith
byte_is w (suc (suc (suc (suc (suc zero))))) h = omega arith
byte_is w (suc (suc (suc (suc (suc (suc zero)))))) h = omega arith
byte_is w (suc (suc (suc (suc (suc (suc (suc zero))))))) h = omega arith
byte_is w (suc (suc (suc (suc (suc (suc (suc (suc k)))))))) h = absurd (omega arith)

-- A word's bytes, as the library gives them, in the words of Words.
use Rattle.std.proofs.Common.{◌≡◌, refl, ℕ, zero, suc, ◌+◌, ◌*◌, ◌^◌, ◌/◌, ◌%◌, ◌<◌, get_or, arith}
use Rattle.std.specs.Int.{to_le_bytes, w64}
use Rattle.radio_words.specs.Words.{pack_below}

pub byte_is : (w k : ℕ) → k < 8 → get_or (to_le_bytes w64 w) k 0 ≡ w / 2 ^ (8 * k) % 256
byte_is w zero h = omega arith
byte_is w (suc zero) h = refl
byte_is w (suc (suc zero)) h = refl
byte_is w (suc (suc (suc zero))) h = refl
byte_is w (suc (suc (suc (suc zero)))) h = refl
byte_is w (suc (suc (suc (suc (suc zero))))) h = refl
byte_is w (suc (suc (suc (suc (suc (suc zero)))))) h = refl
byte_is w (suc (suc (suc (suc (suc (suc (suc zero))))))) h = refl
byte_is w (suc (suc (suc (suc (suc (suc (suc (suc k)))))))) h = absurd (omega arith)

-- a byte more behind a number that has room for it
more : (n : ℕ) (f : ℕ → ℕ) (v : ℕ) → pack_below n f ≡ v → v < 72057594037927936 → pack_below (suc n) f ≡ v * 256 + f n
unfolding pack_below
more n f v e h = rw e (omega (arith, h))

pub bytes_packed : (f : ℕ → ℕ) → ((i : ℕ) → f i < 256)
    → pack_below 8 f ≡ ((((((f 0 * 256 + f 1) * 256 + f 2) * 256 + f 3) * 256 + f 4) * 256 + f 5) * 256 + f 6) * 256 + f 7
unfolding pack_below
bytes_packed f small =
    let a : pack_below 1 f ≡ f 0 = omega (arith, more 0 f 0 refl (omega arith)) in
    let b = more 1 f _ a (omega (arith, small 0)) in
    let c = more 2 f _ b (omega (arith, small 0, small 1)) in
    let d = more 3 f _ c (omega (arith, small 0, small 1, small 2)) in
    let e = more 4 f _ d (omega (arith, small 0, small 1, small 2, small 3)) in
    let g = more 5 f _ e (omega (arith, small 0, small 1, small 2, small 3, small 4)) in
    let h = more 6 f _ g (omega (arith, small 0, small 1, small 2, small 3, small 4, small 5)) in
    more 7 f _ h (omega (arith, small 0, small 1, small 2, small 3, small 4, small 5, small 6))

-- Bytes of words: what is packed is read back.
use Rattle.std.specs.Prelude.{ℕ, zero, suc, ◌+◌, ◌*◌, ◌-◌, ◌/◌, ◌%◌, ◌≤◌, ◌<◌, ◌≡◌, refl, List, get_or}
use Rattle.std.proofs.Common.{ap, ◌∙◌, arith, sub-one}
use Rattle.store_words.specs.Words.{byte_of, pack_from}

-- a byte further
pub byte_turn : (w i : ℕ) → 0 < i → byte_of (w / 256) (i - 1) ≡ byte_of w i
unfolding byte_of
byte_turn w zero h = absurd (omega arith)
byte_turn w (suc i) h = ap (byte_of (w / 256)) (sub-one (suc i))

pub byte_last : (w i : ℕ) → i ≤ 0 → w % 256 ≡ byte_of w i
unfolding byte_of
byte_last w zero h = refl
byte_last w (suc i) h = absurd (omega arith)

-- what is packed is read back
pub byte_packed : (bs : List ℕ) → ((j : ℕ) → get_or bs j 0 < 256) → (n m p : ℕ) → m ≤ n → byte_of (pack_from bs p n) m ≡ get_or bs (p + m) 0
unfolding byte_of pack_from
byte_packed bs small zero zero p h = let z : p + 0 ≡ p = omega arith in rw z (omega (arith, small p))
byte_packed bs small (suc n) zero p h = let z : p + 0 ≡ p = omega arith in rw z (omega (arith, small p))
byte_packed bs small zero (suc m) p h = absurd (omega arith)
byte_packed bs small (suc n) (suc m) p h =
    let x = pack_from bs (p + 1) n in
    let q : (get_or bs p 0 + 256 * x) / 256 ≡ x = omega (arith, small p) in
    let z : p + 1 + m ≡ p + suc m = omega arith in
    ap (λ w. byte_of w m) q ∙ byte_packed bs small n m (p + 1) (omega arith) ∙ ap (λ k. get_or bs k 0) z

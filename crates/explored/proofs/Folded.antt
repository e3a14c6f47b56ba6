-- A digest as the library's fold makes it, and a flag as the library widens it.
use Rattle.std.proofs.Common.{ℕ, zero, suc, ◌+◌, ◌*◌, ◌/◌, ◌%◌, ◌^◌, ◌≤◌, ◌≡◌, refl, sym, ap, ◌∙◌, Bool, true, false, List, length, take, get_or, fold, arith}
use Rattle.std.proofs.Math.Seq.{take-length}
use Rattle.std.proofs.lemmas.List.Sums.{fold_more}
use mir.Val.{bool_byte}
use Rattle.words.specs.Word.{only_of}
use Rattle.explored.specs.States.{digest_to}

abbrev step : ℕ → ℕ → ℕ
step made word = made % 2 ^ 56 * 31 + word % 2 ^ 32 + word / 2 ^ 32

taken : (words : List ℕ) (from n : ℕ) → n ≤ length words → fold step from (take n words) ≡ digest_to from words n
unfolding digest_to
taken words from zero h = refl
taken words from (suc n) h =
    let next : suc n ≡ n + 1 = omega arith in
    ap (λ (k : ℕ). fold step from (take k words)) next
    ∙ fold_more step from words n 0 (omega arith)
    ∙ ap (λ (m : ℕ). step m (get_or words n 0)) (taken words from n (omega arith))

pub digest_by_fold : (words : List ℕ) (from : ℕ) → length words ≡ 64
    → fold (λ made word. made % 72057594037927936 * 31 + word % 4294967296 + word / 4294967296) from words ≡ digest_to from words 64
digest_by_fold words from e = ap (fold step from) (sym (take-length words)) ∙ rw e (taken words from 64 (omega (arith, e)))

pub flag_digit : (b : Bool) → bool_byte b ≡ only_of b 1
flag_digit true = refl
flag_digit false = refl

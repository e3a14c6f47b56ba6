-- A fold that takes each state whose label passes a test gives the word of these states.
use Rattle.std.proofs.Common.{◌≡◌, sym, ap, ap₂, ◌∙◌, ℕ, suc, ◌+◌, ◌^◌, Bool, List, [], ◌∷◌, length, get_or, fold, bit_or, arith}
use Rattle.std.specs.List.{enumerate_from}
use Rattle.words.specs.Word.{only_of}
use Rattle.words.specs.Below.{word_of}
use Rattle.words.specs.Unions.{word_none, word_more}

module _ (P : ℕ → Bool) where
  -- one turn: the state x.0 has the label x.1
  abbrev pub taken : ℕ → ℕ × ℕ → ℕ
  taken found x = bit_or found (only_of (P x.1) (2 ^ x.0))

  module _ (label : List ℕ) where
    abbrev passing : ℕ → Bool
    passing s = P (get_or label s 0)

    -- the labels xs stand from n on
    from : (n found : ℕ) (xs : List ℕ) → found ≡ word_of n passing → ((k : ℕ) → get_or xs k 0 ≡ get_or label (n + k) 0)
        → fold taken found (enumerate_from n xs) ≡ word_of (n + length xs) passing
    from n found [] e h = e ∙ ap (λ (k : ℕ). word_of k passing) (let z : n ≡ n + 0 = omega arith in z)
    from n found (x ∷ xs) e h =
        let here : x ≡ get_or label n 0 = h 0 ∙ ap (λ (k : ℕ). get_or label k 0) (let z : n + 0 ≡ n = omega arith in z) in
        from (n + 1) (taken found (n, x)) xs
        (ap₂ (λ (f l : ℕ). bit_or f (only_of (P l) (2 ^ n))) e here ∙ sym (word_more n passing))
        (λ k. h (suc k) ∙ ap (λ (j : ℕ). get_or label j 0) (let z : n + suc k ≡ n + 1 + k = omega arith in z))
        ∙ ap (λ (k : ℕ). word_of k passing) (let z : n + 1 + length xs ≡ n + suc (length xs) = omega arith in z)

    pub word_by_fold : fold taken 0 (enumerate_from 0 label) ≡ word_of (length label) passing
    word_by_fold =
        from 0 0 label (word_none passing) (λ k. ap (λ (j : ℕ). get_or label j 0) (let z : k ≡ 0 + k = omega arith in z))
        ∙ ap (λ (k : ℕ). word_of k passing) (let z : 0 + length label ≡ length label = omega arith in z)

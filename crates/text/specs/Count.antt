-- Decimal counts in a range are read back.
use Rattle.std.specs.Prelude.{ℕ, ◌+◌, ◌*◌, ◌/◌, ◌%◌, ◌≤◌, ◌<◌, ◌≡◌, refl, true, cond, ltb, length, drop, get_or}
use Rattle.std.proofs.Common.{ap, ◌∙◌, get_or-drop}
use mathlib.Core.List.{List, ◌∷◌}
use Rattle.std.proofs.Math.Logic.{⊎_elim}
use native.Mathlib.Omega.{arith}
use borrow.Author.Tests.{lt-ltb, le-ltb, ltb-true, ltb-false, eqb-true}
use Rattle.text.specs.Slot.{Slot, digit, digit_value, admits, matched}
use Rattle.text.specs.Cases.{below_or_beyond, if_below, if_one}
use Rattle.text.specs.Matched.{first_admits, admits_first}
use Rattle.text.specs.Number.{lead_of, next_of, last_of, count_slots, count_of, count_guess}
use Rattle.text.specs.Form.{Form, Reads}

-- what the bytes are where the first slot, or two, are met
digit_first : (s : List ℕ) (d : ℕ) (ts : List Slot) → d < 16 → 0 < matched s (digit d ∷ ts) → digit_value (get_or s 0 0) ≡ d
unfolding admits
digit_first s d ts l h = eqb-true _ _ (first_admits s (digit d) ts h).1 ∙ omega arith

second_admits : (s : List ℕ) (t u : Slot) (ts : List Slot) → 1 < matched s (t ∷ u ∷ ts) → admits u (get_or s 1 0) ≡ true
second_admits s t u ts h =
    let f = first_admits s t (u ∷ ts) (omega arith) in
    rw get_or-drop at (first_admits (drop 1 s) u ts (omega (arith, admits_first s t (u ∷ ts) f.0 f.1))).1

-- a count from lo to hi, ended by a byte that is no decimal digit
unfoldable pub counted : ℕ → ℕ → ℕ → Form ℕ
counted end lo hi = record { Ok = λ n. (lo ≤ n) × (n ≤ hi); slots = count_slots end; guess = count_guess lo hi }

module _ (lo hi : ℕ) (low : lo ≤ 1) (range : lo ≤ hi) (high : hi < 100) where
  -- the three cases of a count read
  count_cases :
      (d e : ℕ) (P : ℕ → Type 0) → ((lo ≤ d → d ≤ 9 → hi < d) → P lo)
      → (lo ≤ d → d ≤ 9 → d ≤ hi → (0 < d → e ≤ 9 → hi < d * 10 + e) → P d)
      → (0 < d → d ≤ 9 → e ≤ 9 → d * 10 + e ≤ hi → P (d * 10 + e)) → P (count_of lo hi d e)
  unfolding count_of
  count_cases d e P out one two =
      if_one (ltb d lo) (ltb 9 d) (ltb hi d) P _ _ (λ f. out (λ a b. ltb-true hi d (f (le-ltb d lo a) (le-ltb 9 d b))))
      (λ a b c. if_one (ltb d 1) (ltb 9 e) (ltb hi (d * 10 + e)) P _ _
      (λ f. one (ltb-false d lo a) (ltb-false 9 d b) (ltb-false hi d c) (λ h g. ltb-true hi (d * 10 + e) (f (le-ltb d 1 h) (le-ltb 9 e g))))
      (λ h g f. two (ltb-false d 1 h) (ltb-false 9 d b) (ltb-false 9 e g) (ltb-false hi (d * 10 + e) f)))

  pub count_within : (d e : ℕ) → (lo ≤ count_of lo hi d e) × (count_of lo hi d e ≤ hi)
  count_within d e =
      count_cases d e (λ n. (lo ≤ n) × (n ≤ hi)) (λ a. (omega arith, omega arith)) (λ a b c f. (omega arith, omega arith))
      (λ a b c f. (omega arith, omega arith))

  lead_one : (n : ℕ) → n < 10 → lead_of n ≡ n
  unfolding lead_of
  lead_one n h = rw (lt-ltb n 10 h)

  lead_two : (n : ℕ) → 10 ≤ n → lead_of n ≡ n / 10
  unfolding lead_of
  lead_two n h = rw (le-ltb n 10 h)

  lead_in : (a : ℕ) → lo ≤ a → a ≤ hi → (lo ≤ lead_of a) × (lead_of a ≤ hi) × (lead_of a ≤ 9)
  unfolding lead_of
  lead_in a l h =
      if_below a 10 (λ n. (lo ≤ n) × (n ≤ hi) × (n ≤ 9)) a (a / 10) (λ b. (omega arith, omega arith, omega arith)) (λ b. (omega arith, omega arith, omega arith))

  -- the first byte tells the first digit
  leads : (a e : ℕ) → lo ≤ a → a ≤ hi → lead_of (count_of lo hi (lead_of a) e) ≡ lead_of a
  leads a e l h =
      let i = lead_in a l h in
      count_cases (lead_of a) e (λ n. lead_of n ≡ lead_of a) (λ f. absurd (omega (arith, f (omega arith) (omega arith))))
      (λ p q r t. lead_one (lead_of a) (omega arith)) (λ p q r t. lead_two (lead_of a * 10 + e) (omega arith) ∙ omega arith)

  -- the digit behind the first, as the byte there gives it
  unfoldable second_of : ℕ → ℕ → ℕ
  second_of end a = cond (ltb a 10) (digit_value end) (a % 10)

  -- both tell the count
  tells : (end a : ℕ) → 9 < digit_value end → lo ≤ a → a ≤ hi → count_of lo hi (lead_of a) (second_of end a) ≡ a
  unfolding lead_of second_of
  tells end a ends l h = ⊎_elim one two (below_or_beyond a 10)
    where
      one : a < 10 → count_of lo hi (lead_of a) (second_of end a) ≡ a
      one b =
          rw (lt-ltb a 10 b)
          (count_cases a (digit_value end) (λ n. n ≡ a) (λ f. absurd (omega (arith, f (omega arith) (omega arith)))) (λ p q r t. refl) (λ p q r t. absurd (omega arith)))

      two : 10 ≤ a → count_of lo hi (lead_of a) (second_of end a) ≡ a
      two b =
          rw (le-ltb a 10 b)
          (count_cases (a / 10) (a % 10) (λ n. n ≡ a) (λ f. absurd (omega (arith, f (omega arith) (omega arith))))
          (λ p q r t. absurd (omega (arith, t (omega arith) (omega arith)))) (λ p q r t. omega arith))

  -- what the byte behind the first is where its slot is met
  digit_second : (s : List ℕ) (end a : ℕ) → admits (next_of end a) (get_or s 1 0) ≡ true → digit_value (get_or s 1 0) ≡ second_of end a
  unfolding admits next_of second_of
  digit_second s end a h = ⊎_elim one two (below_or_beyond a 10)
    where
      one : a < 10 → digit_value (get_or s 1 0) ≡ second_of end a
      one b = rw (lt-ltb a 10 b) (ap digit_value (eqb-true (get_or s 1 0) end (rw (lt-ltb a 10 b) at h)))

      two : 10 ≤ a → digit_value (get_or s 1 0) ≡ second_of end a
      two b = rw (le-ltb a 10 b) (eqb-true (digit_value (get_or s 1 0)) (a % 10 % 16) (rw (le-ltb a 10 b) at h) ∙ omega arith)

  pub count_reads : (end : ℕ) → 9 < digit_value end → Reads (counted end lo hi)
  unfolding counted count_slots admits
  count_reads end ends = record { fine = λ s. count_within (digit_value (get_or s 0 0)) (digit_value (get_or s 1 0)); exact = exact; best = best }
    where
      lead : (a : ℕ) (s : List ℕ) → (lo ≤ a) × (a ≤ hi) → 0 < matched s (count_slots end a) → digit_value (get_or s 0 0) ≡ lead_of a
      lead a s ok m = let i = lead_in a ok.0 ok.1 in digit_first s (lead_of a) (next_of end a ∷ last_of end a) (omega arith) m

      two : (a : ℕ) (s : List ℕ) → (lo ≤ a) × (a ≤ hi) → 1 < matched s (count_slots end a) → count_guess lo hi s ≡ a
      two a s ok m =
          rw (lead a s ok (omega arith), digit_second s end a (second_admits s (digit (lead_of a)) (next_of end a) (last_of end a) m))
          (tells end a ends ok.0 ok.1)

      exact : (a : ℕ) (s : List ℕ) → (lo ≤ a) × (a ≤ hi) → matched s (count_slots end a) ≡ length (count_slots end a) → count_guess lo hi s ≡ a
      exact a s ok m = two a s ok (omega arith)

      best : (a : ℕ) (s : List ℕ) → (lo ≤ a) × (a ≤ hi) → matched s (count_slots end a) ≤ matched s (count_slots end (count_guess lo hi s))
      best a s ok =
          ⊎_elim (λ (m : 1 < matched s (count_slots end a)). rw (two a s ok m) (omega arith))
          (λ (m : matched s (count_slots end a) ≤ 1).
          ⊎_elim (λ (p : 0 < matched s (count_slots end a)). let q = one p in omega arith) (λ (p : matched s (count_slots end a) ≤ 0). omega arith)
          (below_or_beyond 0 (matched s (count_slots end a))))
          (below_or_beyond 1 (matched s (count_slots end a)))
        where
          same : digit_value (get_or s 0 0) ≡ lead_of a → lead_of (count_guess lo hi s) ≡ lead_of a
          same e = rw e (leads a (digit_value (get_or s 1 0)) ok.0 ok.1)

          one : 0 < matched s (count_slots end a) → 0 < matched s (count_slots end (count_guess lo hi s))
          one p =
              let g = count_guess lo hi s in
              let f = first_admits s (digit (lead_of a)) (next_of end a ∷ last_of end a) p in
              let fits : admits (digit (lead_of g)) (get_or s 0 0) ≡ true = rw (same (lead a s ok p)) f.1 in
              omega (arith, admits_first s (digit (lead_of g)) (next_of end g ∷ last_of end g) f.0 fits)

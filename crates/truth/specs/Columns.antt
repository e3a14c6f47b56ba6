-- A table of 64 rows of 6 that a loop fills column by column.
use Rattle.std.specs.Prelude.{ℕ, zero, suc, ◌+◌, ◌*◌, ◌/◌, ◌%◌, ◌≤◌, ◌<◌, ◌≡◌, refl, ◌≢◌, List, length, get_or, set, replicate}
use Rattle.std.proofs.Common.{sym, ap, ap₂, ◌∙◌, ⊎_elim, arith, add-one, length-set, ext_get_or, get_or-set_same, get_or-set_other}
use Rattle.std.proofs.lemmas.List.{length-replicate}
use Rattle.words.specs.Below.{list_below}
use Rattle.words.specs.Lists.{length_list, list_at}
use Rattle.words.specs.Tests.{below_cases}

-- t with the first n entries of column k filled in
unfoldable pub column_filled : ℕ → (ℕ → ℕ) → List ℕ → ℕ → List ℕ
column_filled k g t zero = t
column_filled k g t (suc v) = set (column_filled k g t v) (v * 6 + k) (g v)

-- zeros with the first n columns filled in
unfoldable pub columns_filled : (ℕ → ℕ → ℕ) → ℕ → List ℕ
columns_filled f zero = replicate 384 0
columns_filled f (suc k) = column_filled k (λ v. f v k) (columns_filled f k) 64

length_column : (k : ℕ) (g : ℕ → ℕ) (t : List ℕ) (n : ℕ) → length (column_filled k g t n) ≡ length t
unfolding column_filled
length_column k g t zero = refl
length_column k g t (suc n) = length-set (column_filled k g t n) (n * 6 + k) (g n) ∙ length_column k g t n

length_columns : (f : ℕ → ℕ → ℕ) (n : ℕ) → length (columns_filled f n) ≡ 384
unfolding columns_filled
length_columns f zero = length-replicate {A = ℕ} 384 0
length_columns f (suc n) = length_column n (λ v. f v n) (columns_filled f n) 64 ∙ length_columns f n

column_other : (k : ℕ) (g : ℕ → ℕ) (t : List ℕ) (n i : ℕ) → k < 6 → i % 6 ≢ k → get_or (column_filled k g t n) i 0 ≡ get_or t i 0
unfolding column_filled
column_other k g t zero i lk h = refl
column_other k g t (suc n) i lk h =
    get_or-set_other (column_filled k g t n) (n * 6 + k) i (g n) 0 (λ e. h (omega arith)) ∙ column_other k g t n i lk h

column_at : (k : ℕ) (g : ℕ → ℕ) (t : List ℕ) (n : ℕ) → k < 6 → n ≤ 64 → length t ≡ 384 → (v : ℕ) → v < n → get_or (column_filled k g t n) (v * 6 + k) 0 ≡ g v
unfolding column_filled
column_at k g t zero lk b e v l = absurd (omega arith)
column_at k g t (suc n) lk b e v l =
    ⊎_elim
    (λ h. get_or-set_other (column_filled k g t n) (n * 6 + k) (v * 6 + k) (g n) 0 (λ e. absurd (omega arith)) ∙ column_at k g t n lk (omega arith) e v h)
    (λ h. rw h (get_or-set_same (column_filled k g t n) (n * 6 + k) (g n) 0 (rw (length_column, e) (omega arith))))
    (below_cases l)

columns_at : (f : ℕ → ℕ → ℕ) (n : ℕ) → n ≤ 6 → (v k : ℕ) → v < 64 → k < n → get_or (columns_filled f n) (v * 6 + k) 0 ≡ f v k
unfolding columns_filled
columns_at f zero b v k lv lk = absurd (omega arith)
columns_at f (suc n) b v k lv lk =
    ⊎_elim
    (λ h. column_other n (λ v. f v n) (columns_filled f n) 64 (v * 6 + k) (omega arith) (λ e. absurd (omega arith)) ∙ columns_at f n (omega arith) v k lv h)
    (λ h. rw h (column_at n (λ v. f v n) (columns_filled f n) 64 (omega arith) (omega arith) (length_columns f n) v lv))
    (below_cases lk)

-- after the last column
pub columns_all : (f : ℕ → ℕ → ℕ) → columns_filled f 6 ≡ list_below 384 (λ i. f (i / 6) (i % 6))
columns_all f =
    ext_get_or 0 (columns_filled f 6) (list_below 384 (λ i. f (i / 6) (i % 6))) (length_columns f 6 ∙ sym (length_list 384 _)) at_each
  where
    at_each : (i : ℕ) → i < length (columns_filled f 6) → get_or (columns_filled f 6) i 0 ≡ get_or (list_below 384 (λ i. f (i / 6) (i % 6))) i 0
    at_each i h =
        let l : i < 384 = rw length_columns at h in
        let e : i / 6 * 6 + i % 6 ≡ i = omega arith in
        ap (λ (j : ℕ). get_or (columns_filled f 6) j 0) (sym e) ∙ columns_at f 6 (omega arith) (i / 6) (i % 6) (omega arith) (omega arith)
        ∙ sym (list_at 384 (λ i. f (i / 6) (i % 6)) i l)

pub column_turn : (k n : ℕ) (g : ℕ → ℕ) (t l : List ℕ) (x : ℕ) → l ≡ column_filled k g t n → x ≡ g n → set l (n * 6 + k) x ≡ column_filled k g t (n + 1)
unfolding column_filled
column_turn k n g t l x e h = rw add-one (ap₂ (λ (m : List ℕ) (y : ℕ). set m (n * 6 + k) y) e h)

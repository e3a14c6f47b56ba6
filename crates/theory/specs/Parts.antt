-- The temporal parts of a rule by their numbers, the left side's before the right side's.
use Rattle.std.specs.Prelude.{ℕ, suc, ◌+◌, ◌<◌, ◌≡◌, refl, ◌↔◌, List, ◌++◌, Bool, true, length, get_or}
use Rattle.std.proofs.Common.{arith, zero-add, ap, length-append}
use Rattle.std.proofs.Math.Bool.{So}
use Rattle.meaning.specs.Bit.{bit}
use Rattle.words.specs.Below.{all_below}
use Rattle.words.specs.Folds.{all_at, all_of}
use Rattle.meaning.specs.Says.{Says}
use Rattle.meaning.specs.Formula.{Formula, never, always, prop, neg, next, finally, globally, until, release, and, or, implies, parts, temporal, Word, Holds}
use Rattle.meaning.specs.Pair.{Gives}
use Rattle.meaning.specs.Step.{Part, next_part, untilPart, releasePart, table, every}
use Rattle.theory.specs.Each.{Each, each_at, each_places, Numbered, numbered_append, numbered_at, numbered_of, every_says}
use Rattle.words.specs.Truth.{so_ext, says_itself}

-- the parts and their table are as many as they should be
pub length_temporal : (f : Formula) → length (temporal f) ≡ parts f
unfolding temporal parts
length_temporal never = refl
length_temporal always = refl
length_temporal (prop p) = refl
length_temporal (neg a) = length_temporal a
length_temporal (next a) = ap suc (length_temporal a)
length_temporal (finally a) = ap suc (length_temporal a)
length_temporal (globally a) = ap suc (length_temporal a)
length_temporal (until a b) = simp (length-append, length_temporal a, length_temporal b) (omega arith)
length_temporal (release a b) = simp (length-append, length_temporal a, length_temporal b) (omega arith)
length_temporal (and a b) = simp (length-append, length_temporal a, length_temporal b) refl
length_temporal (or a b) = simp (length-append, length_temporal a, length_temporal b) refl
length_temporal (implies a b) = simp (length-append, length_temporal a, length_temporal b) refl

pub length_table : (f : Formula) (n : ℕ) → length (table f n) ≡ parts f
unfolding table parts
length_table never n = refl
length_table always n = refl
length_table (prop p) n = refl
length_table (neg a) n = length_table a n
length_table (next a) n = ap suc (length_table a (suc n))
length_table (finally a) n = ap suc (length_table a (suc n))
length_table (globally a) n = ap suc (length_table a (suc n))
length_table (until a b) n = simp (length-append, length_table a, length_table b) (omega arith)
length_table (release a b) n = simp (length-append, length_table a, length_table b) (omega arith)
length_table (and a b) n = simp (length-append, length_table a, length_table b) refl
length_table (or a b) n = simp (length-append, length_table a, length_table b) refl
length_table (implies a b) n = simp (length-append, length_table a, length_table b) refl

-- the parts of a two-sided rule: the left side's, then the others
pub parts_append : (R : Formula → ℕ → Type 0) (a : Formula) (gs : List Formula) (n : ℕ)
    → Numbered R (temporal a ++ gs) n ↔ (Numbered R (temporal a) n × Numbered R gs (n + parts a))
parts_append R a gs n = rw (length_temporal a) at (numbered_append R (temporal a) gs n)

-- at position i of the word w, v gives the rule g, as part k, its truth
abbrev pub Given : Word → ℕ → ℕ → Formula → ℕ → Type 0
Given w v i g k = Says (bit v k) (Holds w g i)

-- v gives each part of f, numbered from n, its truth
abbrev pub RightFrom : Word → Formula → ℕ → ℕ → ℕ → Type 0
RightFrom w f n v i = Numbered (Given w v i) (temporal f) n

-- to give each part its truth, by its number
pub gives_right : (w : Word) (f : Formula) (v i : ℕ) → Gives w f v i ↔ RightFrom w f 0 v i
gives_right w f v i = (
  λ g. numbered_of (Given w v i) never (temporal f) 0 (λ k lt. rw zero-add (g k (rw (← (length_temporal f)) lt))),
  λ r k lt. rw zero-add at (numbered_at (Given w v i) never (temporal f) 0 r k (rw (length_temporal f) lt)),
)

-- part k of the table
abbrev pub part_of : Formula → ℕ → Part
part_of f k = get_or (table f 0) k (next_part 0 (λ l v. true))

-- the part's number
unfoldable pub part_number : Part → ℕ
part_number (next_part k a) = k
part_number (untilPart k a b) = k
part_number (releasePart k a b) = k

Has : Part → ℕ → Type 0
Has c k = part_number c ≡ k

two : (a b : Formula) (cs : List Part) (n : ℕ) → Numbered Has (table a n) n → Numbered Has cs (n + parts a) → Numbered Has (table a n ++ cs) n
two a b cs n h k = (numbered_append Has (table a n) cs n).1 (h, rw (length_table a n) k)

table_numbered : (f : Formula) (n : ℕ) → Numbered Has (table f n) n
unfolding table Has part_number
table_numbered never n = tt
table_numbered always n = tt
table_numbered (prop p) n = tt
table_numbered (neg a) n = table_numbered a n
table_numbered (next a) n = (refl, table_numbered a (suc n))
table_numbered (finally a) n = (refl, table_numbered a (suc n))
table_numbered (globally a) n = (refl, table_numbered a (suc n))
table_numbered (until a b) n = two a b _ n (table_numbered a n) (refl, table_numbered b (suc (n + parts a)))
table_numbered (release a b) n = two a b _ n (table_numbered a n) (refl, table_numbered b (suc (n + parts a)))
table_numbered (and a b) n = two a b _ n (table_numbered a n) (table_numbered b (n + parts a))
table_numbered (or a b) n = two a b _ n (table_numbered a n) (table_numbered b (n + parts a))
table_numbered (implies a b) n = two a b _ n (table_numbered a n) (table_numbered b (n + parts a))

-- it has the number k
pub part_number_lem : (f : Formula) (k : ℕ) → k < parts f → part_number (part_of f k) ≡ k
unfolding Has
part_number_lem f k lt = rw zero-add at (numbered_at Has (next_part 0 (λ l v. true)) (table f 0) 0 (table_numbered f 0) k (rw (length_table f 0) lt))

-- a test of each part, by their numbers
pub every_parts : (f : Formula) (t : Part → Bool) → every t (table f 0) ≡ all_below (parts f) (λ k. t (part_of f k))
every_parts f t = so_ext (every t (table f 0)) (all_below (parts f) (λ k. t (part_of f k)))
    (λ e. all_of (parts f) (λ k. t (part_of f k)) (λ k lt. each_at (λ c. So (t c)) _ (table f 0) (says.0 e) k (rw (length_table f 0) lt)))
    (λ e. says.1 (each_places (λ c. So (t c)) _ (table f 0) (λ k lt. all_at (parts f) (λ k. t (part_of f k)) e k (rw (length_table f 0) at lt))))
  where
    says : Says (every t (table f 0)) (Each (λ c. So (t c)) (table f 0))
    says = every_says t (λ c. So (t c)) (λ c. says_itself (t c)) (table f 0)

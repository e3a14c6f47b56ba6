-- Which states fit a move from valuation v to valuation w. Entry v * 6 + k of a table is the word of states for part k at v.
use Rattle.std.specs.Prelude.{ℕ, ◌+◌, ◌-◌, ◌*◌, ◌^◌, ◌<◌, ◌≡◌, Bool, true, false, cond, List, get_or}
use Rattle.std.proofs.Common.{sym, ◌∙◌, lt-ltb}
use Rattle.std.specs.Bool.{beq}
use Rattle.meaning.specs.Bit.{bit}
use Rattle.words.specs.Truth.{beq_true, beq_false, beq_comm}
use Rattle.words.specs.Below.{all_below, shared_below}
use Rattle.words.specs.Laws.{bit_all, bit_not}
use Rattle.words.specs.Folds.{all_same}
use Rattle.words.specs.Unions.{bit_shared}

-- the word of part k at v
abbrev pub entry : List ℕ → ℕ → ℕ → ℕ
entry table v k = get_or table (v * 6 + k) 0

-- the states at which part k unfolds to true at v, where w is next: `high` where w has the part, else `low`
abbrev pub unfolded : List ℕ → List ℕ → ℕ → ℕ → ℕ → ℕ
unfolded low high v w k = cond (bit w k) (entry high v k) (entry low v k)

-- the states of x where the test is true, the others where it is false
abbrev pub agreeing : Bool → ℕ → ℕ
agreeing test x = cond test x (2 ^ 64 - 1 - x)

-- the states at which each part's value in v is what the part unfolds to
unfoldable pub fitting_of : ℕ → List ℕ → List ℕ → ℕ → ℕ → ℕ
fitting_of parts low high v w = shared_below (2 ^ 64 - 1) parts (λ k. agreeing (bit v k) (unfolded low high v w k))

-- the states at which the operand of each part X, a member of `nexts`, has at w the value that the part has in v
unfoldable pub meeting_of : ℕ → ℕ → List ℕ → ℕ → ℕ → ℕ
meeting_of parts nexts operand v w =
    shared_below (2 ^ 64 - 1) parts (λ k. cond (bit nexts k) (agreeing (bit v k) (entry operand w k)) (2 ^ 64 - 1))

-- ---- what they mean

pub bit_agreeing : (test : Bool) {x : ℕ} → x < 2 ^ 64 → (s : ℕ) → s < 64 → bit (agreeing test x) s ≡ beq test (bit x s)
bit_agreeing true {x} h s l = sym (beq_comm true (bit x s) ∙ beq_true (bit x s))
bit_agreeing false {x} h s l = rw (bit_not 64 h s, lt-ltb s 64 l) (sym (beq_comm false (bit x s) ∙ beq_false (bit x s)))

pub bit_fitting : (parts : ℕ) (low high : List ℕ) (v w s : ℕ) → s < 64
    → ((k : ℕ) → unfolded low high v w k < 2 ^ 64)
    → bit (fitting_of parts low high v w) s ≡ all_below parts (λ k. beq (bit v k) (bit (unfolded low high v w k) s))
unfolding fitting_of
bit_fitting parts low high v w s l h =
    bit_shared (2 ^ 64 - 1) parts (λ k. agreeing (bit v k) (unfolded low high v w k)) s
    ∙ rw (bit_all 64 s, lt-ltb s 64 l)
    (all_same parts (λ k. bit (agreeing (bit v k) (unfolded low high v w k)) s) (λ k. beq (bit v k) (bit (unfolded low high v w k) s))
    (λ k _. bit_agreeing (bit v k) (h k) s l))

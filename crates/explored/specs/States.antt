-- A monitor as 130 words: a digest of the others, by which two are mostly told apart at the first word, whether an event came, and the two sets. The number
-- expected is left out: a column means the event with that number.
use Rattle.std.specs.Prelude.{ℕ, zero, suc, ◌+◌, ◌-◌, ◌*◌, ◌/◌, ◌%◌, ◌^◌, ◌≤◌, ◌<◌, ◌≡◌, Bool, cond, List, eqb, ltb, length, drop}
use Rattle.std.proofs.Math.Path.{refl}
use Rattle.std.proofs.Common.{sym, ap, subst, ◌∙◌}
use Rattle.std.proofs.Math.Bool.{true, false, not}
use native.Mathlib.Omega.{arith}
use Rattle.std.proofs.Math.ListN.{get_or}
use borrow.Author.Tests.{lt-ltb, le-ltb}
use Rattle.words.specs.Word.{only_of}
use Rattle.words.specs.Below.{list_below, all_below}
use Rattle.words.specs.Lists.{length_list, list_at, list_of}
use Rattle.words.specs.Folds.{count_le}
use Rattle.pairs.specs.Sets.{left_of}
use Rattle.model.specs.Monitor as model
use Rattle.answers.specs.declared.Lamp.{Lamp}
use Rattle.answers.specs.Paper.{number_of}
use Rattle.ways.specs.declared.Ways.{Ways}
use Rattle.sides.specs.declared.Monitor.{Monitor}
use Rattle.sides.specs.Held.{model_of, lamp_in}
use Rattle.sides.specs.Sides.{sides_of, advanced_in}
use Rattle.columns.specs.Columns.{event_at}
use Rattle.machines.specs.Explored.{Exploring, MoreThan}
use Rattle.explored.specs.Blocks.{block_at, stored, block_here}

-- ---- monitors as words

-- the digest of n words, from what it was before
unfoldable pub digest_to : ℕ → List ℕ → ℕ → ℕ
digest_to from words zero = from
digest_to from words (suc n) = digest_to from words n % 2 ^ 56 * 31 + get_or words n 0 % 2 ^ 32 + get_or words n 0 / 2 ^ 32

abbrev pub digest_of : Monitor → ℕ
digest_of m = digest_to (digest_to (only_of m.seen 1) m.keeps.words 64) m.breaks.words 64

-- word i: the digest, whether an event came, and 64 words for each set
unfoldable pub word_at : ℕ → Bool → List ℕ → List ℕ → ℕ → ℕ
word_at digest seen keeps breaks i = cond (ltb i 2) (cond (eqb i 0) digest (only_of seen 1)) (cond (ltb i 66) (get_or keeps (i - 2) 0) (get_or breaks (i - 66) 0))

unfoldable pub block_of : Monitor → List ℕ
block_of m = list_below 130 (word_at (digest_of m) m.seen m.keeps.words m.breaks.words)

-- the monitor that words are, from a place on
unfoldable pub words_from : List ℕ → ℕ → List ℕ
words_from room at = list_below 64 (λ v. get_or room (at + v) 0)

unfoldable pub monitor_from : List ℕ → ℕ → Monitor
monitor_from room at = sides_of 0 (not (eqb (get_or room (at + 1) 0) 0)) (words_from room (at + 2)) (words_from room (at + 66))

abbrev pub monitor_in : List ℕ → Monitor
monitor_in block = monitor_from block 0

-- ---- what steps

-- the state after the event of column k
unfoldable pub block_after : List ℕ → List ℕ → Ways → List ℕ → List ℕ → ℕ → List ℕ
block_after label next w live block k = block_of (advanced_in label next w live (monitor_in block) (event_at k))

-- what the lamp shows, as one number
abbrev pub lamp_number : Lamp → ℕ
lamp_number l = number_of l.verdict * 256 + l.left

unfoldable pub answer_of : List ℕ → ℕ
answer_of block = lamp_number (lamp_in (model_of (monitor_in block)))

-- ---- what is found

-- whether block r of a list is a state, at word i
unfoldable pub word_agrees : List ℕ → ℕ → List ℕ → ℕ → Bool
word_agrees room r state i = eqb (get_or room (r * 130 + i) 0) (get_or state i 0)

-- whether it is the state
abbrev pub same_block : List ℕ → List ℕ → ℕ → Bool
same_block room state r = all_below 130 (word_agrees room r state)

-- so many places and rows are found: the blocks of a list are states, and the cells stand behind 256 of them
pub record Found (label next : List ℕ) (w : Ways) (live : List ℕ) (opening : List ℕ) (c : ℕ) (room : List ℕ) (places rows : ℕ) : Type 0 where
  pub exploring : Exploring c (block_after label next w live) opening (block_at 130 room) (drop 33280 room) places rows

-- the answer is 0 where more than 256 states are reached; else it is how many, each with its cells
pub data Answer (label next : List ℕ) (w : Ways) (live : List ℕ) (opening : List ℕ) (c : ℕ) (room : List ℕ) : ℕ → Type 0 where
  many : MoreThan c (block_after label next w live) opening 256 → Answer label next w live opening c room 0
  few : {r : ℕ} → r ≤ 256 → Found label next w live opening c room (r * c) r → Answer label next w live opening c room r

-- ---- laws

pub block_length : (m : Monitor) → length (block_of m) ≡ 130
unfolding block_of
block_length m = length_list 130 (word_at (digest_of m) m.seen m.keeps.words m.breaks.words)

pub step_length : (label next : List ℕ) (w : Ways) (live block : List ℕ) (k : ℕ) → length (block_after label next w live block k) ≡ 130
unfolding block_after
step_length label next w live block k = block_length (advanced_in label next w live (monitor_in block) (event_at k))

-- a step as code takes it
pub step_is : (label next : List ℕ) (w : Ways) (live block : List ℕ) (k : ℕ) {made : Monitor} {state : List ℕ}
    → made ≡ advanced_in label next w live (monitor_in block) (event_at k) → state ≡ block_of made → state ≡ block_after label next w live block k
unfolding block_after
step_is label next w live block k m s = rw (s, m) refl

-- from the state that is stored first
pub opens_in : {label next : List ℕ} {w : Ways} {live : List ℕ} {c : ℕ} {room : List ℕ} {r : ℕ} (first : Monitor) (before now : List ℕ) {state : List ℕ}
    → 33280 ≤ length before → state ≡ block_of first → now ≡ stored 130 0 state 130 before → Answer label next w live (block_at 130 now 0) c room r → Answer label next w live (block_of first) c room r
opens_in {label} {next} {w} {live} {c} {room} {r} first before now {state} long is put =
    subst (λ (opening : List ℕ). Answer label next w live opening c room r) (rw (put, is) (block_here 130 0 (block_of first) before (block_length first) (omega arith)))

-- the digest goes on
pub digest_turn : (from : ℕ) (words : List ℕ) (n d : ℕ) → d ≡ digest_to from words n → d % 2 ^ 56 * 31 + get_or words n 0 % 2 ^ 32 + get_or words n 0 / 2 ^ 32 ≡ digest_to from words (suc n)
unfolding digest_to
digest_turn from words n d e = rw e refl

-- a monitor read from a block of a list
abbrev words_in : List ℕ → ℕ → List ℕ
words_in room r = list_below 130 (λ i. get_or room (r * 130 + i) 0)

sides_same : {a b : ℕ} {keeps keeps' breaks breaks' : List ℕ} → a ≡ b → keeps ≡ keeps' → breaks ≡ breaks'
    → sides_of 0 (not (eqb a 0)) keeps breaks ≡ sides_of 0 (not (eqb b 0)) keeps' breaks'
sides_same e k b = rw (e, k, b) refl

pub monitor_at : (room : List ℕ) (r : ℕ) → monitor_from room (r * 130) ≡ monitor_in (block_at 130 room r)
unfolding monitor_from words_from block_at
monitor_at room r = sides_same (entry 1 (omega arith)) (part 2 (omega arith)) (part 66 (omega arith))
  where
    entry : (i : ℕ) → i < 130 → get_or room (r * 130 + i) 0 ≡ get_or (words_in room r) i 0
    entry i l = sym (list_at 130 (λ i. get_or room (r * 130 + i) 0) i l)

    word : (at : ℕ) → at ≤ 66 → (v : ℕ) → v < 64 → get_or room (r * 130 + at + v) 0 ≡ get_or (words_in room r) (0 + at + v) 0
    word at l v h =
        let e : r * 130 + at + v ≡ r * 130 + (0 + at + v) = omega arith in
        ap (λ (k : ℕ). get_or room k 0) e ∙ entry (0 + at + v) (omega arith)

    part : (at : ℕ) → at ≤ 66 → list_below 64 (λ v. get_or room (r * 130 + at + v) 0) ≡ list_below 64 (λ v. get_or (words_in room r) (0 + at + v) 0)
    part at l = list_of 64 (λ v. get_or room (r * 130 + at + v) 0) (list_below 64 (λ v. get_or (words_in room r) (0 + at + v) 0)) (length_list 64 (λ v. get_or (words_in room r) (0 + at + v) 0))
        (λ v h. word at l v h ∙ sym (list_at 64 (λ v. get_or (words_in room r) (0 + at + v) 0) v h))

-- as code reads it
pub monitor_loaded : (room : List ℕ) (r : ℕ) {keeps breaks : List ℕ} {x : ℕ} → keeps ≡ words_from room (r * 130 + 2) → breaks ≡ words_from room (r * 130 + 66) → x ≡ get_or room (r * 130 + 1) 0
    → sides_of 0 (not (eqb x 0)) keeps breaks ≡ monitor_in (block_at 130 room r)
unfolding monitor_from
monitor_loaded room r k b e = sides_same e k b ∙ monitor_at room r

-- at most 64 states are left
pub few_left : (m : model.Monitor) → (lamp_in m).left ≤ 64
unfolding model.left left_of
few_left m = count_le 64 _

-- ---- read back

module _ (digest : ℕ) (seen : Bool) (keeps breaks : List ℕ) where
  abbrev block : List ℕ
  block = list_below 130 (word_at digest seen keeps breaks)

  seen_back : not (eqb (get_or block 1 0) 0) ≡ seen
  unfolding word_at
  seen_back = rw (list_at 130 (word_at digest seen keeps breaks) 1 (omega arith)) (told seen)
    where
      told : (s : Bool) → not (eqb (only_of s 1) 0) ≡ s
      told true = refl
      told false = refl

  keeps_back : length keeps ≡ 64 → list_below 64 (λ v. get_or block (0 + 2 + v) 0) ≡ keeps
  unfolding word_at
  keeps_back long = list_of 64 (λ v. get_or block (0 + 2 + v) 0) keeps long (λ v l. list_at 130 (word_at digest seen keeps breaks) (0 + 2 + v) (omega arith) ∙ there v l)
    where
      there : (v : ℕ) → v < 64 → word_at digest seen keeps breaks (0 + 2 + v) ≡ get_or keeps v 0
      there v l =
          let e : 0 + 2 + v - 2 ≡ v = omega arith in
          rw (le-ltb (0 + 2 + v) 2 (omega arith), lt-ltb (0 + 2 + v) 66 (omega arith)) (ap (λ (i : ℕ). get_or keeps i 0) e)

  breaks_back : length breaks ≡ 64 → list_below 64 (λ v. get_or block (0 + 66 + v) 0) ≡ breaks
  unfolding word_at
  breaks_back long = list_of 64 (λ v. get_or block (0 + 66 + v) 0) breaks long (λ v l. list_at 130 (word_at digest seen keeps breaks) (0 + 66 + v) (omega arith) ∙ there v l)
    where
      there : (v : ℕ) → v < 64 → word_at digest seen keeps breaks (0 + 66 + v) ≡ get_or breaks v 0
      there v l =
          let e : 0 + 66 + v - 66 ≡ v = omega arith in
          rw (le-ltb (0 + 66 + v) 2 (omega arith), le-ltb (0 + 66 + v) 66 (omega arith)) (ap (λ (i : ℕ). get_or breaks i 0) e)

-- a monitor that expects number 0 is read back from its block
pub block_back : (m : Monitor) → m.expected ≡ 0 → length m.keeps.words ≡ 64 → length m.breaks.words ≡ 64 → monitor_in (block_of m) ≡ m
unfolding monitor_from words_from block_of
block_back m zeroth k b =
    by (seen_back (digest_of m) m.seen m.keeps.words m.breaks.words) (keeps_back (digest_of m) m.seen m.keeps.words m.breaks.words k)
    (breaks_back (digest_of m) m.seen m.keeps.words m.breaks.words b) zeroth
  where
    by : {s : Bool} {keeps breaks : List ℕ} → s ≡ m.seen → keeps ≡ m.keeps.words → breaks ≡ m.breaks.words → m.expected ≡ 0 → sides_of 0 s keeps breaks ≡ m
    by e k b z = rw (e, k, b, ← z) refl

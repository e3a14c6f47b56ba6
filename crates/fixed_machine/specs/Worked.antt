-- What is made of something that steps, as the code goes: the rows found, joined and laid into the lent bytes, or 15, or 11.
use Rattle.std.specs.Prelude.{ℕ, ◌+◌, ◌*◌, ◌≤◌, ◌<◌, ◌≡◌, refl, Bool, true, false, List, ◌++◌, leb, length, drop, replicate, Result, Ok, Err}
use Rattle.std.proofs.Common.{sym, ap, ap₂, subst, ◌∙◌, append-nil, arith, mul-le-mul, le-leb, drop_of_length-le}
use Rattle.std.proofs.lemmas.Bool.{lt-leb}
use Rattle.std.proofs.lemmas.List.{length-replicate}
use Rattle.answers.specs.declared.Kind.TheVariants.{Room, Rows}
use Rattle.answers.specs.declared.Refusal.{Refusal}
use Rattle.answers.specs.Paper.{refused_at}
use Rattle.syntax.specs.declared.Rule.{Rule}
use Rattle.ways.specs.declared.Ways.{Ways}
use Rattle.ways.specs.Ways.{ways_of}
use Rattle.sides.specs.declared.Monitor.{Monitor}
use Rattle.sides.specs.Sides.{opened_by}
use Rattle.columns.specs.Columns.{count_of}
use Rattle.machines.specs.Machine.{Machine, Proper}
use Rattle.machines.specs.Held.{machine_of}
use Rattle.machines.specs.Bytes.{table_byte}
use Rattle.machines.specs.Explored.{MoreThan, explored_most}
use Rattle.machines.specs.Grown.{grown_proper}
use Rattle.machines.specs.Joined.{joined, joined_fewer}
use Rattle.machines.specs.Made as machines
use Rattle.machines.proofs.Made as machines_laws
use Rattle.joined.specs.Written.{written, written_at}
use Rattle.explored.specs.Blocks.{block_at}
use Rattle.explored.specs.States.{block_of, block_after, answer_of, Found, Answer, many, few}
use Rattle.fixed_machine.specs.declared.Size.{Size}

-- the machine's bytes from the first on, and the rest stays; or 11 where they find no room
abbrev pub LaidBy : Bool → ℕ → Machine → List ℕ → List ℕ → Result Size Refusal → Type 0
LaidBy true c m old new r = (r ≡ Ok (record { rows = m.rows; bytes = c + 2 })) × (new ≡ written (m.rows * (c + 2)) (table_byte c m) old)
LaidBy false c m old new r = (r ≡ Err (refused_at Room 0)) × (new ≡ old)

abbrev pub Laid : ℕ → Machine → List ℕ → List ℕ → Result Size Refusal → Type 0
Laid c m old new r = LaidBy (leb (m.rows * (c + 2)) (length old)) c m old new r

-- 15 where more than 256 states are reached, and else the fixed machine
pub data Worked {S : Type 0} (c : ℕ) (step : S → ℕ → S) (answer : S → ℕ) (opening : S) (old new : List ℕ) (r : Result Size Refusal) : Type 0 where
  over : MoreThan c step opening 256 → r ≡ Err (refused_at Rows 0) → new ≡ old → Worked c step answer opening old new r
  made : (m : Machine) → (MoreThan c step opening 256 → ⊥) → machines.Made c step answer opening m → Laid c m old new r → Worked c step answer opening old new r

-- ---- in words

-- the rows found, with what their lamps show
abbrev pub machine_in : List ℕ → ℕ → ℕ → Machine
machine_in room n c = machine_of (written n (λ r. answer_of (block_at 130 room r)) (replicate 256 0)) (drop 33280 room) n c

abbrev pub WorkedIn : List ℕ → List ℕ → Ways → List ℕ → Monitor → ℕ → List ℕ → List ℕ → Result Size Refusal → Type 0
WorkedIn label next w live first c old new r = Worked c (block_after label next w live) answer_of (block_of first) old new r

-- with what the rule says
abbrev pub WorkedOn : ℕ → ℕ → List ℕ → List ℕ → Rule → List ℕ → List ℕ → List ℕ → Result Size Refusal → Type 0
WorkedOn start props label next rule live old new r =
    WorkedIn label next (ways_of label rule) live (opened_by start (ways_of label rule).holds live) (count_of props) old new r

-- ---- for code

module _ {label next : List ℕ} {w : Ways} {live opening : List ℕ} {c : ℕ} {room : List ℕ} {n : ℕ} (answer : Answer label next w live opening c room n) where
  -- no rows are the answer where there are too many
  pub found_none : n ≡ 0 → MoreThan c (block_after label next w live) opening 256
  found_none = go answer
    where
      go : {n : ℕ} → Answer label next w live opening c room n → n ≡ 0 → MoreThan c (block_after label next w live) opening 256
      go (many more) e = more
      go (few l found) e = absurd (omega (arith, found.exploring.grown.some))

  -- else the rows are found
  pub found_rows : (n ≡ 0 → ⊥) → (n ≤ 256) × Found label next w live opening c room (n * c) n
  found_rows = go answer
    where
      go : {n : ℕ} → Answer label next w live opening c room n → (n ≡ 0 → ⊥) → (n ≤ 256) × Found label next w live opening c room (n * c) n
      go (many more) d = absurd (d refl)
      go (few l found) d = (l, found)

module _ {label next : List ℕ} {w : Ways} {live opening : List ℕ} {c : ℕ} {room : List ℕ} {n : ℕ} (found : Found label next w live opening c room (n * c) n) where
  -- they are a machine, whatever the outputs
  pub found_proper : (outputs : List ℕ) → Proper c (machine_of outputs (drop 33280 room) n c)
  found_proper outputs = grown_proper outputs found.exploring.grown

  pub found_in : Proper c (machine_in room n c)
  found_in = found_proper (written n (λ r. answer_of (block_at 130 room r)) (replicate 256 0))

  -- and joined they are the fixed one
  pub worked : n ≤ 256 → {old new : List ℕ} {r : Result Size Refusal} → Laid c (joined c (machine_in room n c)) old new r → Worked c (block_after label next w live) answer_of opening old new r
  worked l laid = made (joined c (machine_in room n c)) (explored_most found.exploring 256 l)
      (machines_laws.joined_made found.exploring answer_of (written n (λ r. answer_of (block_at 130 room r)) (replicate 256 0))
      (λ r h. written_at n (λ r. answer_of (block_at 130 room r)) (replicate 256 0) r h (omega (arith, length-replicate {A = ℕ} 256 0)))) laid

-- the lists that are lent hold the rows that were found
module _ (room : List ℕ) (n c : ℕ) (outputs cells : List ℕ) (told : outputs ≡ written n (λ r. answer_of (block_at 130 room r)) (replicate 256 0)) (behind : cells ≡ drop 33280 room) where
  pub same_machine : machine_of outputs cells n c ≡ machine_in room n c
  same_machine = ap₂ (λ (o d : List ℕ). machine_of o d n c) told behind

  pub same_proper : Proper c (machine_in room n c) → Proper c (machine_of outputs cells n c)
  same_proper proper = subst (Proper c) (sym same_machine) proper

  module _ {count : ℕ} (size : count ≡ (joined c (machine_of outputs cells n c)).rows) where
    -- no more joined rows than rows
    pub size_low : n ≤ 256 → c ≤ 54 → count * (c + 2) ≤ 14336
    size_low l h = omega (arith, mul-le-mul {n₁ = count} {m₁ = c + 2} {n₂ = 256} {m₂ = 56} (omega (arith, joined_fewer c (machine_of outputs cells n c))) (omega arith))

    -- the answers
    pub laid_short : (old : List ℕ) {r : Refusal} → length old < count * (c + 2) → r ≡ refused_at Room 0 → Laid c (joined c (machine_in room n c)) old old (Err r)
    laid_short old {r} l e =
        subst (λ (m : Machine). Laid c (joined c m) old old (Err r)) same_machine
        (rw (lt-leb ((joined c (machine_of outputs cells n c)).rows * (c + 2)) (length old) (rw (← size) l)) (ap Err e, refl))

    pub laid_whole : (old : List ℕ) {new : List ℕ} {bytes : ℕ} → count * (c + 2) ≤ length old → bytes ≡ c + 2 → new ≡ written (count * (c + 2)) (table_byte c (joined c (machine_of outputs cells n c))) old
        → Laid c (joined c (machine_in room n c)) old new (Ok (record { rows = count; bytes = bytes }))
    laid_whole old {new} {bytes} l e w =
        subst (λ (m : Machine). Laid c (joined c m) old new (Ok (record { rows = count; bytes = bytes }))) same_machine
        (rw (le-leb ((joined c (machine_of outputs cells n c)).rows * (c + 2)) (length old) (rw (← size) l))
        (ap₂ (λ (k b : ℕ). Ok (record { rows = k; bytes = b })) size e, w ∙ ap (λ (k : ℕ). written (k * (c + 2)) (table_byte c (joined c (machine_of outputs cells n c))) old) size))

-- words that are 0 from the first on, up to the last
pub cleared : (l m : List ℕ) (i : ℕ) → i ≡ length l → m ≡ replicate i 0 ++ drop i l → m ≡ replicate (length l) 0
cleared l m i e h = h ∙ rw (e, drop_of_length-le l {i = length l} (omega arith)) (append-nil (replicate (length l) 0))

-- with what the rule says, and as many columns as the propositions have
pub worked_on : (start props : ℕ) (label next : List ℕ) (rule : Rule) (live : List ℕ) {w : Ways} {first : Monitor} {c : ℕ} {old new : List ℕ} {r : Result Size Refusal}
    → w ≡ ways_of label rule → first ≡ opened_by start w.holds live → c ≡ count_of props → WorkedIn label next w live first c old new r → WorkedOn start props label next rule live old new r
worked_on start props label next rule live {w} {first} {c} {old} {new} {r} says opens counts h =
    subst (λ (k : ℕ). WorkedIn label next (ways_of label rule) live (opened_by start (ways_of label rule).holds live) k old new r) counts
    (subst (λ (m : Monitor). WorkedIn label next (ways_of label rule) live m c old new r) (opens ∙ ap (λ (x : Ways). opened_by start x.holds live) says)
    (subst (λ (x : Ways). WorkedIn label next x live first c old new r) says h))

-- words that end 0 behind a call that kept how many there are
pub cleared_by : (old mid new : List ℕ) → length mid ≡ length old → new ≡ replicate (length mid) 0 → new ≡ replicate (length old) 0
cleared_by old mid new e h = h ∙ ap (λ (k : ℕ). replicate k 0) e

-- FOR CODE: rows counted with no division, and where an event's cells begin read off a word.
use Rattle.std.specs.Prelude.{ℕ, zero, suc, ◌+◌, ◌*◌, ◌/◌, ◌%◌, ◌^◌, ◌≤◌, ◌<◌, refl, Bool, ◌&&◌, ◌||◌, not, cond, List, [], ◌∷◌, eqb, ltb, leb, get_or}
use Rattle.std.proofs.Math.Path.{◌≡◌}
use Rattle.std.proofs.Common.{sym, ap, ap₂, ◌∙◌, arith, div-mul-le_self, mul-le-mul, mul-le-mul_right, suc-mul}
use Rattle.std.proofs.Math.Bool.{true, false, So}
use Rattle.std.specs.Bool.{beq}
use Rattle.std.proofs.Math.Decide.{dec_lt}
use borrow.Author.Tests.{ltb-true, eqb-true, lt-ltb, le-ltb, le-leb, lt-leb, ltb-false, leb-true, eqb-false}
use Rattle.words.specs.Below.{all_below}
use Rattle.words.specs.Folds.{all_at}
use Rattle.words.specs.Truth.{and_says, beq_says, not_so}
use Rattle.words.specs.Word.{only_of}
use Rattle.event_log.specs.declared.Event.{Event}
use Rattle.event_log.specs.Legal.{legal_of}
use Rattle.columns.specs.Columns.{event, count_of, few_columns}
use Rattle.machine_lookup.specs.declared.Shape.{Shape}
use Rattle.machine_lookup.specs.Lookup.{twos, column_of, holds_row}
use Rattle.machine_lookup.specs.Columns.{legal_low, column_low}

-- the rows of so many bytes, 0 where they are not whole rows, or more than 256
unfoldable pub rows_of : ℕ → ℕ → ℕ
rows_of bytes width = cond (eqb (bytes % width) 0 && leb (bytes / width) 256) (bytes / width) 0

-- a row that is held is below them
pub rows_hold : (bytes width row : ℕ) → holds_row bytes width row ≡ ltb row (rows_of bytes width)
unfolding holds_row rows_of
rows_hold bytes width row = go (eqb (bytes % width) 0) (leb (bytes / width) 256)
  where
    last : (l : Bool) → (l && true) ≡ l
    last true = refl
    last false = refl

    none : (l : Bool) → (l && false) ≡ false
    none true = refl
    none false = refl

    go : (a b : Bool) → (a && (ltb row (bytes / width) && b)) ≡ ltb row (cond (a && b) (bytes / width) 0)
    go true true = last (ltb row (bytes / width))
    go true false = none (ltb row (bytes / width)) ∙ sym (le-ltb row 0 (omega arith))
    go false b = sym (le-ltb row 0 (omega arith))

-- the same by shares of 2^32
unfoldable pub rows_by : ℕ → ℕ → ℕ → ℕ
rows_by bytes width share = cond (ltb (width * 256) bytes) 0 (cond (leb share (bytes * share % 4294967296)) 0 (bytes * share / 4294967296))

-- a share is 2^32 by the width, rounded up
record Shares (bytes width share : ℕ) : Type 0 where
  many : width * 256 < bytes → bytes % width ≡ 0 → 256 < bytes / width
  rows : bytes ≤ width * 256 → (bytes * share / 4294967296 ≡ bytes / width) × (bytes / width ≤ 256)
  whole : bytes ≤ width * 256 → bytes % width ≡ 0 → bytes * share % 4294967296 < share
  broken : bytes ≤ width * 256 → 0 < bytes % width → share ≤ bytes * share % 4294967296

-- so they are the rows
shares_right : (b w s : ℕ) → Shares b w s → rows_by b w s ≡ rows_of b w
unfolding rows_by rows_of
shares_right b w s law = go (ltb (w * 256) b) (eqb (b % w) 0) refl refl
  where
    some : eqb (b % w) 0 ≡ false → 0 < b % w
    some e = let un = eqb-false (b % w) 0 e in omega (arith, un)

    go : (t u : Bool) → ltb (w * 256) b ≡ t → eqb (b % w) 0 ≡ u
        → cond (ltb (w * 256) b) 0 (cond (leb s (b * s % 4294967296)) 0 (b * s / 4294967296)) ≡ cond (eqb (b % w) 0 && leb (b / w) 256) (b / w) 0
    go true true big e = rw (big, e, lt-leb (b / w) 256 (law.many (ltb-true (w * 256) b big) (eqb-true (b % w) 0 e))) refl
    go true false big e = rw (big, e) refl
    go false true low e =
        let l = ltb-false (w * 256) b low in
        let (rows, few) = law.rows l in
        rw (low, e, lt-leb s (b * s % 4294967296) (law.whole l (eqb-true (b % w) 0 e)), le-leb (b / w) 256 few) rows
    go false false low e = rw (low, e, le-leb s (b * s % 4294967296) (law.broken (ltb-false (w * 256) b low) (some e))) refl

pub rows_8 : (b : ℕ) → rows_by b 8 536870912 ≡ rows_of b 8
rows_8 b =
    let rows : b ≤ 2048 → b * 536870912 / 4294967296 ≡ b / 8 = λ h. omega arith in
    shares_right b 8 536870912 (record {
      many = λ h e. omega arith;
      rows = λ h. (rows h, omega arith);
      whole = λ h e. omega (arith, rows h);
      broken = λ h e. omega (arith, rows h);
    })

pub rows_20 : (b : ℕ) → rows_by b 20 214748365 ≡ rows_of b 20
rows_20 b =
    let rows : b ≤ 5120 → b * 214748365 / 4294967296 ≡ b / 20 = λ h. omega arith in
    shares_right b 20 214748365 (record {
      many = λ h e. omega arith;
      rows = λ h. (rows h, omega arith);
      whole = λ h e. omega (arith, rows h);
      broken = λ h e. omega (arith, rows h);
    })

pub rows_56 : (b : ℕ) → rows_by b 56 76695845 ≡ rows_of b 56
rows_56 b =
    let rows : b ≤ 14336 → b * 76695845 / 4294967296 ≡ b / 56 = λ h. omega arith in
    shares_right b 56 76695845 (record {
      many = λ h e. omega arith;
      rows = λ h. (rows h, omega arith);
      whole = λ h e. omega (arith, rows h);
      broken = λ h e. omega (arith, rows h);
    })

-- with one row there are as many as the bytes have room for
pub rows_some : (bytes width row : ℕ) → row < rows_of bytes width → (rows_of bytes width ≡ bytes / width) × (bytes / width ≤ 256)
unfolding rows_of
rows_some bytes width row l = go (eqb (bytes % width) 0) (leb (bytes / width) 256) refl l
  where
    go : (a b : Bool) → leb (bytes / width) 256 ≡ b → row < cond (a && b) (bytes / width) 0 → (cond (a && b) (bytes / width) 0 ≡ bytes / width) × (bytes / width ≤ 256)
    go true true e l = (refl, leb-true (bytes / width) 256 e)
    go true false e l = absurd (omega arith)
    go false b e l = absurd (omega arith)

-- a row lies within the bytes
pub row_within : (bytes width row : ℕ) → row < bytes / width → row * width + width ≤ bytes
row_within bytes width row l = omega (arith, div-mul-le_self bytes width, mul-le-mul_right {m = suc row} {n = bytes / width} width l, suc-mul row width)

-- the shape of so many bytes
unfoldable pub shape_of : ℕ → ℕ → Shape
shape_of bytes props = cond (leb 1 props && leb props 3) (record { width = count_of props + 2; rows = rows_of bytes (count_of props + 2) }) (record { width = 0; rows = 0 })

pub shape_right : (bytes props : ℕ) {width r : ℕ} → 1 ≤ props → props ≤ 3 → width ≡ count_of props + 2 → r ≡ rows_of bytes width → record { width = width; rows = r } ≡ shape_of bytes props
unfolding shape_of
shape_right bytes props some few wide is = rw (le-leb 1 props some, le-leb props 3 few, ← wide, is) refl

pub shape_none : (bytes props : ℕ) → (props ≡ 1 → ⊥) → (props ≡ 2 → ⊥) → (props ≡ 3 → ⊥) → record { width = 0; rows = 0 } ≡ shape_of bytes props
unfolding shape_of
shape_none bytes props a b c = go props a b c
  where
    none : (a : Bool) → (a && false) ≡ false
    none true = refl
    none false = refl

    go : (props : ℕ) → (props ≡ 1 → ⊥) → (props ≡ 2 → ⊥) → (props ≡ 3 → ⊥)
        → ◌≡◌ {A = Shape} (record { width = 0; rows = 0 }) (cond (leb 1 props && leb props 3) (record { width = count_of props + 2; rows = rows_of bytes (count_of props + 2) }) (record { width = 0; rows = 0 }))
    go zero a b c = refl
    go (suc zero) a b c = absurd (a refl)
    go (suc (suc zero)) a b c = absurd (b refl)
    go (suc (suc (suc zero))) a b c = absurd (c refl)
    go (suc (suc (suc (suc p)))) a b c = rw (lt-leb (suc (suc (suc (suc p)))) 3 (omega arith), none (leb 1 (suc (suc (suc (suc p)))))) refl

-- what a shape says of the propositions
pub record Shaped (bytes props : ℕ) (s : Shape) : Type 0 where
  pub some : 1 ≤ props
  pub few : props ≤ 3
  pub wide : s.width ≡ count_of props + 2
  pub rows : s.rows ≡ rows_of bytes s.width

pub shape_some : (bytes props : ℕ) (s : Shape) → s ≡ shape_of bytes props → (s.width ≡ 0 → ⊥) → Shaped bytes props s
unfolding shape_of
shape_some bytes props s is un = go (leb 1 props) (leb props 3) refl refl is
  where
    go : (a b : Bool) → leb 1 props ≡ a → leb props 3 ≡ b → s ≡ cond (a && b) (record { width = count_of props + 2; rows = rows_of bytes (count_of props + 2) }) (record { width = 0; rows = 0 }) → Shaped bytes props s
    go true true e f is =
        let wide : s.width ≡ count_of props + 2 = ap (λ (t : Shape). t.width) is in
        record { some = leb-true 1 props e; few = leb-true props 3 f; wide = wide; rows = ap (λ (t : Shape). t.rows) is ∙ ap (λ (w : ℕ). rows_of bytes w) (sym wide) }
    go true false e f is = absurd (un (ap (λ (t : Shape). t.width) is))
    go false b e f is = absurd (un (ap (λ (t : Shape). t.width) is))

-- and of a row below its rows
pub record Held (bytes width rows row : ℕ) : Type 0 where
  pub wide : 2 ≤ width
  pub narrow : width ≤ 56
  pub rows_are : rows ≡ bytes / width
  pub within : row * width + width ≤ bytes
  pub low : row * width ≤ 14336
  pub held : holds_row bytes width row ≡ true

pub shape_held : (bytes props row : ℕ) (s : Shape) → Shaped bytes props s → row < s.rows → Held bytes s.width s.rows row
shape_held bytes props row s t l =
    let below : row < rows_of bytes s.width = omega (arith, t.rows) in
    let (are, few) = rows_some bytes s.width row below in
    let narrow : s.width ≤ 56 = omega (arith, t.wide, (few_columns props).1) in
    let here : row < bytes / s.width = omega (arith, are) in
    record {
      wide = omega (arith, t.wide);
      narrow = narrow;
      rows_are = t.rows ∙ are;
      within = row_within bytes s.width row here;
      low = omega (arith, mul-le-mul {n₁ = row} {m₁ = s.width} {n₂ = 256} {m₂ = 56} (omega arith) narrow);
      held = rows_hold bytes s.width row ∙ lt-ltb row (rows_of bytes s.width) below;
    }

-- no machine is 0 wide
pub shape_nought : (bytes props : ℕ) (s : Shape) → s ≡ shape_of bytes props → s.width ≡ 0 → (leb 1 props && leb props 3) ≡ false
unfolding shape_of
shape_nought bytes props s is e = go (leb 1 props && leb props 3) is
  where
    go : (a : Bool) → s ≡ cond a (record { width = count_of props + 2; rows = rows_of bytes (count_of props + 2) }) (record { width = 0; rows = 0 }) → a ≡ false
    go true is = absurd (let w : s.width ≡ count_of props + 2 = ap (λ (t : Shape). t.width) is in omega arith)
    go false is = refl

-- where the two cells of an event begin: a word for what is seen, in it a byte for what is given
abbrev pub firsts : List ℕ
firsts =
    4051049678932293634 ∷ 4051049678932280836 ∷ 4051049678929278984 ∷ 4051049678292127244 ∷ 4051049532903405588 ∷ 4051020971370879512 ∷ 4045983043450714144 ∷ 3905801959351527976 ∷ []

-- what sees none of the first seven sees all three
pub last_seen : (see : ℕ) → see < 8 → (see ≡ 0 → ⊥) → (see ≡ 1 → ⊥) → (see ≡ 2 → ⊥) → (see ≡ 3 → ⊥) → (see ≡ 4 → ⊥) → (see ≡ 5 → ⊥) → (see ≡ 6 → ⊥) → see ≡ 7
last_seen zero l a b c d e f g = absurd (a refl)
last_seen (suc zero) l a b c d e f g = absurd (b refl)
last_seen (suc (suc zero)) l a b c d e f g = absurd (c refl)
last_seen (suc (suc (suc zero))) l a b c d e f g = absurd (d refl)
last_seen (suc (suc (suc (suc zero)))) l a b c d e f g = absurd (e refl)
last_seen (suc (suc (suc (suc (suc zero))))) l a b c d e f g = absurd (f refl)
last_seen (suc (suc (suc (suc (suc (suc zero)))))) l a b c d e f g = absurd (g refl)
last_seen (suc (suc (suc (suc (suc (suc (suc zero))))))) l a b c d e f g = refl
last_seen (suc (suc (suc (suc (suc (suc (suc (suc n)))))))) l a b c d e f g = absurd (omega arith)

unfoldable pub first_of : ℕ → ℕ → ℕ
first_of see val = cond (ltb see 8 && ltb val 8) (get_or firsts see 0 / 2 ^ (val * 8) % 256) 56

pub first_unseen : (see val : ℕ) → 7 < see → 56 ≡ first_of see val
unfolding first_of
first_unseen see val l = rw (le-ltb see 8 (omega arith)) refl

pub first_ungiven : (see val : ℕ) → see ≤ 7 → 7 < val → 56 ≡ first_of see val
unfolding first_of
first_ungiven see val low l = rw (lt-ltb see 8 (omega arith), le-ltb val 8 (omega arith)) refl

pub first_there : (see val : ℕ) {x : ℕ} → see ≤ 7 → val ≤ 7 → x ≡ get_or firsts see 0 → x / 2 ^ (val * 8) % 256 ≡ first_of see val
unfolding first_of
first_there see val low below is = rw (lt-ltb see 8 (omega arith), lt-ltb val 8 (omega arith), is) refl

-- for each of the events that see and give less than 8: legal where it is within the row, and then behind verdict and left
unfoldable right_at : ℕ → ℕ → ℕ → Bool
right_at props see val =
    beq (legal_of (event see val false) props) (ltb (first_of see val) (count_of props + 2)) && (not (legal_of (event see val false) props) || eqb (first_of see val) (get_or twos (see * 8 + val) 0 * 2 + 2))

all_right : (props : ℕ) → 1 ≤ props → props ≤ 3 → all_below 8 (λ see. all_below 8 (right_at props see)) ≡ true
unfolding all_below right_at legal_of count_of first_of
all_right zero a b = absurd (omega arith)
all_right (suc zero) a b = refl
all_right (suc (suc zero)) a b = refl
all_right (suc (suc (suc zero))) a b = refl
all_right (suc (suc (suc (suc p)))) a b = absurd (omega arith)

module _ (props : ℕ) (some : 1 ≤ props) (few : props ≤ 3) (e : Event) where
  abbrev first : ℕ
  first = first_of e.see e.val

  abbrev there : Bool
  there = legal_of e props

  -- what was found for each, of this one
  right : e.see < 8 → e.val < 8 → (there ≡ ltb first (count_of props + 2)) × (there ≡ true → first ≡ get_or twos (e.see * 8 + e.val) 0 * 2 + 2)
  unfolding right_at legal_of
  right low below =
      let both = all_at 8 (right_at props e.see) (all_at 8 (λ see. all_below 8 (right_at props see)) (all_right props some few) e.see low) e.val below in
      let (same, at) = (and_says _ _).0 both in
      ((beq_says there (ltb first (count_of props + 2))).0 same, λ is. eqb-true first (get_or twos (e.see * 8 + e.val) 0 * 2 + 2) (given there _ is at))
    where
      given : (a b : Bool) → a ≡ true → So (not a || b) → So b
      given true b h s = s
      given false b h s = absurd (let y : ◌≡◌ {A = ℕ} 0 1 = cc in omega arith)

  -- an event is legal where its cells are within the row
  pub first_legal : there ≡ ltb first (count_of props + 2)
  first_legal = elim (dec_lt e.see 8) [
    | yes low ↦ elim (dec_lt e.val 8) [
      | yes below ↦ (right low below).0
      | no h ↦ unlike (λ l. h (legal_low e props few l).1) (first_ungiven e.see e.val (omega arith) (omega arith))
    ]
    | no h ↦ unlike (λ l. h (legal_low e props few l).0) (first_unseen e.see e.val (omega arith))
  ]
    where
      unlike : (So there → ⊥) → 56 ≡ first → there ≡ ltb first (count_of props + 2)
      unlike un is = not_so there un ∙ sym (le-ltb first (count_of props + 2) (omega (arith, (few_columns props).1)))

  -- and they are those of its columns
  pub first_column : there ≡ true → (c : ℕ) → c ≡ first + only_of e.new 1 → c ≡ 2 + column_of e.see e.val e.new
  unfolding column_of
  first_column is c here = let (low, below) = legal_low e props few is in omega (arith, (right low below).1 is)

-- the cell of an event in a row
pub record Cell (bytes props row : ℕ) (s : Shape) (e : Event) (at : ℕ) : Type 0 where
  pub legal : legal_of e props ≡ true
  pub there : at ≡ row * s.width + 2 + column_of e.see e.val e.new
  pub below : at < bytes

pub cell_there : (bytes props row : ℕ) (s : Shape) (e : Event) → Shaped bytes props s → row < s.rows → (f : ℕ) → f ≡ first_of e.see e.val → f < s.width → (n : ℕ) → n ≡ only_of e.new 1
    → Cell bytes props row s e (row * s.width + f + n)
cell_there bytes props row s e t l f is low n new =
    let held = shape_held bytes props row s t l in
    let within : first_of e.see e.val < count_of props + 2 = omega (arith, t.wide) in
    let legal : legal_of e props ≡ true = first_legal props t.some t.few e ∙ lt-ltb (first_of e.see e.val) (count_of props + 2) within in
    let column : f + n ≡ 2 + column_of e.see e.val e.new = first_column props t.some t.few e legal (f + n) (ap₂ (λ (a b : ℕ). a + b) is new) in
    record {
      legal = legal;
      there = omega (arith, column);
      below = omega (arith, column, held.within, column_low props t.some t.few e legal, t.wide);
    }

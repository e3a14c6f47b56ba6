-- NOTING ONE EVENT MORE IS THE SHEET OF ONE EVENT MORE.
use Rattle.std.specs.Prelude.{ℕ, suc, ◌+◌, ◌-◌, ◌^◌, ◌≤◌, ◌<◌, ◌≡◌, refl, Bool, true, false, cond, eqb, length, get_or, set, replicate}
use Rattle.std.proofs.Common.{zero-le, arith, sym, ap, ap₂, ◌∙◌, length-append, lt-ltb, ne_eqb}
use mathlib.Core.List.{List, [], ◌∷◌, ◌++◌, map, foldl-append, map-append, append_assoc}
use Rattle.answers.specs.declared.Verdict.{Verdict}
use Rattle.answers.specs.declared.Verdict.TheVariants.{Inconclusive}
use Rattle.stretches.specs.declared.Stretch.{Stretch}
use Rattle.stretches.specs.declared.DaySheet.{DaySheet}
use Rattle.stretches.specs.Sheet.{blank, sheet_of, decides, decided_after, one_more, first_line, more_line, begun_by, gone_on_by, noted_by}
use Rattle.stretches.specs.Afresh.{Shown, before, stretches_from, last_verdict, decided_in, line_of, lines_of}

-- numbers have 32 bits
abbrev pub Low : List Shown → Type 0
Low [] = Unit {0}
Low (x ∷ xs) = (x.number < 2 ^ 32) × Low xs

-- ---- a stretch with one event more

decided_more : (g : List Shown) → Low g → (y : Shown) → decided_in (g ++ y ∷ []) ≡ decided_after (decided_in g) y.verdict y.number
unfolding decided_after
decided_more [] low y = refl
decided_more (x ∷ xs) (lx, lxs) y = by (decides x.verdict) (decided_more xs lxs y)
  where
    by : (b : Bool) → decided_in (xs ++ y ∷ []) ≡ decided_after (decided_in xs) y.verdict y.number
        → cond b x.number (decided_in (xs ++ y ∷ [])) ≡ decided_after (cond b x.number (decided_in xs)) y.verdict y.number
    by true rest = rw (lt-ltb x.number (2 ^ 32) lx) refl
    by false rest = rest

line_more : (h : Shown) (t : List Shown) → Low (h ∷ t) → length (h ∷ t) < 2 ^ 32 → (y : Shown) → line_of ((h ∷ t) ++ y ∷ []) ≡ more_line (line_of (h ∷ t)) y.number y.verdict
unfolding one_more
line_more h t low few y =
    let long : length ((h ∷ t) ++ y ∷ []) ≡ length (h ∷ t) + 1 = length-append (h ∷ t) (y ∷ []) in
    let last : last_verdict ((h ∷ t) ++ y ∷ []) ≡ y.verdict = foldl-append (λ v (x : Shown). x.verdict) Inconclusive (h ∷ t) (y ∷ []) in
    rw (long, last, decided_more (h ∷ t) low y, lt-ltb (length (h ∷ t)) (2 ^ 32) few) refl

-- ---- the last stretch of a list, and what one event more makes of the stretches

pub record Last (x : Shown) (ys : List Shown) : Type 0 where
  pub others : List (List Shown)
  pub head : Shown
  pub tail : List Shown
  pub is : stretches_from x ys ≡ others ++ (head ∷ tail) ∷ []
  pub few : length tail ≤ length ys
  pub low : Low (head ∷ tail)
  pub opens : (y : Shown) → y.new ≡ true → stretches_from x (ys ++ y ∷ []) ≡ (others ++ (head ∷ tail) ∷ []) ++ (y ∷ []) ∷ []
  pub goes : (y : Shown) → y.new ≡ false → stretches_from x (ys ++ y ∷ []) ≡ others ++ (head ∷ (tail ++ y ∷ [])) ∷ []

-- an event before a restart is a stretch of its own, any other belongs to the first of those behind it
apart : (x z : Shown) (ws : List Shown) → z.new ≡ true → stretches_from x (z ∷ ws) ≡ (x ∷ []) ∷ stretches_from z ws
unfolding stretches_from
apart x z ws e = ap (λ (b : Bool). cond b ((x ∷ []) ∷ stretches_from z ws) (before x (stretches_from z ws))) e

together : (x z : Shown) (ws : List Shown) → z.new ≡ false → stretches_from x (z ∷ ws) ≡ before x (stretches_from z ws)
unfolding stretches_from
together x z ws e = ap (λ (b : Bool). cond b ((x ∷ []) ∷ stretches_from z ws) (before x (stretches_from z ws))) e

module _ (x z : Shown) (zs : List Shown) (lx : x.number < 2 ^ 32) where
  alone : z.new ≡ true → Last z zs → Last x (z ∷ zs)
  alone e r = record {
    others = (x ∷ []) ∷ r.others;
    head = r.head;
    tail = r.tail;
    is = apart x z zs e ∙ ap (λ (l : List (List Shown)). (x ∷ []) ∷ l) r.is;
    few = omega (arith, r.few);
    low = r.low;
    opens = λ y n. apart x z (zs ++ y ∷ []) e ∙ ap (λ (l : List (List Shown)). (x ∷ []) ∷ l) (r.opens y n);
    goes = λ y n. apart x z (zs ++ y ∷ []) e ∙ ap (λ (l : List (List Shown)). (x ∷ []) ∷ l) (r.goes y n);
  }

  joined : z.new ≡ false → (others : List (List Shown)) (head : Shown) (tail : List Shown) → stretches_from z zs ≡ others ++ (head ∷ tail) ∷ [] → length tail ≤ length zs → Low (head ∷ tail)
      → ((y : Shown) → y.new ≡ true → stretches_from z (zs ++ y ∷ []) ≡ (others ++ (head ∷ tail) ∷ []) ++ (y ∷ []) ∷ [])
      → ((y : Shown) → y.new ≡ false → stretches_from z (zs ++ y ∷ []) ≡ others ++ (head ∷ (tail ++ y ∷ [])) ∷ [])
      → Last x (z ∷ zs)
  joined e [] head tail is few low opens goes = record {
    others = [];
    head = x;
    tail = head ∷ tail;
    is = together x z zs e ∙ ap (before x) is;
    few = omega (arith, few);
    low = (lx, low);
    opens = λ y n. together x z (zs ++ y ∷ []) e ∙ ap (before x) (opens y n);
    goes = λ y n. together x z (zs ++ y ∷ []) e ∙ ap (before x) (goes y n);
  }
  joined e (o ∷ os) head tail is few low opens goes = record {
    others = (x ∷ o) ∷ os;
    head = head;
    tail = tail;
    is = together x z zs e ∙ ap (before x) is;
    few = omega (arith, few);
    low = low;
    opens = λ y n. together x z (zs ++ y ∷ []) e ∙ ap (before x) (opens y n);
    goes = λ y n. together x z (zs ++ y ∷ []) e ∙ ap (before x) (goes y n);
  }

pub last : (x : Shown) (ys : List Shown) → Low (x ∷ ys) → Last x ys
unfolding stretches_from
last x [] (lx, l) = record { others = []; head = x; tail = []; is = refl; few = zero-le; low = (lx, l); opens = λ y n. rw n refl; goes = λ y n. rw n refl }
last x (z ∷ zs) (lx, l) = by z.new refl (last z zs l)
  where
    by : (b : Bool) → z.new ≡ b → Last z zs → Last x (z ∷ zs)
    by true e r = alone x z zs lx e r
    by false e r = joined x z zs lx e r.others r.head r.tail r.is r.few r.low r.opens r.goes

-- ---- a sheet of lines

set_behind : (ls : List Stretch) (x y : Stretch) (zs : List Stretch) → set (ls ++ x ∷ zs) (length ls) y ≡ ls ++ y ∷ zs
set_behind [] x y zs = refl
set_behind (w ∷ ls) x y zs = ap (λ (l : List Stretch). w ∷ l) (set_behind ls x y zs)

get_behind : (ls : List Stretch) (x : Stretch) (zs : List Stretch) → get_or (ls ++ x ∷ zs) (length ls) blank ≡ x
get_behind [] x zs = refl
get_behind (w ∷ ls) x zs = get_behind ls x zs

-- a line behind those of a sheet
pub sheet_begun : (ls : List Stretch) (n : ℕ) (v : Verdict) → length ls < 64 → begun_by (sheet_of ls) n v ≡ sheet_of (ls ++ first_line n v ∷ [])
unfolding begun_by
sheet_begun ls n v room =
    let more : 64 - length ls ≡ suc (64 - length (ls ++ first_line n v ∷ [])) = omega (arith, length-append ls (first_line n v ∷ [])) in
    let rest = replicate (64 - length (ls ++ first_line n v ∷ [])) blank in
    let long : length ls + 1 ≡ length (ls ++ first_line n v ∷ []) = sym (length-append ls (first_line n v ∷ [])) in
    let laid : set (ls ++ replicate (64 - length ls) blank) (length ls) (first_line n v) ≡ (ls ++ first_line n v ∷ []) ++ rest =
    ap (λ (k : ℕ). set (ls ++ replicate k blank) (length ls) (first_line n v)) more ∙ set_behind ls blank (first_line n v) rest ∙ sym (append_assoc ls (first_line n v ∷ []) rest) in
    rw (lt-ltb (length ls) 64 room) (ap₂ (λ (k : ℕ) (l : List Stretch). record { count = k; lines = l }) long laid)

-- the last line of a sheet changed
pub sheet_gone : (ls : List Stretch) (l : Stretch) (n : ℕ) (v : Verdict) → gone_on_by (sheet_of (ls ++ l ∷ [])) n v ≡ sheet_of (ls ++ more_line l n v ∷ [])
unfolding gone_on_by
sheet_gone ls l n v =
    let rest = replicate (64 - length (ls ++ l ∷ [])) blank in
    let at : length (ls ++ l ∷ []) - 1 ≡ length ls = omega (arith, length-append ls (l ∷ [])) in
    let long : length (ls ++ l ∷ []) ≡ length (ls ++ more_line l n v ∷ []) = length-append ls (l ∷ []) ∙ sym (length-append ls (more_line l n v ∷ [])) in
    let whole : (ls ++ l ∷ []) ++ rest ≡ ls ++ l ∷ rest = append_assoc ls (l ∷ []) rest in
    let line : get_or ((ls ++ l ∷ []) ++ rest) (length (ls ++ l ∷ []) - 1) blank ≡ l = rw (at, whole) (get_behind ls l rest) in
    let laid : set ((ls ++ l ∷ []) ++ rest) (length (ls ++ l ∷ []) - 1) (more_line l n v) ≡ (ls ++ more_line l n v ∷ []) ++ rest =
    ap₂ (λ (x : List Stretch) (k : ℕ). set x k (more_line l n v)) whole at ∙ set_behind ls l (more_line l n v) rest ∙ sym (append_assoc ls (more_line l n v ∷ []) rest) in
    rw line (ap₂ (λ (k : ℕ) (x : List Stretch). record { count = k; lines = x }) long (laid ∙ ap (λ (k : ℕ). (ls ++ more_line l n v ∷ []) ++ replicate (64 - k) blank) long))

-- ---- the law

-- how many lines there are where an event comes, by whether it opens a stretch
pub lines_opened : (x : Shown) (xs : List Shown) → Low (x ∷ xs) → (y : Shown) → y.new ≡ true → lines_of (x ∷ (xs ++ y ∷ [])) ≡ lines_of (x ∷ xs) ++ first_line y.number y.verdict ∷ []
lines_opened x xs low y n =
    let r = last x xs low in
    ap (map line_of) (r.opens y n ∙ ap (λ (l : List (List Shown)). l ++ (y ∷ []) ∷ []) (sym r.is)) ∙ map-append line_of (stretches_from x xs) ((y ∷ []) ∷ [])

module _ (x : Shown) (xs : List Shown) (low : Low (x ∷ xs)) where
  abbrev r : Last x xs
  r = last x xs low

  abbrev earlier : List Stretch
  earlier = map line_of r.others

  abbrev latest : Stretch
  latest = line_of (r.head ∷ r.tail)

  lines_are : lines_of (x ∷ xs) ≡ earlier ++ latest ∷ []
  lines_are = ap (map line_of) r.is ∙ map-append line_of r.others ((r.head ∷ r.tail) ∷ [])

  -- there are some
  pub some_lines : 1 ≤ length (lines_of (x ∷ xs))
  some_lines = omega (arith, ap length lines_are, length-append earlier (latest ∷ []))

  pub lines_gone : length xs + 1 < 2 ^ 32 → (y : Shown) → y.new ≡ false → lines_of (x ∷ (xs ++ y ∷ [])) ≡ earlier ++ more_line latest y.number y.verdict ∷ []
  lines_gone few y n =
      ap (map line_of) (r.goes y n) ∙ map-append line_of r.others ((r.head ∷ (r.tail ++ y ∷ [])) ∷ [])
      ∙ ap (λ (l : Stretch). earlier ++ l ∷ []) (line_more r.head r.tail r.low (omega (arith, r.few)) y)

  -- as many as before
  pub same_lines : length xs + 1 < 2 ^ 32 → (y : Shown) → y.new ≡ false → length (lines_of (x ∷ (xs ++ y ∷ []))) ≡ length (lines_of (x ∷ xs))
  same_lines few y n =
      ap length (lines_gone few y n) ∙ length-append earlier (more_line latest y.number y.verdict ∷ []) ∙ sym (ap length lines_are ∙ length-append earlier (latest ∷ []))

-- the first event of a day
pub noted_first : (opens : Bool) (y : Shown) → noted_by (sheet_of []) opens y.number y.verdict ≡ sheet_of (lines_of (y ∷ []))
unfolding noted_by stretches_from
noted_first opens y = sheet_begun [] y.number y.verdict (omega arith)

-- and any other
pub noted_more : (x : Shown) (xs : List Shown) → Low (x ∷ xs) → length xs + 1 < 2 ^ 32 → (y : Shown) → (y.new ≡ true → length (lines_of (x ∷ xs)) < 64)
    → noted_by (sheet_of (lines_of (x ∷ xs))) y.new y.number y.verdict ≡ sheet_of (lines_of (x ∷ (xs ++ y ∷ [])))
unfolding noted_by
noted_more x xs low few y room = by y.new refl
  where
    some : eqb (length (lines_of (x ∷ xs))) 0 ≡ false
    some = let h = some_lines x xs low in ne_eqb (length (lines_of (x ∷ xs))) 0 (λ e. omega arith)

    s : DaySheet
    s = sheet_of (lines_of (x ∷ xs))

    by : (b : Bool) → y.new ≡ b → cond (eqb (length (lines_of (x ∷ xs))) 0) (begun_by s y.number y.verdict) (cond b (begun_by s y.number y.verdict) (gone_on_by s y.number y.verdict))
        ≡ sheet_of (lines_of (x ∷ (xs ++ y ∷ [])))
    by true n = rw some (sheet_begun (lines_of (x ∷ xs)) y.number y.verdict (room n) ∙ ap sheet_of (sym (lines_opened x xs low y n)))
    by false n = rw some (
        ap (λ (l : List Stretch). gone_on_by (sheet_of l) y.number y.verdict) (lines_are x xs low)
        ∙ sheet_gone (earlier x xs low) (latest x xs low) y.number y.verdict ∙ ap sheet_of (sym (lines_gone x xs low few y n))
        )

-- HOW LONG THE TEXT OF A DAY SHEET CAN BE. Whatever stands in a sheet it has 6,080 bytes at most, and 4,800 where the numbers are those of events (day_writer/specs/Promises). Here are two
-- sheets that are as long, `longest` and `longest_counted`, so no smaller bound holds; and that every sheet kept from the opening on is of the second kind, `kept_4800`.
use Rattle.std.specs.Prelude.{ℕ, zero, suc, ◌+◌, ◌*◌, ◌-◌, ◌^◌, ◌≤◌, ◌<◌, ◌≡◌, refl, Bool, true, false, cond, List, [], ◌∷◌, ◌++◌, map, length, get_or, replicate}
use Rattle.std.proofs.Common.{zero-le, arith, suc-mul, sym, ap, ap₂, subst, ◌∙◌, length-append}
use Rattle.std.proofs.lemmas.List.{get_or-replicate}
use Rattle.std.proofs.Math.ListN.{get_or-append}
use Rattle.pairs.specs.declared.Pairs.{Pairs}
use Rattle.model.specs.Sets.{PairSet}
use Rattle.answers.specs.declared.Verdict.TheVariants.{Inconclusive}
use Rattle.plant.specs.declared.Plant.{Plant}
use Rattle.plant.specs.Table.{plant_of}
use Rattle.syntax.specs.declared.Rule.{Rule}
use Rattle.syntax.specs.Value.{formula_of}
use Rattle.event_log.specs.declared.Event.{Event}
use Rattle.checks.specs.Input.{Input}
use Rattle.sides.specs.declared.Monitor.{Monitor}
use Rattle.report.specs.Text.{places_from}
use Rattle.stretches.specs.declared.Stretch.{Stretch}
use Rattle.stretches.specs.declared.DaySheet.{DaySheet}
use Rattle.stretches.specs.Sheet.{blank, sheet_of}
use Rattle.stretches.specs.Afresh.{Shown, before, stretches_from, stretches, first_number, line_of, lines_of}
use Rattle.stretches.proofs.Laws.{Low}
use Rattle.day_sheet.specs.Afresh.{shown_of}
use Rattle.day_sheet.proofs.Promises.{Kept, expected_low, accepted_ones, noted_through, always_kept}
use Rattle.day_writer.specs.Text.{decided_text, line_text, lines_text, sheet_text}
use Rattle.day_writer.specs.Promises.{Counted, at_most_4800}

-- ---- sheets as long as can be

-- 64 times the same line
abbrev full : Stretch → DaySheet
full l = record { count = 64; lines = replicate 64 l }

same_lines : (l : Stretch) (c : ℕ) → length (line_text l) ≡ c → (n k : ℕ) → k ≤ n → length (lines_text (replicate n l) k) ≡ k * c
unfolding lines_text
same_lines l c e n zero few = let none : ◌≡◌ {A = ℕ} 0 (0 * c) = omega arith in none
same_lines l c e n (suc k) few =
    let last = ap (λ (x : Stretch). length (line_text x)) (get_or-replicate n k l blank few) ∙ e in
    length-append (lines_text (replicate n l) k) (line_text (get_or (replicate n l) k blank)) ∙ ap₂ (λ (a b : ℕ). a + b) (same_lines l c e n k (omega arith)) last ∙ sym (suc-mul k c)

-- numbers as words can have them
abbrev pub widest : Stretch
widest = record { first = 18446744073709551615; events = 18446744073709551615; verdict = Inconclusive; decided = 4294967295 }

pub longest : length (sheet_text (full widest)) ≡ 6080
unfolding decided_text places_from
longest = same_lines widest 95 refl 64 64 (omega arith)

-- and as events have them
abbrev pub widest_counted : Stretch
widest_counted = record { first = 4294967295; events = 4294967296; verdict = Inconclusive; decided = 4294967295 }

pub longest_counted : length (sheet_text (full widest_counted)) ≡ 4800
unfolding decided_text places_from
longest_counted = same_lines widest_counted 75 refl 64 64 (omega arith)

-- ---- the numbers of a sheet that is kept are those of events

-- each stretch begins with such a number, and has at most n events
abbrev Few : ℕ → List (List Shown) → Type 0
Few n [] = Unit {0}
Few n (g ∷ gs) = ((first_number g < 2 ^ 32) × (length g ≤ n)) × Few n gs

few_more : (n m : ℕ) → n ≤ m → (gs : List (List Shown)) → Few n gs → Few m gs
few_more n m le [] h = tt
few_more n m le (g ∷ gs) ((low, short), h) = ((low, omega arith), few_more n m le gs h)

few_before : (x : Shown) → x.number < 2 ^ 32 → (n : ℕ) (gs : List (List Shown)) → Few n gs → Few (suc n) (before x gs)
few_before x low n [] h = ((low, omega arith), tt)
few_before x low n (g ∷ gs) ((_, short), h) = ((low, omega arith), few_more n (suc n) (omega arith) gs h)

few_from : (x : Shown) (xs : List Shown) → Low (x ∷ xs) → Few (suc (length xs)) (stretches_from x xs)
unfolding stretches_from
few_from x [] (low, rest) = ((low, omega arith), tt)
few_from x (y ∷ ys) (low, rest) = by y.new (few_from y ys rest)
  where
    by : (b : Bool) → Few (suc (length ys)) (stretches_from y ys) → Few (suc (suc (length ys))) (cond b ((x ∷ []) ∷ stretches_from y ys) (before x (stretches_from y ys)))
    by true h = ((low, omega arith), few_more (suc (length ys)) (suc (suc (length ys))) (omega arith) (stretches_from y ys) h)
    by false h = few_before x low (suc (length ys)) (stretches_from y ys) h

few_all : (xs : List Shown) → Low xs → Few (length xs) (stretches xs)
few_all [] low = tt
few_all (x ∷ xs) low = few_from x xs low

counted_lines : (n : ℕ) → n ≤ 2 ^ 32 → (gs : List (List Shown)) → Few n gs → (i : ℕ) → i < length (map line_of gs) → Counted (get_or (map line_of gs) i blank)
counted_lines n high [] h i low = absurd (omega arith)
counted_lines n high (g ∷ gs) ((first, short), h) zero low = record { first = first; events = omega arith }
counted_lines n high (g ∷ gs) ((first, short), h) (suc i) low = counted_lines n high gs h i (omega arith)

module _ (p : Plant) (fair label next : List ℕ) (rule : Rule) (known : Pairs) where
  -- THE TEXT OF A SHEET THAT IS KEPT has at most 4,800 bytes
  kept_short : (done : List Event) (m : Monitor) (s : DaySheet) → Kept p fair label next rule known done m s → length (sheet_text s) ≤ 4800
  kept_short done m s k = subst (λ (d : DaySheet). length (sheet_text d) ≤ 4800) (sym k.sheet) (at_most_4800 (sheet_of (lines_of xs)) k.room counted)
    where
      xs : List Shown
      xs = shown_of (plant_of p fair label next) (formula_of rule) known.words done

      counted : (i : ℕ) → i < length (lines_of xs) → Counted (get_or (lines_of xs ++ replicate (64 - length (lines_of xs)) blank) i blank)
      counted i low =
          subst Counted (sym (get_or-append (lines_of xs) (replicate (64 - length (lines_of xs)) blank) blank i low))
          (counted_lines (length xs) (omega (arith, k.few, expected_low p fair label next rule known false 0 done zero-le k.taken)) (stretches xs) (few_all xs k.low) i low)

  module _ (given : Input p fair label next rule) (fits : PairSet (plant_of p fair label next) (formula_of rule) known.words) where
    -- whatever events come, those that are refused among them
    pub kept_4800 : (es : List Event) → length (sheet_text (noted_through p fair label next rule known es).sheet) ≤ 4800
    kept_4800 es = kept_short (accepted_ones p fair label next rule known es) (noted_through p fair label next rule known es).monitor (noted_through p fair label next rule known es).sheet (always_kept p fair label next rule known given fits es)

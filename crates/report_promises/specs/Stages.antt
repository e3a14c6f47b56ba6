-- The readers of a report's lines, one behind the other: what was read is a report so far, and where the text leaves it, what was read begins one.
use Rattle.std.specs.Prelude.{ℕ, ◌≤◌, ◌≡◌, ◌⊎◌, Bool, cond, eqb, length, get_or}
use Rattle.std.proofs.Common.{arith, sym, ◌∙◌}
use Rattle.std.proofs.Math.Path.{refl, ap, subst}
use Rattle.std.proofs.Math.Bool.{true, false}
use mathlib.Core.List.{List, [], ◌++◌, append_assoc, append-nil}
use Rattle.report_text.specs.declared.Cursor.{Cursor}
use Rattle.report_text.specs.Form.{cursor, word_from, claim_key, verdict_word, claim_by, verdict_from, claim_of, stem_key, loop_key, lf, refused_line, shown_run, missing, run_line, run_of, keeps_key, breaks_key}
use Rattle.report_promises.specs.Walk.{IsList, kind_key}
use Rattle.report_promises.specs.ReportForm.{Line, run, left_out, text_of, Fine, Begins}
use Rattle.report_promises.specs.Reading.{begins_less, Ends, on, off, word_stays, list_stays, word_reads, and_then}

-- a beginning of what begins a report
pub less : (a b whole : List ℕ) → whole ≡ a ++ b → Begins whole → Begins a
less a b whole e v = begins_less a b (subst Begins e v)

-- ---- a run's line

abbrev pub LineText : Bool → List ℕ → Type 0
LineText keeps x = (line : Line) × Fine line × (x ≡ text_of keeps line)

pub shown_stays : (s : List ℕ) (i : ℕ) → (shown_run s (cursor false i)).next ≡ cursor false i
unfolding shown_run
shown_stays s i = rw (word_stays s i stem_key, list_stays s i, word_stays s i loop_key, list_stays s i) (word_stays s i lf)

module _ (s : List ℕ) (keeps : Bool) (p : List ℕ) (begins : (line : Line) → Fine line → Begins (p ++ text_of keeps line)) where
  abbrev pub q : List ℕ
  q = p ++ kind_key keeps

  abbrev pub Stem : List ℕ → Type 0
  Stem x = (stem : List ℕ) × IsList stem × (x ≡ stem_key ++ stem)

  abbrev pub StemLoop : List ℕ → Type 0
  StemLoop x = (stem : List ℕ) × IsList stem × (x ≡ stem_key ++ (stem ++ loop_key))

  abbrev pub Both : List ℕ → Type 0
  Both x = (stem : List ℕ) × (turn : List ℕ) × IsList stem × IsList turn × (x ≡ stem_key ++ (stem ++ (loop_key ++ turn)))

  abbrev pub Whole : List ℕ → Type 0
  Whole x = (stem : List ℕ) × (turn : List ℕ) × IsList stem × IsList turn × (x ≡ stem_key ++ (stem ++ (loop_key ++ (turn ++ lf))))

  -- behind the kind: a run, or none
  abbrev pub behind_kind : Cursor → Cursor
  behind_kind c = (cond (eqb (get_or s c.at 0) 114) (missing (word_from s c refused_line)) (shown_run s c)).next

  abbrev pub Behind : List ℕ → Type 0
  Behind x = Whole x ⊎ (x ≡ refused_line)

pub run_stays : (s : List ℕ) (keeps : Bool) (i : ℕ) → (run_of s (cursor false i) (kind_key keeps)).next ≡ cursor false i
unfolding run_of run_line
run_stays s keeps i = by (eqb (get_or s i 0) (get_or (kind_key keeps) 0 0)) (eqb (get_or s (word_from s (cursor false i) (kind_key keeps)).at 0) 114)
  where
    by : (t u : Bool) → (cond t (cond u (missing (word_from s (word_from s (cursor false i) (kind_key keeps)) refused_line)) (shown_run s (word_from s (cursor false i) (kind_key keeps)))) (missing (cursor false i))).next ≡ cursor false i
    by true true = ap (λ (c : Cursor). word_from s c refused_line) (word_stays s i (kind_key keeps)) ∙ word_stays s i refused_line
    by true false = ap (λ (c : Cursor). (shown_run s c).next) (word_stays s i (kind_key keeps)) ∙ shown_stays s i
    by false u = refl

-- ---- the claim

abbrev pub ClaimText : List ℕ → Type 0
ClaimText x = (claim : ℕ) × (claim ≤ 3) × (x ≡ claim_key ++ verdict_word claim)

claim_few : (b : ℕ) → claim_by b ≤ 3
unfolding claim_by
claim_few b = by (eqb b 105) (eqb b 116) (eqb b 102)
  where
    by : (x y z : Bool) → cond x 0 (cond y 1 (cond z 2 3)) ≤ 3
    by true y z = omega arith
    by false true z = omega arith
    by false false true = omega arith
    by false false false = omega arith

-- a claim begins a report, whatever lines come
pub claim_begins : (claim : ℕ) → claim ≤ 3 → (k b : Line) → Fine k → Fine b → (a rest : List ℕ) → claim_key ++ (verdict_word claim ++ (text_of true k ++ text_of false b)) ≡ a ++ rest → Begins a
claim_begins claim few k b fk fb a rest e = record { rest = rest; report = record { claim = claim; few = few; keeping = k; breaking = b; keeps = fk; breaks = fb; is = sym e } }

pub claim_reads : (s : List ℕ) → Ends ClaimText [] s (claim_of s).next
unfolding claim_of verdict_from
claim_reads s =
    and_then s {N = λ x. x ≡ claim_key} {M = λ x. (claim : ℕ) × (claim ≤ 3) × (x ≡ verdict_word claim)} (λ c. word_from s c (verdict_word (claim_by (get_or s c.at 0)))) refl
    (λ i. word_stays s i (verdict_word (claim_by (get_or s i 0))))
    (word_reads s claim_key [] s refl (claim_begins 3 (omega arith) left_out left_out tt tt claim_key (verdict_word 3) refl))
    (λ w rest n t.
    let claim = claim_by (get_or s (length w) 0) in
    let few = claim_few (get_or s (length w) 0) in
    worded claim few (word_reads s (verdict_word claim) w rest t (claim_begins claim few left_out left_out tt tt (w ++ verdict_word claim) [] (rw (n, append-nil) refl))))
    (λ w x n (claim, few, e). (claim, few, rw (n, e) refl))
  where
    worded : (claim : ℕ) → claim ≤ 3 → {a r : List ℕ} {c : Cursor} → Ends (λ x. x ≡ verdict_word claim) a r c → Ends (λ x. (claim : ℕ) × (claim ≤ 3) × (x ≡ verdict_word claim)) a r c
    worded claim few (on w rest n e is) = on w rest (claim, few, n) e is
    worded claim few (off w rest v e is) = off w rest v e is

-- ---- the text

pub joined : (v k b : List ℕ) → ((claim_key ++ v) ++ k) ++ b ≡ claim_key ++ (v ++ (k ++ b))
joined v k b = ap (λ (l : List ℕ). claim_key ++ l) (append_assoc v k b)

-- the cursor behind both lines
abbrev pub behind_all : List ℕ → Cursor
behind_all s = (run_of s (run_of s (claim_of s).next keeps_key).next breaks_key).next

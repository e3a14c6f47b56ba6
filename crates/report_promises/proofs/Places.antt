-- The claim of ReportForm proved: what is a report is read as one, and any other text is refused where it stops to begin one.
use Rattle.std.specs.Prelude.{ℕ, suc, ◌+◌, ◌≤◌, ◌<◌, ◌≡◌, refl, Bool, true, false, ◌&&◌, List, [], ◌∷◌, ◌++◌, eqb, length, get_or, take, drop, Result, Ok, Err}
use Rattle.std.proofs.Common.{arith, sym, ap, subst, ◌∙◌, append_assoc, append-nil, length-append, length-drop, take-append-drop, length-take-le, eq-eqb, ne_eqb, eqb-true}
use Rattle.std.proofs.lemmas.Bool.{false≢true}
use Rattle.std.proofs.Math.Seq.{take-append_seam}
use Rattle.report_text.specs.declared.Cursor.{Cursor}
use Rattle.report_text.specs.declared.ReportParts.{ReportParts}
use Rattle.report_text.specs.Form.{cursor, claim_key, verdict_word, claimed, stem_key, loop_key, lf, refused_line, run_of, breaks_key, parts_of, report_read}
use Rattle.report_text.proofs.Whole.{read_is}
use Rattle.report_promises.specs.Walk.{past, kind_key, Through, run_through, no_run_through, left_out_through, claim_through}
use Rattle.report_promises.specs.ReportForm.{Line, run, no_run, left_out, text_of, Fine, IsReport, Begins, ReadRight, is_report, refused, PlaceRight}
use Rattle.report_promises.specs.Reading.{Ends, on, off}
use Rattle.report_promises.specs.Stages.{behind_all}
use Rattle.report_promises.proofs.Stages.{report_reads}
use Rattle.report_promises.specs.Local.{ends_same}

-- ---- a report is read as one

abbrev stem_text : Line → List ℕ
stem_text (run stem turn) = stem
stem_text no_run = []
stem_text left_out = []

abbrev loop_text : Line → List ℕ
loop_text (run stem turn) = turn
loop_text no_run = []
loop_text left_out = []

taken_apart : (keeps : Bool) (stem turn rest : List ℕ) → text_of keeps (run stem turn) ++ rest ≡ kind_key keeps ++ (stem_key ++ (stem ++ (loop_key ++ (turn ++ 10 ∷ rest))))
taken_apart keeps stem turn rest =
    append_assoc (kind_key keeps) (stem_key ++ (stem ++ (loop_key ++ (turn ++ lf)))) rest
    ∙ ap (λ (l : List ℕ). kind_key keeps ++ (stem_key ++ l)) (append_assoc stem (loop_key ++ (turn ++ lf)) rest ∙ ap (λ (l : List ℕ). stem ++ (loop_key ++ l)) (append_assoc turn lf rest))

line_found : (s : List ℕ) (i : ℕ) (keeps : Bool) (line : Line) (rest : List ℕ) → Fine line → i ≤ length s
    → eqb (get_or rest 0 0) (get_or (kind_key keeps) 0 0) ≡ false → drop i s ≡ text_of keeps line ++ rest → Through s i keeps (stem_text line) (loop_text line) rest
line_found s i keeps (run stem turn) rest (is, it) low another e = run_through s i keeps stem turn rest is it (e ∙ taken_apart keeps stem turn rest)
line_found s i keeps no_run rest fine low another e = no_run_through s i keeps rest (e ∙ append_assoc (kind_key keeps) refused_line rest)
line_found s i keeps left_out rest fine low another e = left_out_through s i keeps rest low another e

another_letter : (breaking : Line) → eqb (get_or (text_of false breaking) 0 0) (get_or (kind_key true) 0 0) ≡ false
another_letter (run stem turn) = refl
another_letter no_run = refl
another_letter left_out = refl

found : (s : List ℕ) → IsReport s → (p : ReportParts) × (report_read s ≡ Ok p)
found s x = (
  parts_of (claimed x.claim (cursor true c)) K.read B.read,
  sym (read_is s (claimed x.claim (cursor true c)) K.read B.read true (claim_through s x.claim x.few lines x.is) K.is
      (B.is ∙ ap (λ (y : Cursor). run_of s y breaks_key) (sym K.next)) whole),
)
  where
    lines : List ℕ
    lines = text_of true x.keeping ++ text_of false x.breaking

    c : ℕ
    c = 6 + length (verdict_word x.claim)

    at_c : drop c s ≡ lines
    at_c = past s (verdict_word x.claim) lines 6 (past s claim_key _ 0 x.is)

    low_c : c ≤ length s
    low_c = omega (arith, ap length x.is, length-append claim_key (verdict_word x.claim ++ lines), length-append (verdict_word x.claim) lines)

    K : Through s c true (stem_text x.keeping) (loop_text x.keeping) (text_of false x.breaking)
    K = line_found s c true x.keeping (text_of false x.breaking) x.keeps low_c (another_letter x.breaking) at_c

    B : Through s K.place false (stem_text x.breaking) (loop_text x.breaking) []
    B = line_found s K.place false x.breaking [] x.breaks K.within refl (K.behind ∙ sym (append-nil (text_of false x.breaking)))

    ends_there : B.place ≡ length s
    ends_there = omega (arith, B.within, length-drop B.place s, ap length B.behind)

    whole : (B.read.next.ok && eqb B.read.next.at (length s)) ≡ true
    whole = rw (B.next, ends_there) (eq-eqb (length s) (length s) refl)

-- ---- any text

is_bad : Result ReportParts ℕ → Bool
is_bad (Ok p) = false
is_bad (Err i) = true

-- a report is not refused
not_both : (s : List ℕ) (i : ℕ) → report_read s ≡ Err i → IsReport s → ⊥
unfolding is_bad
not_both s i e x = let (p, is) = found s x in false≢true (ap is_bad (sym is ∙ e))

-- the answer, by where the reader ends
bad_by : (s : List ℕ) (ok : Bool) (i : ℕ) → behind_all s ≡ cursor ok i → (ok && eqb i (length s)) ≡ false → report_read s ≡ Err i
unfolding report_read
bad_by s ok i e no_end = rw (e, no_end) refl

and-false : (b : Bool) → (b && false) ≡ false
and-false true = refl
and-false false = refl

-- with the byte at which the reader stays, no text begins a report
no_further : (s : List ℕ) (ok : Bool) (i : ℕ) → behind_all s ≡ cursor ok i → i < length s → Begins (take (suc i) s) → ⊥
no_further s ok i e low v = not_both (P ++ v.rest) i (bad_by (P ++ v.rest) ok i there beyond) v.report
  where
    P : List ℕ
    P = take (suc i) s

    long : length P ≡ suc i
    long = length-take-le (suc i) s (omega arith)

    whole : P ++ drop (suc i) s ≡ s
    whole = take-append-drop (suc i) s

    here : behind_all (P ++ drop (suc i) s) ≡ cursor ok i
    here = ap behind_all whole ∙ e

    there : behind_all (P ++ v.rest) ≡ cursor ok i
    there = sym (ends_same P (drop (suc i) s) v.rest (subst (λ (c : Cursor). c.at < length P) (sym here) (omega (arith, long)))) ∙ here

    beyond : (ok && eqb i (length (P ++ v.rest))) ≡ false
    beyond = ap (λ (b : Bool). ok && b) (ne_eqb i (length (P ++ v.rest)) (λ z. omega (arith, z, long, length-append P v.rest))) ∙ and-false ok

-- so a text is refused behind its longest beginning
refused_at_lem : (s w rest : List ℕ) (ok : Bool) → s ≡ w ++ rest → Begins w → behind_all s ≡ cursor ok (length w) → (ok && eqb (length w) (length s)) ≡ false → ReadRight s (report_read s)
refused_at_lem s w rest ok text v e no_end =
    let bad = bad_by s ok (length w) e no_end in
    subst (ReadRight s) (sym bad) (refused (record {
      no_report = not_both s (length w) bad;
      within = omega (arith, ap length text, length-append w rest);
      begins = subst Begins (sym (ap (take (length w)) text ∙ take-append_seam w rest)) v;
      stops = no_further s ok (length w) e;
    }))

empty : (l : List ℕ) → length l ≡ 0 → l ≡ []
empty [] z = refl
empty (y ∷ l) z = absurd (omega arith)

-- WHAT IS A REPORT IS READ AS ONE, AND ANY OTHER TEXT IS REFUSED AT THE FIRST BYTE THAT CAN'T BE RIGHT
pub place_right : PlaceRight
place_right s = by (report_reads s)
  where
    by : Ends IsReport [] s (behind_all s) → ReadRight s (report_read s)
    by (off w rest v text e) = refused_at_lem s w rest false text v e refl
    by (on w rest x text e) = to_end (eqb (length w) (length s)) refl
      where
        to_end : (t : Bool) → eqb (length w) (length s) ≡ t → ReadRight s (report_read s)
        to_end false h = refused_at_lem s w rest true text (record { rest = []; report = subst IsReport (sym (append-nil w)) x }) e h
        to_end true h =
            let none : rest ≡ [] = empty rest (omega (arith, eqb-true (length w) (length s) h, ap length text, length-append w rest)) in
            let all : s ≡ w = text ∙ ap (λ (l : List ℕ). w ++ l) none ∙ append-nil w in
            let report : IsReport s = subst IsReport (sym all) x in
            subst (ReadRight s) (sym (found s report).1) (is_report report)

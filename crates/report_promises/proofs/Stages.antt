-- More of specs/Stages. The readers of a report's lines, one behind the other: what was read is a report so far, and where the text leaves it, what was read begins one.
use Rattle.std.specs.Prelude.{ℕ, ◌≡◌, Bool, cond, eqb, length, get_or}
use Rattle.std.proofs.Common.{sym, ◌∙◌, inr}
use Rattle.std.proofs.Math.Path.{refl, ap, subst}
use Rattle.std.proofs.Math.Logic.{inl}
use Rattle.std.proofs.Math.Bool.{true, false}
use mathlib.Core.List.{List, [], ◌++◌, append_assoc, append-nil}
use Rattle.report_text.specs.declared.Cursor.{Cursor}
use Rattle.report_text.specs.Form.{cursor, word_from, list_of, verdict_word, stem_key, loop_key, lf, refused_line, shown_run, missing, run_line, run_of, keeps_key, breaks_key}
use Rattle.report_promises.specs.Walk.{IsList, kind_key}
use Rattle.report_promises.specs.ReportForm.{Line, run, no_run, left_out, text_of, Fine, IsReport, Begins}
use Rattle.report_promises.specs.Reading.{Ends, on, off, word_stays, list_stays, word_reads, list_reads, and_then}
use Rattle.report_promises.specs.Stages.{ClaimText, LineText, behind_all, claim_begins, claim_reads, joined, less, run_stays, shown_stays}
use Rattle.report_promises.specs.Stages as of_stages

module _ (s : List ℕ) (keeps : Bool) (p : List ℕ) (begins : (line : Line) → Fine line → Begins (p ++ text_of keeps line)) where
  abbrev q : List ℕ
  q = of_stages.q s keeps p begins

  abbrev Stem : List ℕ → Type 0
  Stem = of_stages.Stem s keeps p begins

  abbrev StemLoop : List ℕ → Type 0
  StemLoop = of_stages.StemLoop s keeps p begins

  abbrev Both : List ℕ → Type 0
  Both = of_stages.Both s keeps p begins

  abbrev Whole : List ℕ → Type 0
  Whole = of_stages.Whole s keeps p begins

  shown_reads : (r : List ℕ) → s ≡ q ++ r → Ends Whole q r (shown_run s (cursor true (length q))).next
  unfolding shown_run
  shown_reads r text =
      and_then s {N = Both} {M = λ x. x ≡ lf} (λ c. word_from s c lf) text (λ i. word_stays s i lf)
      (and_then s {N = StemLoop} {M = IsList} (λ c. list_of s c) text (λ i. list_stays s i)
      (and_then s {N = Stem} {M = λ x. x ≡ loop_key} (λ c. word_from s c loop_key) text (λ i. word_stays s i loop_key)
      (and_then s {N = λ x. x ≡ stem_key} {M = IsList} (λ c. list_of s c) text (λ i. list_stays s i)
      (word_reads s stem_key q r text (less (q ++ stem_key) (loop_key ++ lf) (p ++ text_of keeps (run [] [])) (simp append_assoc) (begins (run [] []) (inl refl, inl refl))))
      (λ w rest n t. list_reads s (q ++ w) rest t (λ l il. less ((q ++ w) ++ l) (loop_key ++ lf) (p ++ text_of keeps (run l [])) (rw n (simp append_assoc)) (begins (run l []) (il, inl refl))))
      (λ w x n m. (x, m, ap (λ (l : List ℕ). l ++ x) n)))
      (λ w rest (stem, is, n) t. word_reads s loop_key (q ++ w) rest t (less ((q ++ w) ++ loop_key) lf (p ++ text_of keeps (run stem [])) (rw n (simp append_assoc)) (begins (run stem []) (is, inl refl))))
      (λ w x (stem, is, n) m. (stem, is, rw (n, m) refl)))
      (λ w rest (stem, is, n) t. list_reads s (q ++ w) rest t (λ l il. less ((q ++ w) ++ l) lf (p ++ text_of keeps (run stem l)) (rw n (simp append_assoc)) (begins (run stem l) (is, il))))
      (λ w x (stem, is, n) m. (stem, x, is, m, rw n (simp append_assoc))))
      (λ w rest (stem, turn, is, it, n) t. word_reads s lf (q ++ w) rest t (less ((q ++ w) ++ lf) [] (p ++ text_of keeps (run stem turn)) (rw (n, append-nil) (simp append_assoc)) (begins (run stem turn) (is, it))))
      (λ w x (stem, turn, is, it, n) m. (stem, turn, is, it, rw (n, m) (ap (λ (l : List ℕ). stem_key ++ l) (append_assoc stem (loop_key ++ turn) lf))))

  abbrev behind_kind : Cursor → Cursor
  behind_kind = of_stages.behind_kind s keeps p begins

  kind_stays : (i : ℕ) → behind_kind (cursor false i) ≡ cursor false i
  kind_stays i = by (eqb (get_or s i 0) 114)
    where
      by : (t : Bool) → (cond t (missing (word_from s (cursor false i) refused_line)) (shown_run s (cursor false i))).next ≡ cursor false i
      by true = word_stays s i refused_line
      by false = shown_stays s i

  abbrev Behind : List ℕ → Type 0
  Behind = of_stages.Behind s keeps p begins

  either : {N M : List ℕ → Type 0} {a r : List ℕ} {c : Cursor} → ((x : List ℕ) → N x → M x) → Ends N a r c → Ends M a r c
  either f (on w rest n e is) = on w rest (f w n) e is
  either f (off w rest v e is) = off w rest v e is

  behind_reads : (r : List ℕ) → s ≡ q ++ r → Ends Behind q r (behind_kind (cursor true (length q)))
  behind_reads r text = by (eqb (get_or s (length q) 0) 114)
    where
      by : (t : Bool) → Ends Behind q r (cond t (missing (word_from s (cursor true (length q)) refused_line)) (shown_run s (cursor true (length q)))).next
      by true = either (λ x e. inr e) (word_reads s refused_line q r text (less (q ++ refused_line) [] (p ++ text_of keeps no_run) (rw append-nil (sym (append_assoc p (kind_key keeps) refused_line))) (begins no_run tt)))
      by false = either (λ x h. inl h) (shown_reads r text)

  line_of : (x : List ℕ) → Behind x → LineText keeps (kind_key keeps ++ x)
  line_of x (inl (stem, turn, is, it, e)) = (run stem turn, (is, it), ap (λ (l : List ℕ). kind_key keeps ++ l) e)
  line_of x (inr e) = (no_run, tt, ap (λ (l : List ℕ). kind_key keeps ++ l) e)

  line_reads : (r : List ℕ) → s ≡ p ++ r → Ends (LineText keeps) p r (run_line s (cursor true (length p)) (kind_key keeps)).next
  unfolding run_line
  line_reads r text =
      and_then s {N = λ x. x ≡ kind_key keeps} {M = Behind} behind_kind text kind_stays
      (word_reads s (kind_key keeps) p r text (less q refused_line (p ++ text_of keeps no_run) (sym (append_assoc p (kind_key keeps) refused_line)) (begins no_run tt)))
      (λ w rest n t. subst (λ (x : List ℕ). Ends Behind (p ++ x) rest (behind_kind (cursor true (length (p ++ x))))) (sym n) (behind_reads rest (subst (λ (x : List ℕ). s ≡ (p ++ x) ++ rest) n t)))
      (λ w x n m. subst (λ (y : List ℕ). LineText keeps (y ++ x)) (sym n) (line_of x m))

  -- a line that may be missing
  run_reads : (r : List ℕ) → s ≡ p ++ r → Ends (LineText keeps) p r (run_of s (cursor true (length p)) (kind_key keeps)).next
  unfolding run_of
  run_reads r text = by (eqb (get_or s (length p) 0) (get_or (kind_key keeps) 0 0))
    where
      by : (t : Bool) → Ends (LineText keeps) p r (cond t (run_line s (cursor true (length p)) (kind_key keeps)) (missing (cursor true (length p)))).next
      by true = line_reads r text
      by false = on [] r (left_out, tt, refl) refl (ap (λ (l : List ℕ). cursor true (length l)) (sym (append-nil p)))

pub report_reads : (s : List ℕ) → Ends IsReport [] s (behind_all s)
report_reads s =
    and_then s {N = ClaimKeeps} {M = LineText false} (λ c. (run_of s c breaks_key).next) refl (λ i. run_stays s false i)
    (and_then s {N = ClaimText} {M = LineText true} (λ c. (run_of s c keeps_key).next) refl (λ i. run_stays s true i) (claim_reads s)
    (λ w rest (claim, few, n) t. run_reads s true w (λ line fine. claim_begins claim few line left_out fine tt (w ++ text_of true line) [] (rw n (simp (append_assoc, append-nil)))) rest t)
    (λ w x n m. (w, x, n, m, refl)))
    (λ w rest (a, k, (claim, few, n), (line, fine, m), e) t.
    run_reads s false w (λ other fine'. claim_begins claim few line other fine fine' (w ++ text_of false other) [] (rw (e, n, m) (sym (joined (verdict_word claim) (text_of true line) (text_of false other)) ∙ sym (append-nil _)))) rest t)
    (λ w x (a, k, (claim, few, n), (line, fine, m), e) (other, fine', m').
    record { claim = claim; few = few; keeping = line; breaking = other; keeps = fine; breaks = fine'; is = rw (e, n, m, m') (joined (verdict_word claim) (text_of true line) (text_of false other)) })
  where
    ClaimKeeps : List ℕ → Type 0
    ClaimKeeps x = (a : List ℕ) × (k : List ℕ) × ClaimText a × LineText true k × (x ≡ a ++ k)

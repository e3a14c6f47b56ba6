-- What is written as a report is read back: the claim of Sent proved.
use Prim.Native.Nat.{ℕ, zero, suc, ◌+◌, ◌≤◌}
use Rattle.std.proofs.Common.{arith, ◌∙◌, inl, inr, length-append, length-drop, take-suc, eq-eqb, ne_eqb, eqb-true}
use Rattle.std.specs.Prelude.{◌≡◌, Bool, true, ◌&&◌, cond, eqb, length, get_or, take, drop}
use Rattle.std.proofs.Math.Path.{refl, sym, ap, ap₂, subst}
use Rattle.std.proofs.Math.Bool.{false, So}
use Rattle.std.proofs.lemmas.Bool.{false≢true}
use mathlib.Core.List.{List, [], ◌∷◌, ◌++◌, append_assoc, append-nil}
use Rattle.std.proofs.Math.Seq.{take-length}
use Rattle.words.specs.Below.{all_below}
use Rattle.words.specs.Folds.{all_at}
use Rattle.answers.specs.declared.Verdict.{Verdict}
use Rattle.answers.specs.declared.Verdict.TheVariants.{Inconclusive, True, False, OutOfModel}
use Rattle.answers.specs.Paper.{number_of}
use Rattle.report.specs.Text.{places_from, decimal, word, lf, states_text}
use Rattle.report_text.specs.declared.Cursor.{Cursor}
use Rattle.report_text.specs.Form.{cursor, claim_key, verdict_word, claimed, stem_key, loop_key, refused_line, run_of, breaks_key, parts_of}
use Rattle.report_text.specs.States.{with_digit, ends, states_from, states_of}
use Rattle.report_text.proofs.Whole.{read_is}
use Rattle.report_promises.specs.Sent.{Line, run, no_run, left_out, line_text, stem_of, loop_of, Bytes, report_text, Shows, ReadBack}
use Rattle.report_promises.specs.Walk.{past, through, through_append, IsList, kind_key, Through, run_through, no_run_through, left_out_through, claim_through}

-- ---- states

-- a list that holds this number alone
alone : ℕ → List ℕ → Bool
alone n [] = false
alone n (x ∷ []) = eqb x n
alone n (x ∷ y ∷ l) = false

alone_is : (n : ℕ) (l : List ℕ) → So (alone n l) → l ≡ n ∷ []
unfolding alone
alone_is n [] h = absurd (false≢true h)
alone_is n (x ∷ []) h = ap (λ (k : ℕ). k ∷ []) (eqb-true x n h)
alone_is n (x ∷ y ∷ l) h = absurd (false≢true h)

-- each number that a byte holds is a list by itself, and is read back: tried out one by one
numbers_go : So (all_below 256 (λ n. through false (decimal n)))
unfolding all_below through places_from
numbers_go = refl

numbers_back : So (all_below 256 (λ n. alone n (states_from 0 (decimal n))))
unfolding all_below alone places_from states_from with_digit
numbers_back = refl

number_goes : (n : ℕ) → n ≤ 255 → So (through false (decimal n))
number_goes n h = all_at 256 (λ n. through false (decimal n)) numbers_go n (omega arith)

number_back : (n : ℕ) → n ≤ 255 → states_from 0 (decimal n) ≡ n ∷ []
number_back n h = alone_is n (states_from 0 (decimal n)) (all_at 256 (λ n. alone n (states_from 0 (decimal n))) numbers_back n (omega arith))

-- a comma ends a number
states_append : (n : ℕ) (a b : List ℕ) → states_from n (a ++ 44 ∷ b) ≡ states_from n a ++ states_from 0 b
unfolding states_from
states_append n [] b = refl
states_append n (x ∷ a) b = by (ends x) (states_append 0 a b) (states_append (with_digit n x) a b)
  where
    by : (t : Bool) → states_from 0 (a ++ 44 ∷ b) ≡ states_from 0 a ++ states_from 0 b → states_from (with_digit n x) (a ++ 44 ∷ b) ≡ states_from (with_digit n x) a ++ states_from 0 b
        → cond t (n ∷ states_from 0 (a ++ 44 ∷ b)) (states_from (with_digit n x) (a ++ 44 ∷ b)) ≡ cond t (n ∷ states_from 0 a) (states_from (with_digit n x) a) ++ states_from 0 b
    by true e g = ap (λ (l : List ℕ). n ∷ l) e
    by false e g = g

module _ (states : List ℕ) (small : Bytes states) where
  -- one state more, behind a comma
  one_more : (k : ℕ) → states_text (suc (suc k)) states ≡ states_text (suc k) states ++ 44 ∷ decimal (get_or states (suc k) 0)
  unfolding states_text
  one_more k = rw (ne_eqb (suc k) 0 (λ e. omega arith)) refl

  states_go : (k : ℕ) → suc k ≤ length states → So (through false (states_text (suc k) states))
  unfolding states_text through
  states_go zero l = number_goes (get_or states 0 0) (small 0 (omega arith))
  states_go (suc k) l =
      subst (λ (t : List ℕ). So (through false t)) (sym (one_more k))
      (through_append false (states_text (suc k) states) (44 ∷ decimal (get_or states (suc k) 0)) (states_go k (omega arith)) (number_goes (get_or states (suc k) 0) (small (suc k) (omega arith))))

  states_back : (k : ℕ) → suc k ≤ length states → states_from 0 (states_text (suc k) states) ≡ take (suc k) states
  unfolding states_text
  states_back zero l = number_back (get_or states 0 0) (small 0 (omega arith)) ∙ sym (take-suc states 0 0 (omega arith))
  states_back (suc k) l =
      ap (states_from 0) (one_more k) ∙ states_append 0 (states_text (suc k) states) (decimal (get_or states (suc k) 0))
      ∙ ap₂ (λ (a b : List ℕ). a ++ b) (states_back k (omega arith)) (number_back (get_or states (suc k) 0) (small (suc k) (omega arith)))
      ∙ sym (take-suc states (suc k) 0 (omega arith))

abbrev list_text : List ℕ → List ℕ
list_text states = states_text (length states) states

is_list : (states : List ℕ) → Bytes states → IsList (list_text states)
unfolding states_text
is_list [] small = inl refl
is_list (x ∷ states) small = inr (states_go (x ∷ states) small (length states) (omega arith))

some_states : (l : List ℕ) → So (through false l) → states_of l ≡ states_from 0 l
unfolding states_of through
some_states [] h = absurd (false≢true h)
some_states (b ∷ l) h = refl

list_back : (states : List ℕ) → Bytes states → states_of (list_text states) ≡ states
unfolding states_text states_of
list_back [] small = refl
list_back (x ∷ states) small =
    some_states (list_text (x ∷ states)) (states_go (x ∷ states) small (length states) (omega arith)) ∙ states_back (x ∷ states) small (length states) (omega arith) ∙ take-length (x ∷ states)

-- ---- lines

-- a run's text, taken apart as the reader takes it
run_text_lem : (keeps : Bool) (stem turn rest : List ℕ) → line_text keeps (run stem turn) ++ rest ≡ kind_key keeps ++ (stem_key ++ (list_text stem ++ (loop_key ++ (list_text turn ++ 10 ∷ rest))))
run_text_lem true stem turn rest = simp append_assoc
run_text_lem false stem turn rest = simp append_assoc

no_run_text_lem : (keeps : Bool) (rest : List ℕ) → line_text keeps no_run ++ rest ≡ kind_key keeps ++ (refused_line ++ rest)
unfolding places_from
no_run_text_lem true rest = refl
no_run_text_lem false rest = refl

-- the texts of a line's lists
abbrev stem_text : Line → List ℕ
stem_text (run stem turn) = list_text stem
stem_text no_run = []
stem_text left_out = []

abbrev loop_text : Line → List ℕ
loop_text (run stem turn) = list_text turn
loop_text no_run = []
loop_text left_out = []

line_through : (s : List ℕ) (i : ℕ) (keeps : Bool) (line : Line) (rest : List ℕ) → Bytes (stem_of line) → Bytes (loop_of line) → i ≤ length s
    → eqb (get_or rest 0 0) (get_or (kind_key keeps) 0 0) ≡ false → drop i s ≡ line_text keeps line ++ rest → Through s i keeps (stem_text line) (loop_text line) rest
line_through s i keeps (run stem turn) rest small-stem small-turn low another e =
    run_through s i keeps (list_text stem) (list_text turn) rest (is_list stem small-stem) (is_list turn small-turn) (e ∙ run_text_lem keeps stem turn rest)
line_through s i keeps no_run rest small-stem small-turn low another e = no_run_through s i keeps rest (e ∙ no_run_text_lem keeps rest)
line_through s i keeps left_out rest small-stem small-turn low another e = left_out_through s i keeps rest low another e

stem_back : (line : Line) → Bytes (stem_of line) → states_of (stem_text line) ≡ stem_of line
unfolding states_of
stem_back (run stem turn) small = list_back stem small
stem_back no_run small = refl
stem_back left_out small = refl

loop_back : (line : Line) → Bytes (loop_of line) → states_of (loop_text line) ≡ loop_of line
unfolding states_of
loop_back (run stem turn) small = list_back turn small
loop_back no_run small = refl
loop_back left_out small = refl

shown : {s : List ℕ} {i : ℕ} {keeps : Bool} {rest : List ℕ} (line : Line) → Bytes (stem_of line) → Bytes (loop_of line) → (t : Through s i keeps (stem_text line) (loop_text line) rest) → Shows s t.read.run line
shown line small-stem small-turn t = record { stem = ap states_of t.stem_is ∙ stem_back line small-stem; turn = ap states_of t.turn_is ∙ loop_back line small-turn }

-- ---- the claim

word_of_lem : (v : Verdict) → word v ++ lf ≡ verdict_word (number_of v)
word_of_lem Inconclusive = refl
word_of_lem True = refl
word_of_lem False = refl
word_of_lem OutOfModel = refl

few_verdicts : (v : Verdict) → number_of v ≤ 3
few_verdicts Inconclusive = omega arith
few_verdicts True = omega arith
few_verdicts False = omega arith
few_verdicts OutOfModel = omega arith

-- ---- WHAT IS WRITTEN IS READ BACK

-- behind the first line no other begins with its letter
another_letter : (breaking : Line) → eqb (get_or (line_text false breaking) 0 0) (get_or (kind_key true) 0 0) ≡ false
another_letter (run stem turn) = refl
another_letter no_run = refl
another_letter left_out = refl

pub read_back : ReadBack
read_back v keeping breaking ks kl bs bl = record {
  parts = parts_of (claimed (number_of v) (cursor true c)) K.read B.read;
  is = sym (read_is s (claimed (number_of v) (cursor true c)) K.read B.read true (claim_through s (number_of v) (few_verdicts v) (line_text true keeping ++ line_text false breaking) written) K.is
      (B.is ∙ ap (λ (x : Cursor). run_of s x breaks_key) (sym K.next)) whole);
  claim = refl;
  keeps = shown keeping ks kl K;
  breaks = shown breaking bs bl B;
}
  where
    s : List ℕ
    s = report_text v keeping breaking

    c : ℕ
    c = 6 + length (verdict_word (number_of v))

    written : s ≡ claim_key ++ (verdict_word (number_of v) ++ (line_text true keeping ++ line_text false breaking))
    written = ap (λ (l : List ℕ). claim_key ++ (l ++ (line_text true keeping ++ line_text false breaking))) (word_of_lem v)

    at_c : drop c s ≡ line_text true keeping ++ line_text false breaking
    at_c = past s (verdict_word (number_of v)) (line_text true keeping ++ line_text false breaking) 6 (past s claim_key _ 0 written)

    low_c : c ≤ length s
    low_c = omega (arith, ap length written, length-append claim_key (verdict_word (number_of v) ++ (line_text true keeping ++ line_text false breaking)), length-append (verdict_word (number_of v)) (line_text true keeping ++ line_text false breaking))

    K : Through s c true (stem_text keeping) (loop_text keeping) (line_text false breaking)
    K = line_through s c true keeping (line_text false breaking) ks kl low_c (another_letter breaking) at_c

    B : Through s K.place false (stem_text breaking) (loop_text breaking) []
    B = line_through s K.place false breaking [] bs bl K.within refl (K.behind ∙ sym (append-nil (line_text false breaking)))

    ends_there : B.place ≡ length s
    ends_there = omega (arith, B.within, length-drop B.place s, ap length B.behind)

    whole : (B.read.next.ok && eqb B.read.next.at (length s)) ≡ true
    whole = rw (B.next, ends_there) (eq-eqb (length s) (length s) refl)

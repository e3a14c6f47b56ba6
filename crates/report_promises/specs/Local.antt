-- What a reader finds up to a place depends on the bytes up to that place alone.
use Rattle.std.specs.Prelude.{ℕ, ◌+◌, ◌≤◌, ◌<◌, ◌≡◌, refl, Bool, true, false, ◌&&◌, cond, List, [], ◌∷◌, ◌++◌, ltb, eqb, length, get_or, drop}
use Rattle.std.proofs.Common.{arith, sym, ap, subst, ◌∙◌, length-append, length-drop, lt-ltb}
use Rattle.std.proofs.Math.ListN.{get_or-append}
use Rattle.std.proofs.lemmas.List.{drop-append-le}
use Rattle.report_text.specs.declared.Cursor.{Cursor}
use Rattle.report_text.specs.Form.{cursor, byte_taken, word_from, is_digit, goes_on, list_end, list_to, list_of, claim_key, verdict_word, claim_by, verdict_from, claim_of, stem_key, loop_key, lf, refused_line, shown_run, missing, run_line, run_of}
use Rattle.report_promises.specs.Walk.{kind_key}
use Rattle.report_promises.specs.Stages.{behind_all}

-- a reader goes forward, and where it ends within P, what follows P does not matter
pub record Local (f : List ℕ → Cursor → Cursor) : Type 0 where
  pub grows : (s : List ℕ) (c : Cursor) → c.at ≤ (f s c).at
  pub same : (P r r' : List ℕ) (c : Cursor) → (f (P ++ r) c).at < length P → f (P ++ r) c ≡ f (P ++ r') c

byte_same : (P r r' : List ℕ) (k : ℕ) → k < length P → get_or (P ++ r) k 0 ≡ get_or (P ++ r') k 0
byte_same P r r' k h = get_or-append P r 0 k h ∙ sym (get_or-append P r' 0 k h)

inside : (P r : List ℕ) (k : ℕ) → k < length P → ltb k (length (P ++ r)) ≡ true
inside P r k h = lt-ltb k (length (P ++ r)) (omega (arith, h, length-append P r))

-- ---- one reader behind another, and one of two

chain : (f g : List ℕ → Cursor → Cursor) → Local f → Local g → Local (λ s c. g s (f s c))
chain f g lf lg = record {
  grows = λ s c. omega (arith, lf.grows s c, lg.grows s (f s c));
  same = λ P r r' c h.
      lg.same P r r' (f (P ++ r) c) h ∙ ap (g (P ++ r')) (lf.same P r r' c (omega (arith, h, lg.grows (P ++ r) (f (P ++ r) c))));
}

choose : (k : ℕ) (f g : List ℕ → Cursor → Cursor) → Local f → Local g → Local (λ s c. cond (eqb (get_or s c.at 0) k) (f s c) (g s c))
choose k f g lf lg = record {
  grows = λ s c. up s c (eqb (get_or s c.at 0) k);
  same = λ P r r' c h.
      let low : c.at < length P = omega (arith, h, up (P ++ r) c (eqb (get_or (P ++ r) c.at 0) k)) in
      by P r r' c (eqb (get_or (P ++ r) c.at 0) k) h
      ∙ ap (λ (b : ℕ). cond (eqb b k) (f (P ++ r') c) (g (P ++ r') c)) (byte_same P r r' c.at low);
}
  where
    up : (s : List ℕ) (c : Cursor) (t : Bool) → c.at ≤ (cond t (f s c) (g s c)).at
    up s c true = lf.grows s c
    up s c false = lg.grows s c

    by : (P r r' : List ℕ) (c : Cursor) (t : Bool) → (cond t (f (P ++ r) c) (g (P ++ r) c)).at < length P → cond t (f (P ++ r) c) (g (P ++ r) c) ≡ cond t (f (P ++ r') c) (g (P ++ r') c)
    by P r r' c true h = lf.same P r r' c h
    by P r r' c false h = lg.same P r r' c h

stay : Local (λ s c. c)
stay = record { grows = λ s c. omega arith; same = λ P r r' c h. refl }

-- ---- words

step_grows : (s : List ℕ) (c : Cursor) (b : ℕ) → c.at ≤ (byte_taken s c b).at
unfolding byte_taken
step_grows s c b = by (ltb c.at (length s)) (c.ok && eqb (get_or s c.at 0) b)
  where
    by : (t u : Bool) → c.at ≤ (cond t (cond u (cursor true (c.at + 1)) (cursor false c.at)) (cursor false c.at)).at
    by true true = omega arith
    by true false = omega arith
    by false u = omega arith

step_same : (P r r' : List ℕ) (c : Cursor) (b : ℕ) → c.at < length P → byte_taken (P ++ r) c b ≡ byte_taken (P ++ r') c b
unfolding byte_taken
step_same P r r' c b h = rw (inside P r c.at h, inside P r' c.at h, byte_same P r r' c.at h) refl

word_grows : (w s : List ℕ) (c : Cursor) → c.at ≤ (word_from s c w).at
unfolding word_from
word_grows [] s c = omega arith
word_grows (b ∷ w) s c = omega (arith, step_grows s c b, word_grows w s (byte_taken s c b))

word_same : (w P r r' : List ℕ) (c : Cursor) → (word_from (P ++ r) c w).at < length P → word_from (P ++ r) c w ≡ word_from (P ++ r') c w
unfolding word_from
word_same [] P r r' c h = refl
word_same (b ∷ w) P r r' c h =
    word_same w P r r' (byte_taken (P ++ r) c b) h
    ∙ ap (λ (x : Cursor). word_from (P ++ r') x w) (step_same P r r' c b (omega (arith, h, step_grows (P ++ r) c b, word_grows w (P ++ r) (byte_taken (P ++ r) c b))))

word_local : (w : List ℕ) → Local (λ s c. word_from s c w)
word_local w = record { grows = λ s c. word_grows w s c; same = word_same w }

-- ---- lists

to_grows : (c : Cursor) (on : Bool) (at : ℕ) (r : List ℕ) → at ≤ (list_to c on at r).at
unfolding list_to
to_grows c on at [] = omega arith
to_grows c on at (b ∷ r) = by (goes_on on b) (to_grows c (is_digit b) (at + 1) r)
  where
    by : (t : Bool) → at + 1 ≤ (list_to c (is_digit b) (at + 1) r).at → at ≤ (cond t (list_to c (is_digit b) (at + 1) r) (list_end c on at)).at
    by true h = omega arith
    by false h = omega arith

to_same : (c : Cursor) (on : Bool) (at : ℕ) (q r r' : List ℕ) → (list_to c on at (q ++ r)).at < at + length q → list_to c on at (q ++ r) ≡ list_to c on at (q ++ r')
unfolding list_to
to_same c on at [] r r' h = absurd (omega (arith, h, to_grows c on at r))
to_same c on at (b ∷ q) r r' h = by (goes_on on b) (to_same c (is_digit b) (at + 1) q r r') h
  where
    by : (t : Bool) → ((list_to c (is_digit b) (at + 1) (q ++ r)).at < at + 1 + length q → list_to c (is_digit b) (at + 1) (q ++ r) ≡ list_to c (is_digit b) (at + 1) (q ++ r'))
        → (cond t (list_to c (is_digit b) (at + 1) (q ++ r)) (list_end c on at)).at < at + length (b ∷ q)
        → cond t (list_to c (is_digit b) (at + 1) (q ++ r)) (list_end c on at) ≡ cond t (list_to c (is_digit b) (at + 1) (q ++ r')) (list_end c on at)
    by true more h = more (omega arith)
    by false more h = refl

list_local : Local list_of
unfolding list_of
list_local = record { grows = λ s c. up s c c.ok; same = λ P r r' c h. by P r r' c c.ok h }
  where
    up : (s : List ℕ) (c : Cursor) (t : Bool) → c.at ≤ (cond t (list_to c false c.at (drop c.at s)) c).at
    up s c true = to_grows c false c.at (drop c.at s)
    up s c false = omega arith

    by : (P r r' : List ℕ) (c : Cursor) (t : Bool) → (cond t (list_to c false c.at (drop c.at (P ++ r))) c).at < length P
        → cond t (list_to c false c.at (drop c.at (P ++ r))) c ≡ cond t (list_to c false c.at (drop c.at (P ++ r'))) c
    by P r r' c false h = refl
    by P r r' c true h =
        let low : c.at < length P = omega (arith, h, to_grows c false c.at (drop c.at (P ++ r))) in
        let cut : (x : List ℕ) → drop c.at (P ++ x) ≡ drop c.at P ++ x = λ x. drop-append-le c.at P x (omega arith) in
        let end : (list_to c false c.at (drop c.at P ++ r)).at < c.at + length (drop c.at P) = (
        let z : (list_to c false c.at (drop c.at P ++ r)).at < length P = subst (λ (x : List ℕ). (list_to c false c.at x).at < length P) (cut r) h in
        omega (arith, z, low, length-drop c.at P)) in
        ap (list_to c false c.at) (cut r) ∙ to_same c false c.at (drop c.at P) r r' end ∙ sym (ap (list_to c false c.at) (cut r'))

-- ---- lines

abbrev shown_next : List ℕ → Cursor → Cursor
shown_next s c = word_from s (list_of s (word_from s (list_of s (word_from s c stem_key)) loop_key)) lf

abbrev behind_next : List ℕ → Cursor → Cursor
behind_next s c = cond (eqb (get_or s c.at 0) 114) (word_from s c refused_line) (shown_next s c)

abbrev line_next : Bool → List ℕ → Cursor → Cursor
line_next keeps s c = behind_next s (word_from s c (kind_key keeps))

abbrev run_next : Bool → List ℕ → Cursor → Cursor
run_next keeps s c = cond (eqb (get_or s c.at 0) (get_or (kind_key keeps) 0 0)) (line_next keeps s c) c

shown_local : Local shown_next
shown_local = chain _ _ (chain _ _ (chain _ _ (chain _ _ (word_local stem_key) list_local) (word_local loop_key)) list_local) (word_local lf)

run_local : (keeps : Bool) → Local (run_next keeps)
run_local keeps = choose (get_or (kind_key keeps) 0 0) (line_next keeps) (λ s c. c) (chain _ _ (word_local (kind_key keeps)) (choose 114 (λ s c. word_from s c refused_line) shown_next (word_local refused_line) shown_local)) stay

run_next_lem : (s : List ℕ) (c : Cursor) (keeps : Bool) → (run_of s c (kind_key keeps)).next ≡ run_next keeps s c
unfolding run_of run_line shown_run
run_next_lem s c keeps = by (eqb (get_or s c.at 0) (get_or (kind_key keeps) 0 0)) (eqb (get_or s (word_from s c (kind_key keeps)).at 0) 114)
  where
    by : (t u : Bool) → (cond t (cond u (missing (word_from s (word_from s c (kind_key keeps)) refused_line)) (shown_run s (word_from s c (kind_key keeps)))) (missing c)).next
        ≡ cond t (cond u (word_from s (word_from s c (kind_key keeps)) refused_line) (shown_next s (word_from s c (kind_key keeps)))) c
    by true true = refl
    by true false = refl
    by false u = refl

-- ---- the text

abbrev verdict_next : List ℕ → Cursor → Cursor
verdict_next s c = word_from s c (verdict_word (claim_by (get_or s c.at 0)))

verdict_local : Local verdict_next
verdict_local = record {
  grows = λ s c. word_grows (verdict_word (claim_by (get_or s c.at 0))) s c;
  same = λ P r r' c h.
      let w = verdict_word (claim_by (get_or (P ++ r) c.at 0)) in
      word_same w P r r' c h ∙ ap (λ (b : ℕ). word_from (P ++ r') c (verdict_word (claim_by b))) (byte_same P r r' c.at (omega (arith, h, word_grows w (P ++ r) c)));
}

abbrev all_next : List ℕ → Cursor → Cursor
all_next s c = run_next false s (run_next true s (verdict_next s (word_from s c claim_key)))

all_local : Local all_next
all_local = chain _ _ (chain _ _ (chain _ _ (word_local claim_key) verdict_local) (run_local true)) (run_local false)

all_next_lem : (s : List ℕ) → behind_all s ≡ all_next s (cursor true 0)
unfolding claim_of verdict_from
all_next_lem s = run_next_lem s _ false ∙ ap (run_next false s) (run_next_lem s _ true)

-- where the reader ends depends on nothing beyond
pub ends_same : (P r r' : List ℕ) → (behind_all (P ++ r)).at < length P → behind_all (P ++ r) ≡ behind_all (P ++ r')
ends_same P r r' h =
    all_next_lem (P ++ r) ∙ all_local.same P r r' (cursor true 0) (subst (λ (c : Cursor). c.at < length P) (all_next_lem (P ++ r)) h) ∙ sym (all_next_lem (P ++ r'))

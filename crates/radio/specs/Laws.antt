-- The laws of the bytes kept and of a piece, as the code goes.
use Prim.Native.Nat.{ℕ, ◌+◌, ◌-◌, ◌≤◌, ◌<◌, zero-le}
use Rattle.std.proofs.Common.{arith, le_antisymm, zero-add, sym, ap₂, ◌∙◌, ⊎_elim, append-nil, length-append, length-take, ext_get_or, get_or-take, get_or-append-add}
use Rattle.std.specs.Prelude.{◌≡◌, Bool, true, false, List, [], ◌++◌, ltb, leb, eqb, length, take, get_or, replicate, Ok, Err}
use Rattle.std.proofs.Math.Path.{refl, ap, subst}
use Rattle.std.proofs.Math.Bool.{cond}
use Rattle.std.proofs.lemmas.Bool.{false≢true}
use borrow.Author.Tests.{lt-ltb, le-ltb, le-leb, ltb-true, leb-true}
use Rattle.std.proofs.lemmas.List.{length-replicate}
use Rattle.std.proofs.Math.ListN.{get_or-append, get_or-eq_default}
use Rattle.words.specs.Truth.{and_says}
use Rattle.words.specs.Lists.{length_list, list_at, list_of, zeros}
use Rattle.answers.specs.declared.Refusal.{Refusal}
use Rattle.answers.specs.Chain.{is_accepted, place_of}
use Rattle.text.specs.Cases.{below_or_beyond}
use Rattle.text.specs.Slot.{matched}
use Rattle.text.specs.Matched.{matched_text}
use Rattle.text.specs.Many.{offset, slots_below}
use Rattle.text.specs.Lines.{begun, line_start, lines_slots, line_at, begun_least, begun_more}
use Rattle.text.specs.LinesRead.{lines_read}
use Rattle.text.specs.Promises.{fit_of}
use Rattle.event_log.specs.declared.LogRead.{LogRead}
use Rattle.event_log.specs.Line.{line, line_bytes, line_fixed}
use Rattle.event_log.specs.Read.{refused_log, accepted_log, is_numbered, bytes_in, read_as, log_read}
use Rattle.radio.specs.declared.Form.{Form}
use Rattle.radio.specs.declared.Radio.{Radio}
use Rattle.radio.specs.Radio.{agrees, good_of}
use Rattle.radio.specs.Pieces.{first_same, Kept}
use Rattle.radio.specs.Kept.{padded, part_of, ear_of, radio_of, kept_ok}

-- ---- bytes behind bytes

module _ (part rest : List ℕ) (len took : ℕ) (within : len ≤ length part) where
  front_long : length (take len part) ≡ len
  front_long = length-take len part ∙ omega arith

  pub byte_kept : (at : ℕ) → at < len → get_or part at 0 ≡ get_or (take len part ++ take took rest) at 0
  byte_kept at l = sym (get_or-append (take len part) (take took rest) 0 at (omega (arith, front_long)) ∙ get_or-take len part at 0 l)

  pub byte_new : (at : ℕ) → len ≤ at → at - len < took → get_or rest (at - len) 0 ≡ get_or (take len part ++ take took rest) at 0
  byte_new at l h =
      let e : at ≡ length (take len part) + (at - len) = omega (arith, front_long) in
      sym (ap (λ (i : ℕ). get_or (take len part ++ take took rest) i 0) e ∙ get_or-append-add (take len part) (take took rest) (at - len) 0 ∙ get_or-take took rest (at - len) 0 h)

  pub byte_none : (at : ℕ) → len ≤ at → took ≤ at - len → 0 ≡ get_or (take len part ++ take took rest) at 0
  byte_none at l h =
      sym (get_or-eq_default (take len part ++ take took rest) 0 {n = at} (omega (arith, length-append (take len part) (take took rest), front_long, length-take took rest)))

-- ---- forty bytes

pub padded_long : (q : List ℕ) → length (padded q) ≡ 40
unfolding padded
padded_long q = length_list 40 (λ i. get_or q i 0)

-- what is kept is read back
pub padded_back : (q : List ℕ) → length q ≤ 40 → take (length q) (padded q) ≡ q
unfolding padded
padded_back q few =
    ext_get_or 0 (take (length q) (padded q)) q (length-take (length q) (padded q) ∙ omega (arith, padded_long q))
    (λ k l. get_or-take (length q) (padded q) k 0 (omega (arith, length-take (length q) (padded q), padded_long q)) ∙ list_at 40 (λ i. get_or q i 0) k (omega (arith, length-take (length q) (padded q), padded_long q)))

pub padded_none : padded [] ≡ replicate 40 0
unfolding padded
padded_none = list_of 40 (λ i. 0) (replicate 40 0) (length-replicate {A = ℕ} 40 0) (λ k l. sym (zeros 40 k))

-- the bytes kept with zeros behind them
pub clean_is : (r : Radio) {part : List ℕ} (x : List ℕ) → r.len ≤ 40 → length r.part ≡ 40 → part ≡ padded (take r.len r.part ++ take 0 x)
    → record { part = part; len = r.len; start = r.start; form = r.form; standing = r.standing; monitor = r.monitor } ≡ radio_of (ear_of r)
unfolding radio_of
clean_is r {part} x few long e =
    ap₂ (λ (p : List ℕ) (n : ℕ). record { part = p; len = n; start = r.start; form = r.form; standing = r.standing; monitor = r.monitor }) (e ∙ ap padded (append-nil (take r.len r.part)))
    (sym (length-take r.len r.part ∙ omega arith))

-- ---- how long the line is

module _ (w : ℕ) (part rest : List ℕ) (len : ℕ) where
  pub size_none : {r : ℕ} → len ≡ 0 → r ≡ bytes_in w rest → r ≡ bytes_in w (take len part ++ rest)
  size_none e f = rw e f

  pub size_some : {r : ℕ} → len ≤ length part → 0 < len → r ≡ bytes_in w (take len part) → r ≡ bytes_in w (take len part ++ rest)
  size_some within some f = f ∙ ap (λ (b : Bool). line_bytes b w) (sym (first_same (take len part) rest (omega (arith, length-take len part))))

-- ---- how far a text of at most a line fits

module _ (w : ℕ) (s : List ℕ) (some : 0 < length s) (few : length s ≤ bytes_in w s) where
  abbrev n : ℕ
  n = bytes_in w s

  abbrev fit : ℕ
  fit = fit_of (line (is_numbered s) w) s

  one_begun : begun (bytes_in w s) (length s) ≡ 1
  unfolding offset
  one_begun = omega (arith, begun_least n (length s) 1 (line_fixed (is_numbered s) w).some (omega arith), begun_more n (length s) 0 (line_fixed (is_numbered s) w).some (omega arith))

  -- what the log's reader answers of it
  one_line : log_read w s ≡ cond (ltb (fit_of (line (is_numbered s) w) s) (bytes_in w s)) (refused_log (fit_of (line (is_numbered s) w) s)) (accepted_log 1)
  unfolding read_as lines_read slots_below offset
  one_line = subst (λ (k : ℕ). cond (ltb (good_at k) (line_start n k)) (refused_log (good_at k)) (accepted_log k) ≡ cond (ltb fit n) (refused_log fit) (accepted_log 1)) (sym one_begun)
      (ap (λ (m : ℕ). cond (ltb fit m) (refused_log fit) (accepted_log 1)) (zero-add n))
    where
      good_at : ℕ → ℕ
      good_at k = matched s (lines_slots (line (is_numbered s) w) k (line_at (line (is_numbered s) w) (bytes_in w s) s))

  -- accepted: all of it fits
  fit_whole : (b : Bool) → ltb (fit_of (line (is_numbered s) w) s) (bytes_in w s) ≡ b → (cond b (refused_log (fit_of (line (is_numbered s) w) s)) (accepted_log 1)).outcome ≡ Ok tt → length s ≡ fit_of (line (is_numbered s) w) s
  fit_whole true e f = absurd (false≢true (ap is_accepted f))
  fit_whole false e f =
      le_antisymm
      (⊎_elim (λ (l : fit < n). absurd (false≢true (sym e ∙ lt-ltb fit n l))) (λ (l : n ≤ fit). omega arith) (below_or_beyond fit n))
      (matched_text s ((line (is_numbered s) w).slots ((line (is_numbered s) w).guess s)))

  -- refused: as far as its place
  fit_part : (b : Bool) {r : Refusal} → (cond b (refused_log (fit_of (line (is_numbered s) w) s)) (accepted_log 1)).outcome ≡ Err r → r.place ≡ fit_of (line (is_numbered s) w) s
  fit_part true e = ap place_of (sym e)
  fit_part false e = absurd (false≢true (ap is_accepted (sym e)))

  module _ (form : Form) {t : Bool} {b : ℕ} (byte : b ≡ get_or s 0 0) (told : t ≡ agrees form (eqb b 110)) where
    agreed : t ≡ agrees form (is_numbered s)
    unfolding is_numbered
    agreed = told ∙ ap (λ (x : ℕ). agrees form (eqb x 110)) byte

    good_by : {x : Bool} → t ≡ x → cond x (fit_of (line (is_numbered s) w) s) 0 ≡ good_of w form s
    unfolding good_of
    good_by e = ap (λ (x : Bool). cond x (fit_of (line (is_numbered s) w) s) 0) (sym e ∙ agreed)

    pub good_whole : {read : LogRead} → read ≡ log_read w s → t ≡ true → read.outcome ≡ Ok tt → length s ≡ good_of w form s
    good_whole is e f = fit_whole (ltb fit n) refl (ap (λ (r : LogRead). r.outcome) (sym one_line ∙ sym is) ∙ f) ∙ good_by e

    pub good_part : {read : LogRead} {r : Refusal} → read ≡ log_read w s → t ≡ true → read.outcome ≡ Err r → r.place ≡ good_of w form s
    good_part is e f = fit_part (ltb fit n) (ap (λ (r : LogRead). r.outcome) (sym one_line ∙ sym is) ∙ f) ∙ good_by e

    pub good_none : t ≡ false → 0 ≡ good_of w form s
    good_none e = good_by e

-- ---- the check of what is kept

module _ (w : ℕ) (r : Radio) where
  pub ok_none : r.len ≡ 0 → true ≡ kept_ok w r
  unfolding kept_ok
  ok_none e = rw e (rw (lt-ltb 0 (bytes_in w []) (line_fixed (is_numbered []) w).some, le-leb 0 (good_of w r.form []) zero-le) refl)

  pub ok_test : {good : ℕ} → length (take r.len r.part) ≡ r.len → r.len < bytes_in w (take r.len r.part) → good ≡ good_of w r.form (take r.len r.part) → leb r.len good ≡ kept_ok w r
  unfolding kept_ok
  ok_test long short is = rw (long, lt-ltb _ _ short, is) refl

  pub ok_long : length (take r.len r.part) ≡ r.len → bytes_in w (take r.len r.part) ≤ r.len → false ≡ kept_ok w r
  unfolding kept_ok
  ok_long long full = rw (long, le-ltb _ _ full) refl

  -- it says what a piece asks for
  pub ok_kept : kept_ok w r ≡ true → Kept w r.form (part_of r)
  unfolding kept_ok
  ok_kept e =
      let (short, begun) = (and_says (ltb (length (part_of r)) (bytes_in w (part_of r))) (leb (length (part_of r)) (good_of w r.form (part_of r)))).0 e in
      record { short = ltb-true _ _ short; begun = leb-true _ _ begun }

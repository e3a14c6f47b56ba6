-- Reading lines one by one: what a call knows behind each line, what it answers at the end, and what that answer means.
use Prim.Native.Nat.{ℕ, ◌+◌, ◌-◌, ◌/◌, ◌≤◌, ◌<◌}
use Rattle.std.specs.Prelude.{◌≡◌, refl, cond, List, [], ◌++◌, ◌↔◌, ltb, length, take, drop}
use Rattle.std.proofs.Math.Path.{sym, ap}
use Rattle.std.proofs.Common.{◌∙◌, inl, arith, take_all, length-drop}
use Rattle.std.proofs.Math.Logic.{⊎_elim}
use Rattle.std.proofs.Math.Numerals.{add-one}
use borrow.Author.Tests.{lt-ltb, le-ltb}
use Rattle.std.proofs.Math.ListN.{get_or, get_or-eq_default}
use Rattle.words.specs.Below.{list_below}
use Rattle.words.specs.Lists.{length_list, at_list}
use Rattle.text.specs.Slot.{Slot, matched}
use Rattle.text.specs.Matched.{matched_text, matched_slots, matched_all, matched_longer}
use Rattle.text.specs.Form.{Form}
use Rattle.text.specs.Cases.{below_or_beyond}
use Rattle.text.specs.Many.{slots_below, offset, below_same, below_length, below_exact}
use Rattle.text.specs.Place.{Fills, OfForm, RefusedAt, of_form_fills, refused_at_lem}
use Rattle.text.specs.Promises.{fit_of, form_or_place}
use Rattle.text.specs.Lines.{Fixed, line_start, begun, lines_slots, line_at, lines, start_grows, begun_holds, begun_more, all_begun, lines_long, enough, guess_slots, guess_length, lines_whole}

-- the value that a text's first line gives if it is of the form, and how far it is
pub record IsLine {A : Type 0} (F : Form A) (s : List ℕ) (value : A) (good : ℕ) : Type 0 where
  pub is : value ≡ F.guess s
  pub goes : good ≡ fit_of F s

-- the first k lines fit
pub record Fit {A : Type 0} (F : Form A) (n : ℕ) (s : List ℕ) (k : ℕ) : Type 0 where
  pub fits : matched s (lines_slots F k (line_at F n s)) ≡ line_start n k

-- how far the text fits the lines that it begins
abbrev pub lines_good : {A : Type 0} → Form A → ℕ → List ℕ → ℕ
lines_good F n s = matched s (lines_slots F (begun n (length s)) (line_at F n s))

-- what is answered: of the place where the text stops to fit, and else of how many lines there are
unfoldable pub lines_read : {A B : Type 0} → Form A → ℕ → (ℕ → B) → (ℕ → B) → List ℕ → B
lines_read F n off on s = cond (ltb (lines_good F n s) (line_start n (begun n (length s)))) (off (lines_good F n s)) (on (begun n (length s)))

-- the value of line k, and `none` beyond the last whole line
unfoldable pub line_or : {A : Type 0} → Form A → ℕ → A → List ℕ → ℕ → A
line_or F n none s k = cond (ltb k (length s / n)) (line_at F n s k) none

pub next_start : (n k : ℕ) → line_start n (k + 1) ≡ line_start n k + n
unfolding offset
next_start n k = rw add-one refl

-- the rest of the text as a call is lent it
pub lent_line :
    {A : Type 0} {F : Form A} (s : List ℕ) (at i good : ℕ) (v : A) → at ≡ i → IsLine F (take (length s - at) (drop at s)) v good → IsLine F (drop i s) v good
lent_line {A} {F} s at i good v p l =
    let t : take (length s - at) (drop at s) ≡ drop i s = take_all (length s - at) (drop at s) (omega (arith, length-drop at s)) ∙ ap (λ (n : ℕ). drop n s) p in
    rw t at l

pub line_room : {A : Type 0} {F : Form A} (s : List ℕ) (i good : ℕ) (v : A) → IsLine F (drop i s) v good → good ≤ length s - i
line_room {A} {F} s i good v l = omega (arith, l.goes, matched_text (drop i s) (F.slots (F.guess (drop i s))), length-drop i s)

module _ {A : Type 0} (F : Form A) (n : ℕ) (fixed : Fixed F n) where
  -- before the first line
  pub none_fit : (s : List ℕ) → Fit F n s 0
  unfolding slots_below offset
  none_fit s = record { fits = omega (arith, matched_slots s []) }

  -- the line behind k lines that fit
  one_more :
      (s : List ℕ) (k good : ℕ) (v : A) → Fit F n s k → IsLine F (drop (line_start n k) s) v good → matched s (lines_slots F (k + 1) (line_at F n s)) ≡ line_start n k + good
  unfolding slots_below
  one_more s k good v h l =
      rw add-one
      (matched_all s (lines_slots F k (line_at F n s)) (F.slots (line_at F n s k)) (h.fits ∙ sym (lines_long F n fixed s k))
      ∙ ap (λ (i : ℕ). i + matched (drop i s) (F.slots (line_at F n s k))) (lines_long F n fixed s k) ∙ ap (λ (i : ℕ). line_start n k + i) (sym l.goes))

  -- it fits too
  pub line_on : (s : List ℕ) (k good : ℕ) (v : A) → Fit F n s k → IsLine F (drop (line_start n k) s) v good → n ≤ good → Fit F n s (k + 1)
  line_on s k good v h l g =
      let m = one_more s k good v h l in
      record { fits = omega (arith, matched_slots s (lines_slots F (k + 1) (line_at F n s)), lines_long F n fixed s (k + 1), next_start n k) }

  -- it does not: the text fits no further
  stops : (s : List ℕ) (k good : ℕ) (v : A) → Fit F n s k → line_start n k < length s → IsLine F (drop (line_start n k) s) v good → good < n
      → (lines_good F n s ≡ line_start n k + good) × (lines_good F n s < line_start n (begun n (length s)))
  stops s k good v h b l g =
      let m = one_more s k good v h l in
      let more = begun_more n (length s) k fixed.some b in
      let e = enough F n fixed s (k + 1) (begun n (length s)) (omega arith) (inl (omega (arith, next_start n k))) in
      (e ∙ m, omega (arith, e, next_start n k, start_grows n (k + 1) (begun n (length s)) (omega arith)))

  module _ {B : Type 0} (off on : ℕ → B) where
    pub line_off :
        (s : List ℕ) (at k good : ℕ) (v : A) → at ≡ line_start n k → Fit F n s k → at < length s → IsLine F (drop (line_start n k) s) v good → good < n
        → off (at + good) ≡ lines_read F n off on s
    unfolding lines_read
    line_off s at k good v p h b l g =
        let (w, less) = stops s k good v h (omega arith) l g in
        ap (λ (i : ℕ). off (i + good)) p ∙ sym (rw (lt-ltb (lines_good F n s) (line_start n (begun n (length s))) less) (ap off w))

    -- the text ends behind k lines that fit
    pub line_end : (s : List ℕ) (k : ℕ) → Fit F n s k → length s ≤ line_start n k → on k ≡ lines_read F n off on s
    unfolding lines_read
    line_end s k h l =
        let m : begun n (length s) ≡ k = (all_begun n (length s) k fixed.some (omega (arith, h.fits, matched_text s (lines_slots F k (line_at F n s))))).0 in
        sym (rw (m, le-ltb (matched s (lines_slots F k (line_at F n s))) (line_start n k) (omega (arith, h.fits))))

  module _ (none : A) where
    -- the text fills the lines that it begins exactly if none of its bytes stops to fit
    fills_good : (s : List ℕ) → Fills s ((lines F n none).slots ((lines F n none).guess s)) ↔ (line_start n (begun n (length s)) ≤ lines_good F n s)
    fills_good s = (
      λ f. let g = rw (guess_slots F n fixed none s) at f in omega (arith, g.all, g.long, long),
      λ l. rw (guess_slots F n fixed none s) (record {
        all = omega (arith, matched_slots s ts, long);
        long = omega (arith, matched_slots s ts, matched_text s ts, long, begun_holds n (length s) fixed.some);
      }),
    )
      where
        ts : List Slot
        ts = lines_slots F (begun n (length s)) (line_at F n s)

        long : length (lines_slots F (begun n (length s)) (line_at F n s)) ≡ line_start n (begun n (length s))
        long = lines_long F n fixed s (begun n (length s))

    -- the values of a text that does
    values_are : (s : List ℕ) → Fills s ((lines F n none).slots ((lines F n none).guess s)) → (k : ℕ) → line_or F n none s k ≡ get_or ((lines F n none).guess s) k none
    unfolding line_or lines
    values_are s f k = ⊎_elim there beyond (below_or_beyond k m)
      where
        m : ℕ
        m = begun n (length s)

        whole : length s / n ≡ begun n (length s)
        whole =
            let g = rw (guess_slots F n fixed none s) at f in
            (all_begun n (length s) m fixed.some (omega (arith, g.long, lines_long F n fixed s m))).1

        there : k < begun n (length s) → line_or F n none s k ≡ get_or (list_below (begun n (length s)) (line_at F n s)) k none
        there l = rw (whole, lt-ltb k m l) (sym (at_list none m (line_at F n s) k l))

        beyond : begun n (length s) ≤ k → line_or F n none s k ≡ get_or (list_below (begun n (length s)) (line_at F n s)) k none
        beyond l = rw (whole, le-ltb k m l) (sym (get_or-eq_default (list_below m (line_at F n s)) none (omega (arith, length_list m (line_at F n s)))))

    -- a text of lines, with what is answered of so many and the value of each; or the place at which it is refused
    module _ {B : Type 0} (off on : ℕ → B) where
      pub data Told (s : List ℕ) : Type 0 where
        lined : (l : List A) → (lines F n none).Ok l → Fills s ((lines F n none).slots l) → lines_read F n off on s ≡ on (length l)
            → ((k : ℕ) → line_or F n none s k ≡ get_or l k none) → Told s
        misfit : (i : ℕ) → RefusedAt (lines F n none) s i → lines_read F n off on s ≡ off i → Told s

      pub told : (s : List ℕ) → Told s
      unfolding lines_read
      told s = ⊎_elim formed placed (form_or_place (lines_whole F n fixed none) s)
        where
          m : ℕ
          m = begun n (length s)

          formed : OfForm (lines F n none) s → Told s
          formed o =
              let f = (of_form_fills (lines_whole F n fixed none) s).0 o in
              lined ((lines F n none).guess s) ((lines_whole F n fixed none).fine s) f
              (rw (le-ltb (lines_good F n s) (line_start n m) ((fills_good s).0 f)) (ap on (sym (guess_length F n fixed none s)))) (values_are s f)

          placed : RefusedAt (lines F n none) s (fit_of (lines F n none) s) → Told s
          placed p =
              ⊎_elim
              (λ (l : lines_good F n s < line_start n m). misfit (lines_good F n s) (rw (guess_slots F n fixed none s) at p) (rw (lt-ltb (lines_good F n s) (line_start n m) l)))
              (λ (l : line_start n m ≤ lines_good F n s). absurd (p.not_of_form ((of_form_fills (lines_whole F n fixed none) s).1 ((fills_good s).1 l))))
              (below_or_beyond (lines_good F n s) (line_start n m))

    -- lines that a text fills go on to fit where more follows
    pub fills_fit : (l : List A) (s r : List ℕ) → (lines F n none).Ok l → Fills s ((lines F n none).slots l) → (length s ≡ line_start n (length l)) × Fit F n (s ++ r) (length l)
    unfolding lines
    fills_fit l s r ok f =
        let all = matched_longer s r (lines_slots F (length l) (λ k. get_or l k none)) f.all in
        let same = below_same (λ j. F) (length l) (line_at F n (s ++ r)) (λ k. get_or l k none) (below_exact (λ j. F) (λ j. n) (λ j. fixed.bytes) (λ j. fixed.reads) (length l) (λ k. get_or l k none) (s ++ r) ok all) in
        let long = below_length (λ j. F) (λ j. n) (λ j. fixed.bytes) (length l) (λ k. get_or l k none) ok in
        (sym f.long ∙ long, record { fits = ap (matched (s ++ r)) same ∙ all ∙ long })

    -- behind k lines that fit, a line that begins with no byte of the form is refused at its first byte
    pub odd_line :
        (s : List ℕ) (k : ℕ) → Fit F n s k → line_start n k < length s → ((a : A) → F.Ok a → matched (drop (line_start n k) s) (F.slots a) ≡ 0)
        → RefusedAt (lines F n none) s (line_start n k)
    odd_line s k h b odd =
        let r = drop (line_start n k) s in
        let l : IsLine F r (F.guess r) 0 = record { is = refl; goes = sym (odd (F.guess r) (fixed.reads.fine r)) } in
        let (w, less) = stops s k 0 (F.guess r) h b l fixed.some in
        let i : lines_good F n s ≡ line_start n k = omega (arith, w) in
        rw (guess_slots F n fixed none s, i) at (refused_at_lem (lines_whole F n fixed none) s (λ f. omega (arith, (fills_good s).0 f)))

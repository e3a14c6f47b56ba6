-- A piece as the code takes it is what its bytes give one by one; and what the loop over a scrap has done behind some pieces.
use Rattle.std.specs.Prelude.{ℕ, ◌+◌, ◌-◌, ◌^◌, ◌≤◌, ◌<◌, ◌≡◌, Bool, eqb, drop, replicate, Ok, Err}
use Rattle.std.proofs.Common.{zero-le, arith, sym, ◌∙◌, length-append, length-take, length-drop, get_or-take, take_all, take-add}
use Rattle.std.proofs.Math.Path.{refl, ap, ap₂, subst}
use Rattle.std.proofs.Math.Bool.{true, false, cond}
use Rattle.std.proofs.lemmas.Bool.{false≢true}
use Rattle.std.proofs.Math.Logic.{⊎_elim}
use mathlib.Core.List.{List, [], ◌∷◌, ◌++◌, append-nil, foldl-append}
use borrow.Author.Tests.{lt-ltb, le-ltb, le-leb, leb-true}
use Rattle.std.proofs.Math.Dec.{ltb, leb}
use Rattle.std.proofs.Math.ListN.{length, take}
use Rattle.std.proofs.lemmas.List.{length-replicate}
use Rattle.answers.specs.declared.Kind.TheVariants.{LogText}
use Rattle.answers.specs.Results.{Answer}
use Rattle.answers.specs.Results.{Outcome}
use Rattle.answers.specs.Paper.{refused_at}
use Rattle.text.specs.Cases.{below_or_beyond}
use Rattle.event_log.specs.declared.Event.{Event}
use Rattle.event_log.specs.Line.{line_bytes, line_fixed}
use Rattle.event_log.specs.Read.{is_numbered, bytes_in, event_at}
use Rattle.sides.specs.declared.Monitor.{Monitor}
use Rattle.monitor.specs.declared.Watched.{Watched}
use Rattle.course.specs.Laid.{laid, laid_more, laid_length}
use Rattle.radio.specs.declared.Form.{Form}
use Rattle.std.specs.Prelude.{Option, None, Some}
use Rattle.radio.specs.declared.Radio.{Radio}
use Rattle.radio.specs.declared.piece.Pieced.{Pieced}
use Rattle.radio.specs.declared.ends.Turned.{Turned}
use Rattle.radio.specs.Radio.{Heard, good_of, stopped, kept, ended, lengthened, hear, hear_all}
use Rattle.radio.specs.Pieces.{first_same, Kept, pieced}
use Rattle.radio.proofs.PiecesLaws.{hears_no_more, pieces}
use Rattle.radio.specs.Kept.{padded, part_of, ear_of, radio_of, heard_by, Fit, stopped_radio, lesser_of, joined_piece, took_of, open_piece, piece_of, lit_of, answered_turn, ended_turn, turned_of, noted_at, Listened}
use Rattle.radio.specs.Laws.{padded_long, padded_back, padded_none}

-- ---- sizes

pub line_few : (w : ℕ) (s : List ℕ) → w ≤ 4 → bytes_in w s ≤ 37
line_few w s few = by_form (is_numbered s)
  where
    by_form : (b : Bool) → line_bytes b w ≤ 37
    by_form true = omega arith
    by_form false = omega arith

record Lesser (a b c : ℕ) : Type 0 where
  left : c ≤ a
  right : c ≤ b
  some : 0 < a → 0 < b → 0 < c
  full : c < a → b ≤ c

lesser_is : (a b : ℕ) → Lesser a b (lesser_of a b)
unfolding lesser_of
lesser_is a b =
    ⊎_elim (λ (l : a < b). rw (lt-ltb a b l) (record { left = omega arith; right = omega arith; some = λ x y. x; full = λ x. absurd (omega arith) }))
    (λ (l : b ≤ a). rw (le-ltb a b l) (record { left = omega arith; right = omega arith; some = λ x y. y; full = λ x. omega arith })) (below_or_beyond a b)

module _ (w : ℕ) {r : Radio} {more : ℕ} (fit : Fit w r more) where
  pub part_long : length (take r.len r.part) ≡ r.len
  part_long = length-take r.len r.part ∙ omega (arith, fit.room, fit.long)

  -- the line has room for one byte more
  pub size_room : (rest : List ℕ) → r.len < bytes_in w (take r.len r.part ++ rest)
  size_room rest =
      ⊎_elim (λ (l : 0 < r.len). rw (first_same (take r.len r.part) rest (omega (arith, part_long))) (omega (arith, fit.keep.short, part_long)))
      (λ (l : r.len ≤ 0). omega (arith, (line_fixed (is_numbered (take r.len r.part ++ rest)) w).some)) (below_or_beyond 0 r.len)

first_front : (p rest : List ℕ) (k : ℕ) → 0 < k → is_numbered (p ++ take k rest) ≡ is_numbered (p ++ rest)
unfolding is_numbered
first_front [] rest k some = ap (λ (b : ℕ). eqb b 110) (get_or-take k rest 0 0 some)
first_front (b ∷ p) rest k some = refl

-- so many bytes of a scrap behind those kept
pub record Cut (w : ℕ) (r : Radio) (rest : List ℕ) (size took : ℕ) : Type 0 where
  pub fit : Fit w r (length rest)
  pub some : 0 < length rest
  pub few : w ≤ 4
  pub is_size : size ≡ bytes_in w (take r.len r.part ++ rest)
  pub is_took : took ≡ lesser_of (size - r.len) (length rest)

module _ {w : ℕ} {r : Radio} {rest : List ℕ} {size took : ℕ} (cut : Cut w r rest size took) where
  less : Lesser (size - r.len) (length rest) took
  less = subst (Lesser (size - r.len) (length rest)) (sym cut.is_took) (lesser_is (size - r.len) (length rest))

  room : r.len < size
  room = omega (arith, cut.is_size, size_room w cut.fit rest)

  pub cut_some : 0 < took
  cut_some = less.some (omega (arith, room)) cut.some

  pub cut_within : took ≤ length rest
  cut_within = less.right

  pub cut_end : r.len + took ≤ size
  cut_end = omega (arith, less.left, room)

  pub cut_few : size ≤ 37
  cut_few = omega (arith, cut.is_size, line_few w (take r.len r.part ++ rest) cut.few)

  abbrev q : List ℕ
  q = take r.len r.part ++ take took rest

  pub cut_long : length (take r.len r.part ++ take took rest) ≡ r.len + took
  cut_long = length-append (take r.len r.part) (take took rest) ∙ omega (arith, part_long w cut.fit, length-take took rest, cut_within)

  pub cut_size : bytes_in w (take r.len r.part ++ take took rest) ≡ size
  cut_size = ap (λ (b : Bool). line_bytes b w) (first_front (take r.len r.part) rest took cut_some) ∙ sym cut.is_size

  pub cut_line : {line : List ℕ} → line ≡ padded (take r.len r.part ++ take took rest) → take (r.len + took) line ≡ take r.len r.part ++ take took rest
  cut_line e = ap₂ (λ (n : ℕ) (l : List ℕ). take n l) (sym cut_long) e ∙ padded_back q (omega (arith, cut_long, cut_end, cut_few))

  is_took' : took ≡ took_of w r rest
  is_took' = cut.is_took ∙ ap (λ (n : ℕ). lesser_of (n - r.len) (length rest)) cut.is_size

  -- what the code makes of it
  by_cut : {x : Pieced} → x ≡ joined_piece w r (take r.len r.part ++ take took rest) took size → x ≡ open_piece w r rest
  unfolding open_piece
  by_cut e = e ∙ ap₂ (λ (k n : ℕ). joined_piece w r (take r.len r.part ++ take k rest) k n) is_took' cut.is_size

  pub piece_stops : {line : List ℕ} {good end : ℕ} → line ≡ padded (take r.len r.part ++ take took rest) → end ≡ r.len + took → good ≡ good_of w r.form (take end line) → good < end
      → {x : Radio} → x ≡ stopped_radio r (refused_at LogText (r.start + good)) → record { radio = x; took = took; whole = false } ≡ open_piece w r rest
  piece_stops {line} {good} {end} is-line is-end is-good l {x} is =
      let g : good ≡ good_of w r.form q = is-good ∙ ap (good_of w r.form) (ap (λ (n : ℕ). take n line) is-end ∙ cut_line is-line) in
      by_cut (rw (is, ← g, lt-ltb good (length q) (omega (arith, cut_long))) refl)

  pub piece_keeps : {line : List ℕ} {good end : ℕ} → line ≡ padded (take r.len r.part ++ take took rest) → end ≡ r.len + took → good ≡ good_of w r.form (take end line) → end ≤ good
      → record { radio = record { part = line; len = end; start = r.start; form = r.form; standing = r.standing; monitor = r.monitor }; took = took; whole = leb size end } ≡ open_piece w r rest
  piece_keeps {line} {good} {end} is-line is-end is-good l =
      let g : good ≡ good_of w r.form q = is-good ∙ ap (good_of w r.form) (ap (λ (n : ℕ). take n line) is-end ∙ cut_line is-line) in
      let e : end ≡ length q = is-end ∙ sym cut_long in
      by_cut (rw (← g, le-ltb good (length q) (omega (arith, e)), ← is-line, ← e) refl)

-- behind a piece no more than a line is kept
pub piece_small : (w : ℕ) (r : Radio) (rest : List ℕ) → Fit w r (length rest) → w ≤ 4 → 0 < length rest → (o : Outcome)
    → ((piece_of w o r rest).radio.len ≤ 40) × ((piece_of w o r rest).radio.start + (piece_of w o r rest).radio.len < 2 ^ 63) × (length (piece_of w o r rest).radio.part ≡ 40)
unfolding open_piece
piece_small w r rest fit few some (Err x) = (fit.room, omega (arith, fit.low), fit.long)
piece_small w r rest fit few some (Ok _) = by_good (ltb (good_of w r.form line) (length line))
  where
    line : List ℕ
    line = part_of r ++ take (took_of w r rest) rest

    by_good : (b : Bool)
        → let x : Pieced = cond b (record { radio = stopped_radio r (refused_at LogText (r.start + good_of w r.form line)); took = took_of w r rest; whole = false })
        (record { radio = record { part = padded line; len = length line; start = r.start; form = r.form; standing = r.standing; monitor = r.monitor }; took = took_of w r rest; whole = leb (bytes_in w (part_of r ++ rest)) (length line) }) in
        (x.radio.len ≤ 40) × (x.radio.start + x.radio.len < 2 ^ 63) × (length x.radio.part ≡ 40)
    by_good true = (omega arith, omega (arith, fit.low), length-replicate {A = ℕ} 40 0)
    by_good false =
        let cut : Cut w r rest (bytes_in w (part_of r ++ rest)) (took_of w r rest) = record { fit = fit; some = some; few = few; is_size = refl; is_took = refl } in
        (omega (arith, cut_long cut, cut_end cut, cut_few cut), omega (arith, fit.low, cut_long cut, cut_within cut), padded_long line)

-- ---- nothing is kept

none_kept : (w : ℕ) (form : Form) → Kept w form []
none_kept w form = record { short = (line_fixed (is_numbered []) w).some; begun = zero-le }

empty_clean : (r : Radio) → r.len ≡ 0 → r.part ≡ replicate 40 0 → r ≡ radio_of (ear_of r)
unfolding radio_of
empty_clean r e f = rw (e, f, padded_none) refl

-- ---- one piece

module _ (w : ℕ) (step : Monitor → Event → Watched) (few : w ≤ 4) where
  pub record Turning (r : Radio) (rest : List ℕ) (took : ℕ) (t : Turned) : Type 0 where
    pub is : (vs : List ℕ) → hear_all w step (heard_by r vs) (take took rest) ≡ heard_by t.radio (vs ++ lit_of t.lit)
    pub some : 0 < took
    pub within : took ≤ length rest
    pub fit : Fit w t.radio (length rest - took)
    pub clean : t.radio ≡ radio_of (ear_of t.radio)

  module _ (r : Radio) (rest : List ℕ) (fit : Fit w r (length rest)) (clean : r ≡ radio_of (ear_of r)) (some : 0 < length rest) where
    abbrev size : ℕ
    size = bytes_in w (take r.len r.part ++ rest)

    abbrev took : ℕ
    took = took_of w r rest

    abbrev line : List ℕ
    line = take r.len r.part ++ take took rest

    cut : Cut w r rest (bytes_in w (take r.len r.part ++ rest)) (took_of w r rest)
    cut = record { fit = fit; some = some; few = few; is_size = refl; is_took = refl }

    -- the bytes one by one
    bytes : r.standing ≡ Ok tt → (vs : List ℕ) → hear_all w step (heard_by r vs) (take (took_of w r rest) rest) ≡ pieced w step (heard_by r vs) (take r.len r.part ++ take (took_of w r rest) rest)
    bytes goes vs = pieces w step (take took rest) (heard_by r vs) goes fit.keep (omega (arith, length-take took rest, cut_some cut, cut_within cut))
        (omega (arith, cut_long cut, cut_end cut, cut_size cut))

    abbrev kept_radio : Radio
    kept_radio = record { part = padded line; len = length line; start = r.start; form = r.form; standing = r.standing; monitor = r.monitor }

    back : take (length line) (padded line) ≡ line
    back = padded_back line (omega (arith, cut_long cut, cut_end cut, cut_few cut))

    -- a radio that keeps nothing
    emptied : (t : Turned) → t.radio.len ≡ 0 → t.radio.part ≡ replicate 40 0 → t.radio.start ≤ r.start + (r.len + took)
        → ((vs : List ℕ) → pieced w step (heard_by r vs) line ≡ heard_by t.radio (vs ++ lit_of t.lit)) → r.standing ≡ Ok tt → Turning r rest took t
    emptied t none zero low is goes = record {
      is = λ vs. bytes goes vs ∙ is vs;
      some = cut_some cut;
      within = cut_within cut;
      fit = record {
        room = omega (arith, none);
        long = ap length zero ∙ length-replicate {A = ℕ} 40 0;
        keep = rw none (none_kept w t.radio.form);
        low = omega (arith, none, low, fit.low, cut_within cut);
      };
      clean = empty_clean t.radio none zero;
    }

    by_stop : r.standing ≡ Ok tt → ltb (good_of w r.form line) (length line) ≡ true
        → Turning r rest took (record { radio = stopped_radio r (refused_at LogText (r.start + good_of w r.form line)); lit = None })
    unfolding pieced
    by_stop goes e = emptied _ refl refl (omega arith) (λ vs. rw (e, append-nil) refl) goes

    -- the event of a whole line
    by_answer : r.standing ≡ Ok tt → ((vs : List ℕ) → pieced w step (heard_by r vs) line ≡ ended w step (heard_by r vs) line)
        → (s : Watched) → step r.monitor (event_at w line 0) ≡ s → (a : Answer) → s.answer ≡ a → Turning r rest took (answered_turn w step kept_radio line s a)
    by_answer goes is s e (Ok l) f = emptied _ refl refl (omega (arith, cut_long cut)) (λ vs. is vs ∙ rw (e, f) refl) goes
    by_answer goes is s e (Err x) f = emptied _ refl refl (omega arith) (λ vs. is vs ∙ rw (e, f, append-nil) refl) goes

    by_whole : r.standing ≡ Ok tt → ((vs : List ℕ) → pieced w step (heard_by r vs) line ≡ lengthened w step (heard_by r vs) line) → length line ≤ good_of w r.form line
        → (b : Bool) → leb size (length line) ≡ b → Turning r rest took (turned_of w step b kept_radio)
    unfolding ended_turn radio_of
    by_whole goes is good true e =
        let full : bytes_in w line ≤ length line = omega (arith, leb-true size (length line) e, cut_size cut) in
        rw back (by_answer goes (λ vs. is vs ∙ ap (λ (t : Bool). cond t (kept (heard_by r vs) line) (ended w step (heard_by r vs) line)) (le-ltb (length line) (bytes_in w line) full))
        (step r.monitor (event_at w line 0)) refl (step r.monitor (event_at w line 0)).answer refl)
    by_whole goes is good false e =
        let short : length line < bytes_in w line = ⊎_elim (λ (l : length line < size). omega (arith, cut_size cut)) (λ (l : size ≤ length line). absurd (false≢true (sym e ∙ le-leb size (length line) l))) (below_or_beyond (length line) size) in
        record {
          is = λ vs. bytes goes vs ∙ is vs ∙ ap (λ (t : Bool). cond t (kept (heard_by r vs) line) (ended w step (heard_by r vs) line)) (lt-ltb (length line) (bytes_in w line) short)
              ∙ ap₂ (λ (p vs : List ℕ). record { ear = record { part = p; start = r.start; form = r.form; standing = r.standing; monitor = r.monitor }; verdicts = vs }) (sym back) (sym (append-nil vs));
          some = cut_some cut;
          within = cut_within cut;
          fit = record {
            room = omega (arith, cut_long cut, cut_end cut, cut_few cut);
            long = padded_long line;
            keep = rw back (record { short = short; begun = good });
            low = omega (arith, cut_long cut, fit.low, cut_within cut);
          };
          clean = kept_clean;
        }
      where
        kept_clean : kept_radio ≡ radio_of (ear_of kept_radio)
        kept_clean = rw back refl

    opens : r.standing ≡ Ok tt → Turning r rest (open_piece w r rest).took (turned_of w step (open_piece w r rest).whole (open_piece w r rest).radio)
    unfolding open_piece pieced
    opens goes = by_good (ltb (good_of w r.form line) (length line)) refl
      where
        by_good : (b : Bool) → ltb (good_of w r.form line) (length line) ≡ b
            → let x : Pieced = cond b (record { radio = stopped_radio r (refused_at LogText (r.start + good_of w r.form line)); took = took; whole = false }) (record { radio = kept_radio; took = took; whole = leb size (length line) }) in
            Turning r rest x.took (turned_of w step x.whole x.radio)
        by_good true e = by_stop goes e
        by_good false e =
            by_whole goes (λ vs. ap (λ (t : Bool). cond t (stopped (heard_by r vs) (refused_at LogText (r.start + good_of w r.form line))) (lengthened w step (heard_by r vs) line)) e)
            (⊎_elim (λ (l : good_of w r.form line < length line). absurd (false≢true (sym e ∙ lt-ltb _ _ l))) (λ (l : length line ≤ good_of w r.form line). l) (below_or_beyond (good_of w r.form line) (length line)))
            (leb size (length line)) refl

    pub turning : (o : Outcome) → r.standing ≡ o → Turning r rest (piece_of w o r rest).took (turned_of w step (piece_of w o r rest).whole (piece_of w o r rest).radio)
    turning (Ok _) e = opens e
    turning (Err x) e = record {
      is = λ vs. hears_no_more w step (heard_by r vs) e (take (length rest) rest) ∙ ap (heard_by r) (sym (append-nil vs));
      some = some;
      within = omega arith;
      fit = record { room = fit.room; long = fit.long; keep = fit.keep; low = omega (arith, fit.low) };
      clean = clean;
    }

-- ---- the loop

module _ (w : ℕ) (step : Monitor → Event → Watched) (few : w ≤ 4) (r₀ : Radio) (scrap verdicts₀ : List ℕ) where
  pub record Going (r : Radio) (at done : ℕ) (verdicts : List ℕ) : Type 0 where
    pub said : List ℕ
    pub is : hear_all w step (heard_by r₀ []) (take at scrap) ≡ heard_by r said
    pub many : done ≡ length said
    pub bytes : verdicts ≡ laid said verdicts₀
    pub fewer : done ≤ at
    pub within : at ≤ length scrap
    pub fit : Fit w r (length scrap - at)
    pub clean : r ≡ radio_of (ear_of r)

  pub starts : Fit w r₀ (length scrap) → r₀ ≡ radio_of (ear_of r₀) → Going r₀ 0 0 verdicts₀
  unfolding laid
  starts fit clean = record { said = []; is = refl; many = refl; bytes = refl; fewer = zero-le; within = zero-le; fit = subst (Fit w r₀) (omega arith) fit; clean = clean }

  laid_lit : (said : List ℕ) (l : Option ℕ) → noted_at (laid said verdicts₀) (length said) (lit_of l) ≡ laid (said ++ lit_of l) verdicts₀
  laid_lit said None = ap (λ (s : List ℕ). laid s verdicts₀) (sym (append-nil said))
  laid_lit said (Some v) = laid_more said verdicts₀ v

  lit_few : (l : Option ℕ) → length (lit_of l) ≤ 1
  lit_few None = omega arith
  lit_few (Some v) = omega arith

  module _ {r : Radio} {at done : ℕ} {verdicts : List ℕ} (g : Going r at done verdicts) where
    pub long : length verdicts ≡ length verdicts₀
    long = ap length g.bytes ∙ laid_length g.said verdicts₀

    module _ (more : at < length scrap) {rest : List ℕ} (is_rest : rest ≡ drop at scrap) where
      rest_long : length rest ≡ length scrap - at
      rest_long = ap length is_rest ∙ length-drop at scrap

      pub rest_fit : Fit w r (length rest) × (0 < length rest)
      rest_fit = (subst (Fit w r) (sym rest_long) g.fit, omega (arith, rest_long))

    module _ (more : at < length scrap) {rest : List ℕ} (is_rest : rest ≡ drop at scrap) {p : Pieced} (is_p : p ≡ piece_of w r.standing r rest) where
      pub turned : Turning w step few r rest p.took (turned_of w step p.whole p.radio)
      turned = subst (λ (x : Pieced). Turning w step few r rest x.took (turned_of w step x.whole x.radio)) (sym is_p)
          (turning w step few r rest (rest_fit more is_rest).0 g.clean (rest_fit more is_rest).1 r.standing refl)

      pub at_within : at + p.took ≤ length scrap
      at_within = omega (arith, turned.within, rest_long more is_rest)

      pub at_more : 0 < p.took
      at_more = turned.some

      pub line_small : (p.radio.len ≤ 40) × (p.radio.start + p.radio.len < 2 ^ 63) × (length p.radio.part ≡ 40)
      line_small = subst (λ (x : Pieced). (x.radio.len ≤ 40) × (x.radio.start + x.radio.len < 2 ^ 63) × (length x.radio.part ≡ 40)) (sym is_p)
          (piece_small w r rest (rest_fit more is_rest).0 few (rest_fit more is_rest).1 r.standing)

      pub goes_on : {t : Turned} → t ≡ turned_of w step p.whole p.radio → {done' : ℕ} {verdicts' : List ℕ} → done' ≡ done + length (lit_of t.lit)
          → verdicts' ≡ noted_at verdicts done (lit_of t.lit) → Going t.radio (at + p.took) done' verdicts'
      goes_on {t} is-t {done'} {verdicts'} count stores =
          let u = subst (Turning w step few r rest p.took) (sym is-t) turned in
          record {
            said = g.said ++ lit_of t.lit;
            is = ap (λ (s : List ℕ). hear_all w step (heard_by r₀ []) s) (take-add at p.took scrap ∙ ap (λ (s : List ℕ). take at scrap ++ take p.took s) (sym is_rest))
                ∙ foldl-append (hear w step) (heard_by r₀ []) (take at scrap) (take p.took rest)
                ∙ ap (λ (h : Heard). hear_all w step h (take p.took rest)) g.is ∙ u.is g.said;
            many = omega (arith, count, g.many, length-append g.said (lit_of t.lit));
            bytes = stores ∙ ap₂ (λ (v : List ℕ) (n : ℕ). noted_at v n (lit_of t.lit)) g.bytes g.many ∙ laid_lit g.said t.lit;
            fewer = omega (arith, count, lit_few t.lit, u.some, g.fewer);
            within = omega (arith, u.within, rest_long more is_rest);
            fit = subst (Fit w t.radio) (omega (arith, rest_long more is_rest, u.within)) u.fit;
            clean = u.clean;
          }

    pub ends : length scrap ≤ at → Listened (hear_all w step (heard_by r₀ []) scrap) verdicts₀ verdicts (record { radio = r; done = done })
    ends l =
        let all : hear_all w step (heard_by r₀ []) scrap ≡ heard_by r g.said = ap (λ (s : List ℕ). hear_all w step (heard_by r₀ []) s) (sym (take_all at scrap l)) ∙ g.is in
        rw all (record { radio = g.clean; done = g.many; bytes = g.bytes })

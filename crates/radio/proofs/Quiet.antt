-- A SCRAP THAT ENDS NO LINE: what its one piece leaves is what its bytes leave one by one, whatever the step is, for no event is taken. So nothing of what the rule says is asked.
use Rattle.std.specs.Prelude.{ℕ, ◌≤◌, ◌<◌, ◌≡◌, Bool, true, false, ◌||◌, ltb}
use Rattle.std.proofs.Common.{arith, sym, ◌∙◌, take_all}
use Rattle.std.proofs.Math.Path.{refl, ap₂, subst}
use Rattle.std.proofs.lemmas.Bool.{false≢true}
use Rattle.std.proofs.Math.Logic.{⊎_elim}
use mathlib.Core.List.{List, [], ◌∷◌}
use borrow.Author.Tests.{lt-ltb}
use Rattle.std.proofs.Math.ListN.{length}
use Rattle.text.specs.Cases.{below_or_beyond}
use Rattle.event_log.specs.declared.Event.{Event}
use Rattle.sides.specs.declared.Monitor.{Monitor}
use Rattle.monitor.specs.declared.Watched.{Watched}
use Rattle.course.specs.Laid.{laid}
use Rattle.std.specs.Prelude.{None}
use Rattle.radio.specs.declared.Radio.{Radio}
use Rattle.radio.specs.declared.piece.Pieced.{Pieced}
use Rattle.radio.specs.Radio.{Ear, hear_all}
use Rattle.radio.specs.Kept.{ear_of, radio_of, heard_by, Fit, piece_of, turned_of, Listened}
use Rattle.radio.proofs.Turning.{Turning, turning}
use Rattle.radio.proofs.Ending.{clean_ear, clean_clean, clean_fit}

neither : (a b : Bool) → (a || b) ≡ false → (a ≡ false) × (b ≡ false)
neither false false e = (refl, refl)
neither false true e = absurd (false≢true (sym e))
neither true b e = absurd (false≢true (sym e))

module _ (w : ℕ) (step : Monitor → Event → Watched) (few : w ≤ 4) {r c : Radio} (scrap : List ℕ) (fit : Fit w r (length scrap)) (is : c ≡ radio_of (ear_of r)) (before : List ℕ) where
  -- no byte at all
  pub quiet_none : length scrap ≡ 0 → Listened (hear_all w step (heard_by r []) scrap) before before (record { radio = c; done = 0 })
  unfolding laid
  quiet_none = by scrap
    where
      by : (s : List ℕ) → length s ≡ 0 → Listened (hear_all w step (heard_by r []) s) before before (record { radio = c; done = 0 })
      by [] e = record { radio = is; done = refl; bytes = refl }
      by (b ∷ s) e = absurd (omega arith)

  -- one piece, with which the line is not whole, and there are no bytes behind it
  pub quiet_piece : 0 < length scrap → {p : Pieced} → p ≡ piece_of w c.standing c scrap → (p.whole || ltb p.took (length scrap)) ≡ false
      → Listened (hear_all w step (heard_by r []) scrap) before before (record { radio = p.radio; done = 0 })
  unfolding laid
  quiet_piece some {p} is_p quiet =
      let (unfinished, no_more) = neither p.whole (ltb p.took (length scrap)) quiet in
      let enough : length scrap ≤ p.took = ⊎_elim (λ (l : p.took < length scrap). absurd (false≢true (sym no_more ∙ lt-ltb p.took (length scrap) l))) (λ (l : length scrap ≤ p.took). l)
      (below_or_beyond p.took (length scrap)) in
      let turned = subst (λ (x : Pieced). Turning w step few c scrap x.took (turned_of w step x.whole x.radio)) (sym is_p)
      (turning w step few c scrap (clean_fit w fit is) (clean_clean w fit is) some c.standing refl) in
      let dark : Turning w step few c scrap p.took (record { radio = p.radio; lit = None }) = subst (λ (b : Bool). Turning w step few c scrap p.took (turned_of w step b p.radio)) unfinished turned in
      let heard : hear_all w step (heard_by r []) scrap ≡ heard_by p.radio [] =
      ap₂ (λ (e : Ear) (s : List ℕ). hear_all w step (record { ear = e; verdicts = [] }) s) (sym (clean_ear w fit is)) (sym (take_all p.took scrap enough)) ∙ dark.is [] in
      rw heard (record { radio = dark.clean; done = refl; bytes = refl })

-- THE CALL, SCRAP AFTER SCRAP: where each has room for its line ends and the log is not too long, the verdicts written and what is kept in the end are those of the bytes joined.
use Rattle.std.specs.Prelude.{ℕ, ◌+◌, ◌≤◌, ◌≡◌, refl, Ok, Err}
use Rattle.std.proofs.Common.{arith, sym, subst, ◌∙◌}
use Rattle.std.proofs.Math.Path.{ap, ap₂}
use mathlib.Core.List.{List, [], ◌∷◌, ◌++◌, append-nil}
use Rattle.std.proofs.Math.ListN.{length}
use Rattle.pairs.specs.declared.Pairs.{Pairs}
use Rattle.answers.specs.Results.{Outcome}
use Rattle.plant.specs.declared.Plant.{Plant}
use Rattle.syntax.specs.declared.Rule.{Rule}
use Rattle.text.specs.Number.{width_of, width_between}
use Rattle.event_log.specs.declared.Event.{Event}
use Rattle.sides.specs.declared.Monitor.{Monitor}
use Rattle.monitor.specs.declared.Watched.{Watched}
use Rattle.monitor.specs.Calls.{step_call}
use Rattle.radio.specs.declared.Radio.{Radio}
use Rattle.radio.specs.Radio.{Ear, Heard, hear_all}
use Rattle.radio.proofs.PiecesLaws.{hears_no_more}
use Rattle.radio.specs.Kept.{ear_of, radio_of, heard_by}
use Rattle.radio.specs.Laws.{padded_back}
use Rattle.radio.proofs.Turning.{line_few}
use Rattle.scraps.specs.Calls.{Took, took_by, take_outcome, take_call}
use Rattle.cuttings.specs.Cut.{joined, behind, all_behind, Sound, sound_all}

-- a scrap, and how many bytes its verdict buffer has
pub record Scrap : Type 0 where
  pub bytes : List ℕ
  pub room : ℕ

-- the bytes joined
unfoldable pub text : List Scrap → List ℕ
text [] = []
text (s ∷ ss) = s.bytes ++ text ss

-- what is kept is read back
pub ear_back : (w : ℕ) (step : Monitor → Event → Watched) → w ≤ 4 → (n : ℕ) (e : Ear) → Sound w step n e → ear_of (radio_of e) ≡ e
unfolding radio_of
ear_back w step few n e sound = ap (λ (p : List ℕ). record { part = p; start = e.start; form = e.form; standing = e.standing; monitor = e.monitor })
    (padded_back e.part (omega (arith, sound.keep.short, line_few w e.part few)))

module _ (p : Plant) (fair label next : List ℕ) (rule : Rule) (live : Pairs) where
  abbrev w : ℕ
  w = width_of p.props

  abbrev all : Heard → List ℕ → Heard
  all h s = hear_all w (step_call p fair label next rule live) h s

  abbrev call : Radio → Scrap → Took
  call r s = take_call p fair label next rule live r s.bytes s.room

  -- the checks pass, or the answer is the refusal that stands: no scrap is refused for itself
  unfoldable pub Fine : Radio → Scrap → Type 0
  Fine r s = take_outcome p fair label next rule live r s.bytes s.room ≡ r.standing

  -- each call from what the one before left
  unfoldable pub radio_after : Radio → List Scrap → Radio
  radio_after r [] = r
  radio_after r (s ∷ ss) = radio_after (call r s).taken.radio ss

  -- the verdicts that they write, one behind the other
  unfoldable pub said : Radio → List Scrap → List ℕ
  said r [] = []
  said r (s ∷ ss) = (call r s).verdicts ++ said (call r s).taken.radio ss

  unfoldable pub AllFine : Radio → List Scrap → Type 0
  AllFine r [] = Unit {0}
  AllFine r (s ∷ ss) = Fine r s × AllFine (call r s).taken.radio ss

  -- one call is its bytes
  one : (r : Radio) (s : Scrap) → Fine r s → (n : ℕ) → Sound w (step_call p fair label next rule live) n (ear_of r) → (ear_of (call r s).taken.radio ≡ (all (heard_by r []) s.bytes).ear) × ((call r s).verdicts ≡ (all (heard_by r []) s.bytes).verdicts)
  unfolding take_call Fine
  one r s fine n sound = go (take_outcome p fair label next rule live r s.bytes s.room) fine
    where
      h : Heard
      h = all (heard_by r []) s.bytes

      go : (o : Outcome) → o ≡ r.standing → (ear_of (took_by o r (all (heard_by r []) s.bytes)).taken.radio ≡ (all (heard_by r []) s.bytes).ear) × ((took_by o r (all (heard_by r []) s.bytes)).verdicts ≡ (all (heard_by r []) s.bytes).verdicts)
      go (Ok _) e =
          (ear_back w (step_call p fair label next rule live) (width_between p.props).1 (n + length s.bytes) h.ear (sound_all w (step_call p fair label next rule live) s.bytes n (heard_by r []) sound), refl)
      go (Err x) e =
          let same = hears_no_more w (step_call p fair label next rule live) (heard_by r []) (sym e) s.bytes in
          (ap (λ (g : Heard). g.ear) (sym same), ap (λ (g : Heard). g.verdicts) (sym same))

  -- ANY LIST OF SCRAPS is the text that they join to
  pub any_cutting : (ss : List Scrap) (r : Radio) (n : ℕ) → Sound w (step_call p fair label next rule live) n (ear_of r) → AllFine r ss
      → (ear_of (radio_after r ss) ≡ (hear_all (width_of p.props) (step_call p fair label next rule live) (heard_by r []) (text ss)).ear)
      × (said r ss ≡ (hear_all (width_of p.props) (step_call p fair label next rule live) (heard_by r []) (text ss)).verdicts)
  unfolding radio_after said text AllFine
  any_cutting [] r n sound fine = (refl, refl)
  any_cutting (s ∷ ss) r n sound (f, fs) =
      let step = step_call p fair label next rule live in
      let (ear, verdicts) = one r s f n sound in
      let r' = (call r s).taken.radio in
      let later = sound_all w step s.bytes n (heard_by r []) sound in
      let (rest, more) = any_cutting ss r' (n + length s.bytes) (subst (Sound w step (n + length s.bytes)) (sym ear) later) fs in
      let first = all (heard_by r []) s.bytes in
      let whole : all (heard_by r []) (s.bytes ++ text ss) ≡ behind w step first.verdicts (all (heard_by r' []) (text ss)) =
      joined w step (heard_by r []) s.bytes (text ss)
      ∙ ap (λ (vs : List ℕ). hear_all w step (record { ear = first.ear; verdicts = vs }) (text ss)) (sym (append-nil first.verdicts))
      ∙ all_behind w step first.verdicts (text ss) (record { ear = first.ear; verdicts = [] })
      ∙ ap (λ (e : Ear). behind w step first.verdicts (hear_all w step (record { ear = e; verdicts = [] }) (text ss))) (sym ear) in
      (rest ∙ ap (λ (g : Heard). g.ear) (sym whole), ap₂ (λ (a b : List ℕ). a ++ b) verdicts more ∙ ap (λ (g : Heard). g.verdicts) (sym whole))

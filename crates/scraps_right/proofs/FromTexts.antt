-- FROM THE BYTES OF A TABLE, A RULE AND SCRAPS to what the runs of the plant dictate: however a log is cut, each verdict byte is right for the events before it. Here is the claim of
-- specs/ScrapsRight proved.
use Rattle.std.specs.Prelude.{ℕ, ◌≡◌, refl, List, length, get_or, take, replicate}
use Rattle.std.proofs.Common.{arith, sym, ap, ap₂, subst, ◌∙◌}
use Rattle.std.proofs.lemmas.List.{length-map, length-replicate}
use Rattle.std.proofs.Math.Seq.{take-append_seam}
use Rattle.meaning.specs.Run.{Plant}
use Rattle.words.specs.Over.{over}
use Rattle.answers.specs.Paper.{number_of}
use Rattle.text.specs.Number.{width_of}
use Rattle.text.specs.Written.{small_of}
use Rattle.event_log.specs.declared.Event.{Event}
use Rattle.event_log.specs.declared.LogRead.{LogRead}
use Rattle.event_log.specs.Log.{nothing}
use Rattle.event_log.specs.Read.{log_read, whole_lines, event_at}
use Rattle.event_log.specs.Promises.{log_slots, log_text, AllWritable}
use Rattle.event_log.proofs.Promises.{accepted_text}
use Rattle.opened.specs.declared.Opened.{Opened}
use Rattle.opened.specs.Opened.{opened_of}
use Rattle.controller.specs.declared.LogAnswer.{LogAnswer}
use Rattle.controller.specs.Whole.{heard_of}
use Rattle.transcript.specs.Said.{bytes}
use Rattle.front_door.specs.FrontDoor.{SaysLog}
use Rattle.front_door.specs.WholeLog.{Closes, at_end_lem, at_event, at_number, answer_of}
use Rattle.front_door.proofs.FromLog.{whole_log_right, start, behind_rule}
use Rattle.cuttings.specs.Scraps.{Scrap, text}
use Rattle.scraps_right.specs.Claims.{lines_of, said_by_all, end_of_all, GivenTexts, stop_or, count_of}
use Rattle.scraps_right.specs.ScrapsRight.{Heeds, ScrapsRight}
use Rattle.scraps_right.specs.Texts.{lines_read_lem}
use Rattle.scraps_right.proofs.Beside.{lines_alone}

closes_count : {t : Plant} {es : List Event} {k : ℕ} {a : LogAnswer} → Closes t es k a → count_of a ≡ k
closes_count (at_end_lem h) = refl
closes_count (at_event k low h bad) = refl
closes_count (at_number k low h fine bad) = refl

-- what was laid over a buffer is its start
over_start : (a b old : List ℕ) → length a ≡ length b → over a old ≡ over b old → a ≡ b
over_start a b old same e = sym (take-append_seam a _) ∙ ap₂ (λ (n : ℕ) (l : List ℕ). take n l) same e ∙ take-append_seam b _

-- what the whole-log call says of the lines alone, of w digits each
Alone : List ℕ → List ℕ → List Scrap → ℕ → ℕ → Type 0
Alone table rule ss w buffer =
    let heard = heard_of table rule (lines_of w (text ss)) buffer in
    (said_by_all table rule ss ≡ heard.bytes) × (length (said_by_all table rule ss) ≡ count_of heard.answer) × (end_of_all table rule ss ≡ stop_or heard.answer (log_read w (text ss)).outcome)

pub scraps_right_lem : ScrapsRight
unfolding Alone
scraps_right_lem table rule t f table_says accepted rule_says ss room few = by (accepted_text w log (ap (λ (r : LogRead). r.outcome) (lines_read_lem w (text ss))))
  where
    w : ℕ
    w = width_of t.props

    log : List ℕ
    log = lines_of (width_of t.props) (text ss)

    opened : opened_of table rule ≡ start t accepted table table_says rule f rule_says
    opened = behind_rule t accepted table table_says rule f rule_says

    by : ((es : List Event) × AllWritable w es × (small_of (log_slots w es) log ≡ log_text w es) × ((log_read w log).lines ≡ length es) × ((k : ℕ) → event_at w log k ≡ get_or es k nothing))
        → Heeds t f (text ss) (said_by_all table rule ss) (end_of_all table rule ss)
    by (es, ok, small, lines, at) =
        let buffer : List ℕ = replicate (length es) 0 in
        let long : length buffer ≡ length es = length-replicate {A = ℕ} (length es) 0 in
        let says : SaysLog (bytes log) t.props es = record { text = log; is = refl; said = small; writable = ok } in
        let watches = whole_log_right table rule log buffer t f es table_says accepted rule_says says (omega (arith, long)) in
        let many : whole_lines w log ≡ length es = ap (λ (r : LogRead). r.lines) (sym (lines_read_lem w (text ss))) ∙ lines in
        let props : (opened_of table rule).table.plant.props ≡ t.props = ap (λ (o : Opened). o.table.plant.props) opened in
        let given : GivenTexts table rule ss = record { opened = ap (λ (o : Opened). o.outcome) opened; roomy = room; short = few } in
        let (said, count, ends) = subst (λ (q : ℕ). Alone table rule ss (width_of q) (length buffer)) props (lines_alone table rule ss given (length buffer) (rw props (omega (arith, many, long)))) in
        record {
          events = es;
          says = says;
          verdicts = watches.verdicts;
          are = said ∙ over_start _ _ buffer (ap length (sym said) ∙ count ∙ closes_count watches.closes ∙ sym (length-map watches.verdicts number_of)) watches.is;
          byte_right = watches.byte_right;
          answer = answer_of table rule log buffer;
          closes = watches.closes;
          ends = ends;
        }

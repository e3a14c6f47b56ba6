-- What the loop over a log has done behind n lines, and that it goes on, stops and ends as the definition says.
use Prim.Native.Nat.{ℕ, zero, suc, ◌+◌, ◌-◌, ◌<◌}
use Rattle.std.proofs.Math.Nat.{zero-add, suc-add}
use Rattle.std.proofs.Common.{add-one, arith, sym, ◌∙◌}
use Rattle.std.specs.Prelude.{◌≡◌, Ok, Err}
use Rattle.std.proofs.Math.Path.{refl, ap}
use Rattle.answers.specs.declared.Lamp.{Lamp}
use Rattle.answers.specs.declared.Refusal.{Refusal}
use Rattle.answers.specs.Results.{Answer}
use Rattle.answers.specs.Results.{Outcome}
use Rattle.event_log.specs.declared.Event.{Event}
use Rattle.sides.specs.declared.Monitor.{Monitor}
use Rattle.stretches.specs.declared.DaySheet.{DaySheet}
use Rattle.day_sheet.specs.declared.Noted.{Noted}
use Rattle.day_log.specs.declared.DayWent.{DayWent}
use Rattle.day_log.specs.Day.{takes, go_on, day_to}

abbrev went : Outcome → ℕ → Monitor → DaySheet → DayWent
went o n m s = record { outcome = o; done = n; monitor = m; sheet = s }

module _ (note : Monitor → DaySheet → Event → Noted) (m : Monitor) (s : DaySheet) (event : ℕ → Event) where
  -- behind n lines, all of which were taken
  abbrev pub Gone : ℕ → Monitor → DaySheet → Type 0
  Gone n now day = day_to note m s event n ≡ went (Ok tt) n now day

  pub starts : Gone 0 m s
  unfolding day_to
  starts = refl

  -- behind a refusal nothing more happens
  stays : (n k : ℕ) {r : Refusal} → (day_to note m s event n).outcome ≡ Err r → day_to note m s event (k + n) ≡ day_to note m s event n
  unfolding day_to
  stays n zero e = rw zero-add refl
  stays n (suc k) e =
      rw suc-add (ap (λ (w : DayWent). go_on note w (event (k + n)) w.outcome) (stays n k e) ∙ ap (go_on note (day_to note m s event n) (event (k + n))) e)

  module _ {n : ℕ} {now : Monitor} {day : DaySheet} (g : Gone n now day) {e : Event} (line : e ≡ event n) {noted : Noted} (is : noted ≡ note now day e) where
    on : (a : Answer) → noted.answer ≡ a → day_to note m s event (suc n) ≡ takes (went (Ok tt) n now day) noted a
    unfolding day_to
    on a told =
        ap (λ (w : DayWent). go_on note w (event n) w.outcome) g ∙ ap (λ (e : Event). takes (went (Ok tt) n now day) (note now day e) (note now day e).answer) (sym line)
        ∙ ap (λ (x : Noted). takes (went (Ok tt) n now day) x x.answer) (sym is) ∙ ap (takes (went (Ok tt) n now day) noted) told

    pub goes_on : {l : Lamp} → noted.answer ≡ Ok l → Gone (n + 1) noted.monitor noted.sheet
    goes_on {l} told = rw add-one (on (Ok l) told)

    pub stops : (last : ℕ) {r : Refusal} → noted.answer ≡ Err r → n < last → went (Err r) n now day ≡ day_to note m s event last
    stops last {r} told before =
        let stopped = on (Err r) told in
        let rest : last ≡ last - suc n + suc n = omega arith in
        sym stopped ∙ sym (stays (suc n) (last - suc n) (ap (λ (w : DayWent). w.outcome) stopped)) ∙ ap (day_to note m s event) (sym rest)

  pub ends : {n : ℕ} {now : Monitor} {day : DaySheet} → Gone n now day → {last : ℕ} {done : ℕ} → n ≡ done → done ≡ last → went (Ok tt) done now day ≡ day_to note m s event last
  ends {n} {now} {day} g e f = ap (λ (k : ℕ). went (Ok tt) k now day) (sym e) ∙ sym g ∙ ap (day_to note m s event) (e ∙ f)

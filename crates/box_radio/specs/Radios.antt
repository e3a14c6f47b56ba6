-- WHAT THE CALLS ON SCRAPS ANSWER for what a box holds, and the box behind them.
use Rattle.std.specs.Prelude.{ℕ, Bool, cond, List}
use Rattle.answers.specs.Results.{Outcome}
use Rattle.plant.specs.declared.Plant.{Plant}
use Rattle.opened.specs.Opened.{fair_in, label_in, next_in}
use Rattle.controller.specs.declared.LogAnswer.{LogAnswer}
use Rattle.controller.specs.declared.LogAnswer.TheVariants.{Watched, Stopped, Refused}
use Rattle.radio.specs.declared.Radio.{Radio}
use Rattle.radio_words.specs.Words.{radio_in, can_stand, with_radio}
use Rattle.scraps.specs.declared.Taken.{Taken}
use Rattle.scraps.specs.Calls.{Took, take_call, finish_call}
use Rattle.slate.specs.declared.Held.{Held}
use Rattle.slate.specs.Box.{held_in, with_monitor}

-- no proposition is counted where a word of the radio is more than its field can hold
abbrev pub plant_where : Bool → Plant → Plant
plant_where fits p = cond fits p (record { props = 0; states = p.states; start = p.start; just = p.just })

unfoldable pub took_from : Held → Radio → Bool → List ℕ → ℕ → Took
took_from h r fits scrap room = take_call (plant_where fits h.table.plant) (fair_in h.table) (label_in h.table) (next_in h.table) h.rule h.live r scrap room

unfoldable pub end_from : Held → Radio → Bool → Outcome
end_from h r fits = finish_call (plant_where fits h.table.plant) (fair_in h.table) (label_in h.table) (next_in h.table) h.rule h.live r

-- what any words give
abbrev pub took_in : List ℕ → List ℕ → ℕ → Took
took_in w scrap room = took_from (held_in w) (radio_in w (held_in w).monitor) (can_stand w) scrap room

abbrev pub end_in : List ℕ → Outcome
end_in w = end_from (held_in w) (radio_in w (held_in w).monitor) (can_stand w)

-- a scrap of which nothing was taken leaves the box as it was, any other changes its monitor and its radio
abbrev pub box_by : LogAnswer → List ℕ → List ℕ → List ℕ
box_by (Watched n) new old = new
box_by (Stopped s) new old = new
box_by (Refused r) new old = old

abbrev pub box_taken : List ℕ → Taken → List ℕ
box_taken w t = box_by t.answer (with_radio (with_monitor w t.radio.monitor) t.radio) w

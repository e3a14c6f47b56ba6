-- EACH HYPOTHESIS IS NEEDED: pairs of texts that meet all hypotheses of Sensors but one, and the second lamp does not say as much as the first. From the bytes of the texts to the lamp
-- behind the last event, computed as the marked examples are (marked/specs/Marked).
use Rattle.std.specs.Prelude.{ℕ, ◌≡◌, refl, true, false, List, [], ◌∷◌, ◌++◌, map}
use Prim.Native.String.{String}
use Rattle.std.proofs.Common.{ap, ap₂, arith, ⊎_elim}
use Rattle.std.proofs.Math.Bool.{So}
use Rattle.words.specs.Truth.{and_says}
use Rattle.words.specs.Below.{any_below, count_below, list_below, union_below, word_of, filled, words_below}
use Rattle.meaning.specs.Bit.{bit}
use Rattle.meaning.specs.Formula.{Formula, prop, neg, next, finally, globally, implies, parts}
use Rattle.meaning.specs.Run.{Plant}
use Rattle.meaning.specs.Event.{Event}
use Rattle.meaning.specs.Verdict.{verdict_of}
use Rattle.meaning.specs.Step.{value, table, fit, every}
use Rattle.theory.specs.Move.{settled}
use Rattle.theory.specs.Narrow.{Narrower}
use Rattle.pairs.specs.Sets.{join_of, states_of, left_of, same_of}
use Rattle.pairs.specs.Post.{post_of}
use Rattle.moves.specs.Image.{reached_at}
use Rattle.moves.specs.Back.{pre_of}
use Rattle.moves.specs.Leading.{leading_at, leading_of}
use Rattle.labels.specs.Labels.{agreeing_of}
use Rattle.model.specs.Settle.{settle}
use Rattle.model.specs.Moves.{leaving, entering, from, to}
use Rattle.model.specs.LiveSet.{meet_of, before, widen, reaching, goal_sets, narrow, all_pairs, live_set}
use Rattle.model.specs.Monitor as model
use Rattle.model.specs.Monitor.{holding, opens_at, opening, source_at, kept_of, step_of, run_of, left}
use Rattle.text.specs.Slot.{digit_value, admits, matched}
use Rattle.text.specs.Number.{width_of, digit_or0, hex_slots, hex_guess, lead_of, next_of, last_of, count_slots, count_of}
use Rattle.text.specs.Form.{led, ended, both, seen}
use Rattle.text.specs.Hex.{hex}
use Rattle.text.specs.Count.{counted}
use Rattle.text.specs.Many.{offset, slots_below, listed}
use Rattle.text.specs.Lines.{begun}
use Rattle.text.specs.LinesRead.{lines_read, line_or}
use Rattle.answers.specs.Paper.{Paper, verdict, refused, accepted}
use Rattle.plant.specs.Table.{united}
use Rattle.plant.specs.Read.{table_read, read_as}
use Rattle.syntax.specs.Bytes.{sign_of, leaf_of, lex_sign, lex, name_of, name_bytes}
use Rattle.syntax.specs.Postfix.{decode}
use Rattle.syntax.specs.Reader.{head, tail, read, more, parse}
use Rattle.syntax.specs.Scan.{closes, scan_from, scan, named, teen}
use Rattle.syntax.specs.Value.{count, ops_of, nodes_of, formula_of}
use Rattle.reader.specs.Draft.{written}
use Rattle.rule_text.specs.Reading.{unknown, unknown_at}
use Rattle.event_log.specs.Legal.{legal_of}
use Rattle.event_log.specs.Lead.{leading}
use Rattle.event_log.specs.Read as log_read_lem
use Rattle.event_numbers.specs.Numbers.{in_turn, event_outcome}
use Rattle.marked.specs.Marked.{bytes, lines, Row, neither, unseen}
use Rattle.marked.specs.Marked as saw
use Rattle.promises.specs.ThreeTexts.{shown_for, Said, said_by, model_shown, texts_shown}

-- ---- texts

abbrev row : List ℕ → String → List String → Paper → Row
row table rule es n = record { table = table; rule = bytes rule; log = lines es; shows = n }

-- plant W of 01, with other starting states, fairness set, label and next states of state 0
abbrev plant : String → List String → String → String → List ℕ
plant start just first goes =
    lines ("props=2" ∷ "states=3" ∷ start ∷ []) ++ lines just ++ lines (first ∷ goes ∷ "label1=01" ∷ "next1=0000000000000006" ∷ "label2=02" ∷ "next2=0000000000000005" ∷ [])

abbrev W : List ℕ
W = plant "start=0000000000000001" ("just=0" ∷ []) "label0=00" "next0=0000000000000003"

-- with the fairness set {0, 2}, and with that of all states
abbrev fair_w : List ℕ
fair_w = plant "start=0000000000000001" ("just=1" ∷ "j0=0000000000000005" ∷ []) "label0=00" "next0=0000000000000003"

abbrev easy_w : List ℕ
easy_w = plant "start=0000000000000001" ("just=1" ∷ "j0=0000000000000007" ∷ []) "label0=00" "next0=0000000000000003"

-- state 0 labelled otherwise; starting in 1 too; with no move from 0 to itself
abbrev other_w : List ℕ
other_w = plant "start=0000000000000001" ("just=0" ∷ []) "label0=01" "next0=0000000000000003"

abbrev open_w : List ℕ
open_w = plant "start=0000000000000003" ("just=0" ∷ []) "label0=00" "next0=0000000000000003"

abbrev few_w : List ℕ
few_w = plant "start=0000000000000001" ("just=0" ∷ []) "label0=00" "next0=0000000000000002"

-- ---- the pairs

-- what is not met, and the two: the verdict's number with `left`, behind the last event
pub record Pair : Type 0 where
  pub unlike : String
  pub first : Row
  pub second : Row

abbrev pair : String → Row → Row → Pair
pair name a b = record { unlike = name; first = a; second = b }

abbrev pub pairs : List Pair
pairs =
    pair "values"
    (row W "Fp1" (neither ∷ saw.first ∷ saw.second ∷ []) (verdict 1 1))
    (row W "Fp1" (neither ∷ neither ∷ neither ∷ []) (verdict 0 1))
    ∷ pair "sight"
    (row W "Fp1" (neither ∷ saw.first ∷ saw.second ∷ []) (verdict 1 1))
    (row W "Fp1" (neither ∷ unseen ∷ unseen ∷ []) (verdict 0 3))
    ∷ pair "restarts"
    (row W "!p0" (neither ∷ saw.first ∷ []) (verdict 1 1))
    (row W "!p0" (neither ∷ "see=03 val=01 new=1" ∷ []) (verdict 2 1))
    ∷ pair "numbers"
    (row W "Xp0" ("num=00000000 see=03 val=00 new=0" ∷ "num=00000001 see=03 val=01 new=0" ∷ []) (verdict 1 1))
    (row W "Xp0" ("num=00000000 see=03 val=00 new=0" ∷ "num=00000002 see=03 val=01 new=0" ∷ []) (verdict 0 1))
    ∷ pair "fairness sets"
    (row fair_w "G(p0->Fp1)" (neither ∷ []) (verdict 1 1))
    (row easy_w "G(p0->Fp1)" (neither ∷ []) (verdict 0 1))
    ∷ pair "labels"
    (row W "!p0" (unseen ∷ []) (verdict 1 1))
    (row other_w "!p0" (unseen ∷ []) (verdict 2 1))
    ∷ pair "starting set"
    (row W "!p0" (unseen ∷ []) (verdict 1 1))
    (row open_w "!p0" (unseen ∷ []) (verdict 0 2))
    ∷ pair "next sets"
    (row few_w "Xp0" (unseen ∷ []) (verdict 1 1))
    (row W "Xp0" (unseen ∷ []) (verdict 0 1))
    ∷ []

-- ---- the claim

abbrev pub rows_of : List Pair → List Row
rows_of [] = []
rows_of (p ∷ ps) = p.first ∷ p.second ∷ rows_of ps

abbrev pub said_in : Row → Said
said_in r = said_by r.table r.rule r.log

-- the tables, rules and events that the texts say
abbrev table3 : ℕ → List ℕ → ℕ → ℕ → Plant
table3 start just first goes = record { props = 2; states = 3; start = start; fair = just; label = first ∷ 1 ∷ 2 ∷ []; next = goes ∷ 6 ∷ 5 ∷ [] }

abbrev w : Plant
w = table3 1 [] 0 3

abbrev see : ℕ → ℕ → Event
see s v = record { seen = record { see = s; val = v }; new = false }

abbrev new : ℕ → ℕ → Event
new s v = record { seen = record { see = s; val = v }; new = true }

abbrev says : Plant → Formula → List Event → Said
says t f es = record { fine = true; on = t; rule = f; log = es }

abbrev answered : Formula
answered = globally (implies (prop 0) (finally (prop 1)))

abbrev pub said : List Said
said =
    says w (finally (prop 1)) (see 3 0 ∷ see 3 1 ∷ see 3 2 ∷ [])
    ∷ says w (finally (prop 1)) (see 3 0 ∷ see 3 0 ∷ see 3 0 ∷ [])
    ∷ says w (finally (prop 1)) (see 3 0 ∷ see 3 1 ∷ see 3 2 ∷ [])
    ∷ says w (finally (prop 1)) (see 3 0 ∷ see 0 0 ∷ see 0 0 ∷ [])
    ∷ says w (neg (prop 0)) (see 3 0 ∷ see 3 1 ∷ [])
    ∷ says w (neg (prop 0)) (see 3 0 ∷ new 3 1 ∷ [])
    ∷ says w (next (prop 0)) (see 3 0 ∷ see 3 1 ∷ [])
    ∷ says w (next (prop 0)) (see 3 0 ∷ see 0 0 ∷ see 3 1 ∷ [])
    ∷ says (table3 1 (5 ∷ []) 0 3) answered (see 3 0 ∷ [])
    ∷ says (table3 1 (7 ∷ []) 0 3) answered (see 3 0 ∷ [])
    ∷ says w (neg (prop 0)) (see 0 0 ∷ [])
    ∷ says (table3 1 [] 1 3) (neg (prop 0)) (see 0 0 ∷ [])
    ∷ says w (neg (prop 0)) (see 0 0 ∷ [])
    ∷ says (table3 3 [] 0 3) (neg (prop 0)) (see 0 0 ∷ [])
    ∷ says (table3 1 [] 0 2) (next (prop 0)) (see 0 0 ∷ [])
    ∷ says w (next (prop 0)) (see 0 0 ∷ [])
    ∷ []

pub texts_read : map said_in (rows_of pairs) ≡ said
unfolding table_read read_as union_below list_below united width_of digit_or0 hex_slots hex_guess lead_of next_of last_of count_slots count_of digit_value admits matched led ended both seen hex counted offset slots_below listed begun lines_read line_or leading log_read_lem.is_numbered log_read_lem.read_as log_read_lem.event_as sign_of leaf_of name_of name_bytes lex_sign lex head tail read more parse closes named teen scan_from scan count ops_of nodes_of written unknown unknown_at decode formula_of legal_of in_turn event_outcome
texts_read = refl

pub lamps_shown : map model_shown said ≡ map (λ (r : Row). r.shows) (rows_of pairs)
unfolding bit any_below count_below union_below list_below word_of filled words_below states_of left_of same_of post_of reached_at pre_of leading_at agreeing_of parts value table fit settled every settle leaving entering from to join_of leading_of meet_of before widen reaching goal_sets narrow all_pairs live_set holding opens_at opening source_at kept_of step_of run_of verdict_of model.verdict left
lamps_shown = refl

-- all texts are accepted
pub all_fine : So (every (λ (x : Said). x.fine) (map said_in (rows_of pairs)))
unfolding every
all_fine = ap (every (λ (x : Said). x.fine)) texts_read

pub all_shown : (rs : List Row) → So (every (λ (x : Said). x.fine) (map said_in rs)) → map (λ (r : Row). shown_for r.table r.rule r.log) rs ≡ map model_shown (map said_in rs)
unfolding every
all_shown [] fine = refl
all_shown (r ∷ rs) fine =
    let (first, others) = (and_says (said_in r).fine (every (λ (x : Said). x.fine) (map said_in rs))).0 fine in
    ap₂ ◌∷◌ (texts_shown r.table r.rule r.log first) (all_shown rs others)

-- ---- and by these the law does not hold

abbrev pub number_in : Paper → ℕ
number_in (verdict n left) = n
number_in (refused n place) = n
number_in (accepted l) = 0

-- the second lamp says less
abbrev pub SaysLess : Pair → Type 0
SaysLess p = Narrower (number_in p.first.shows) (number_in p.second.shows) → ⊥

abbrev pub EachSaysLess : List Pair → Type 0
EachSaysLess [] = Unit {0}
EachSaysLess (p ∷ ps) = SaysLess p × EachSaysLess ps

-- from true neither to inconclusive nor to false
not_open : Narrower 1 0 → ⊥
not_open n = ⊎_elim (λ (e : 0 ≡ 1). absurd (omega (arith, e))) (λ (e : 0 ≡ 3). absurd (omega (arith, e))) (n.from_true refl)

not-false : Narrower 1 2 → ⊥
not-false n = ⊎_elim (λ (e : 2 ≡ 1). absurd (omega (arith, e))) (λ (e : 2 ≡ 3). absurd (omega (arith, e))) (n.from_true refl)

pub each_less : EachSaysLess pairs
each_less = (not_open, (not_open, (not-false, (not_open, (not_open, (not-false, (not_open, (not_open, tt))))))))

-- M1 to M10 (01, Marked examples) and the lines of the program's example (01, Log and program), from the bytes of their texts to the lamp: one table under one claim about the calls. M9 is as request e has it.
use Rattle.std.specs.Prelude.{ℕ, ◌≡◌, refl, true, List, [], ◌∷◌, ◌++◌, map, get_or}
use Prim.Native.Char.{code}
use Prim.Native.String.{String}
use Prim.Native.String as letters
use Rattle.std.proofs.Common.{ap, ap₂}
use Rattle.std.proofs.Math.Bool.{So}
use Rattle.words.specs.Below.{list_below, union_below}
use Rattle.words.specs.Truth.{and_says}
use Rattle.meaning.specs.Step.{every}
use Rattle.text.specs.Slot.{digit_value, admits, matched}
use Rattle.text.specs.Number.{width_of, digit_or0, hex_slots, hex_guess, lead_of, next_of, last_of, count_slots, count_of}
use Rattle.text.specs.Form.{led, ended, both, seen}
use Rattle.text.specs.Hex.{hex}
use Rattle.text.specs.Count.{counted}
use Rattle.text.specs.Many.{offset, slots_below, listed}
use Rattle.text.specs.Lines.{begun}
use Rattle.text.specs.LinesRead.{lines_read, line_or}
use Rattle.model.specs.Marked.{marked}
use Rattle.answers.specs.Paper.{Paper, verdict}
use Rattle.plant.specs.Table.{united}
use Rattle.plant.specs.Read.{table_read, read_as}
use Rattle.syntax.specs.Bytes.{sign_of, leaf_of, lex_sign, lex, name_of, name_bytes}
use Rattle.syntax.specs.Postfix.{decode}
use Rattle.syntax.specs.Reader.{head, tail, read, more, parse}
use Rattle.syntax.specs.Scan.{closes, scan_from, scan, named, teen}
use Rattle.syntax.specs.Value.{count, ops_of, nodes_of}
use Rattle.reader.specs.Draft.{written}
use Rattle.rule_text.specs.Reading.{unknown, unknown_at}
use Rattle.event_log.specs.Legal.{legal_of}
use Rattle.event_log.specs.Lead.{leading}
use Rattle.event_log.specs.Read as log_read_lem
use Rattle.syntax.specs.Value.{formula_of}
use Rattle.event_numbers.specs.Numbers.{in_turn, event_outcome}
use Rattle.promises.specs.ThreeTexts.{shown_for, Said, said_by, model_shown, texts_shown}

-- ---- texts

-- the bytes of a word, and of lines that each end with LF
abbrev pub bytes : String → List ℕ
bytes letters.[] = []
bytes (letters.◌∷◌ c s) = code c ∷ bytes s

abbrev pub lines : List String → List ℕ
lines [] = []
lines (s ∷ ss) = bytes s ++ (10 ∷ lines ss)

-- three texts, and the verdict's number and `left` behind the last event
pub record Row : Type 0 where
  pub table : List ℕ
  pub rule : List ℕ
  pub log : List ℕ
  pub shows : Paper

abbrev row : List ℕ → String → List String → Paper → Row
row table rule es n = record { table = table; rule = bytes rule; log = lines es; shows = n }

-- plant W; with the fairness set {0, 2}; with no next states
abbrev plant : List String → List String → List ℕ
plant just rows = lines ("props=2" ∷ "states=3" ∷ "start=0000000000000001" ∷ []) ++ lines just ++ lines rows

-- the lines of W's states: each may last, and goes on to the next
abbrev round : List String
round =
    "label0=00" ∷ "next0=0000000000000003"
    ∷ "label1=01" ∷ "next1=0000000000000006"
    ∷ "label2=02" ∷ "next2=0000000000000005"
    ∷ []

abbrev W : List ℕ
W = plant ("just=0" ∷ []) round

abbrev fair_w : List ℕ
fair_w = plant ("just=1" ∷ "j0=0000000000000005" ∷ []) round

abbrev dead_w : List ℕ
dead_w = plant ("just=0" ∷ []) ("label0=00" ∷ "next0=0000000000000000" ∷ "label1=01" ∷ "next1=0000000000000000" ∷ "label2=02" ∷ "next2=0000000000000000" ∷ [])

-- events: both signals are seen, with neither of them on, the first, the second or both; nothing is seen
abbrev pub neither : String
neither = "see=03 val=00 new=0"

abbrev pub first : String
first = "see=03 val=01 new=0"

abbrev pub second : String
second = "see=03 val=02 new=0"

abbrev pub two : String
two = "see=03 val=03 new=0"

abbrev pub unseen : String
unseen = "see=00 val=00 new=0"

-- M1 to M10, and the four lines of the program's example
abbrev pub rows : List Row
rows =
    row W "1" [] (verdict 1 1)
    ∷ row W "G(p0->Fp1)" [] (verdict 0 1)
    ∷ row fair_w "G(p0->Fp1)" [] (verdict 1 1)
    ∷ row W "Fp1" (neither ∷ first ∷ second ∷ []) (verdict 1 1)
    ∷ row W "G!p1" (neither ∷ first ∷ second ∷ []) (verdict 2 1)
    ∷ row W "p0R!p1" [] (verdict 1 1)
    ∷ row W "Xp0" (neither ∷ neither ∷ []) (verdict 2 1)
    ∷ row W "Fp1" (neither ∷ two ∷ []) (verdict 3 0)
    ∷ row W "Fp1" (neither ∷ two ∷ "see=03 val=00 new=1" ∷ []) (verdict 3 0)
    ∷ row dead_w "1" [] (verdict 3 0)
    ∷ row W "Fp0" [] (verdict 0 1)
    ∷ row W "Fp0" (neither ∷ []) (verdict 0 1)
    ∷ row W "Fp0" (neither ∷ unseen ∷ []) (verdict 0 2)
    ∷ row W "Fp0" (neither ∷ unseen ∷ "see=02 val=02 new=0" ∷ []) (verdict 1 1)
    ∷ []

-- ---- the claim

abbrev pub said_in : Row → Said
said_in r = said_by r.table r.rule r.log

-- all texts are accepted, and read as the tables, rules and logs of model's table, by the readers' own definitions
pub texts_read : map said_in rows ≡ map (λ m. record { fine = true; on = m.on; rule = m.rule; log = m.log }) marked
unfolding table_read read_as union_below list_below united width_of digit_or0 hex_slots hex_guess lead_of next_of last_of count_slots count_of digit_value admits matched led ended both seen hex counted offset slots_below listed begun lines_read line_or leading log_read_lem.is_numbered log_read_lem.read_as log_read_lem.event_as sign_of leaf_of name_of name_bytes lex_sign lex head tail read more parse closes named teen scan_from scan count ops_of nodes_of written unknown unknown_at decode formula_of legal_of in_turn event_outcome
texts_read = refl

-- so each is shown the model's lamp
pub all_shown : (rs : List Row) → So (every (λ x. x.fine) (map said_in rs)) → map (λ r. shown_for r.table r.rule r.log) rs ≡ map model_shown (map said_in rs)
unfolding every
all_shown [] fine = refl
all_shown (r ∷ rs) fine =
    let (first, others) = (and_says (said_in r).fine (every (λ x. x.fine) (map said_in rs))).0 fine in
    ap₂ ◌∷◌ (texts_shown r.table r.rule r.log first) (all_shown rs others)

pub all_fine : So (every (λ x. x.fine) (map said_in rows))
unfolding every
all_fine = ap (every (λ (x : Said). x.fine)) texts_read

-- what model's table shows, on paper
abbrev pub on_paper : List ℕ → Paper
on_paper l = verdict (get_or l 0 0) (get_or l 1 0)

-- row by row it is what stands here
pub rows_same : map on_paper (map (λ m. m.shows) marked) ≡ map (λ r. r.shows) rows
rows_same = refl

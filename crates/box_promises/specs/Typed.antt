-- What was opened has the types of what a box holds, so that it is read back as it was stored.
use Rattle.std.specs.Prelude.{ℕ, zero, suc, ◌-◌, ◌^◌, ◌≤◌, ◌<◌, ◌≡◌, refl, true, false, List, [], ◌∷◌, ◌++◌, length, get_or, replicate, Ok, Err}
use Rattle.std.proofs.Common.{ap, arith, lt_of_lt_of_le, ltb-true, pow_mono}
use Rattle.std.proofs.Math.Decide.{dec_lt}
use Rattle.std.proofs.Math.ListN.{get_or-eq_default}
use Rattle.meaning.specs.Run as run
use Rattle.meaning.specs.Limits.{AcceptedTable}
use Rattle.meaning.specs.Step.{every}
use Rattle.meaning.specs.Formula.{Formula, size}
use Rattle.words.specs.Lists.{length_list, list_at}
use Rattle.words.specs.Truth.{and_says}
use Rattle.answers.specs.Results.{Outcome}
use Rattle.plant.specs.declared.Table.{Table}
use Rattle.plant.specs.Read.{table_read, table_of}
use Rattle.plant.specs.Promises.{Reading, reading, accepted, beyond, misformed}
use Rattle.syntax.specs.declared.Op.{Op}
use Rattle.syntax.specs.declared.Op.TheVariants.{False, True, Prop, Not, Next, Finally, Globally, Until, Release, And, Or, Implies}
use Rattle.syntax.specs.declared.Rule.{Rule}
use Rattle.syntax.specs.Value.{blank, nodes_of, rule_of}
use Rattle.syntax.specs.Postfix.{postfix}
use Rattle.syntax.specs.Print.{Below}
use Rattle.syntax.proofs.Values.{full_value}
use Rattle.rule_text.specs.Reading.{rule_read}
use Rattle.rule_value.specs.Valid.{known}
use Rattle.rule_value.specs.Values.{below_nodes}
use Rattle.rule.proofs.Promises as rules
use Rattle.live.specs.Prepare.{prepared_of}
use Rattle.live.specs.Promises.{prepare_accepted}
use Rattle.monitor.specs.Calls.{open_call}
use Rattle.course.proofs.CourseRight.{opened_fitting}
use Rattle.opened.specs.declared.Opened.{Opened}
use Rattle.opened.specs.Opened.{made, or_refused, fair_in, label_in, next_in, rule_opened, parts_opened, table_opened, opened_of}
use Rattle.slate.specs.Box.{code_of}
use Rattle.slate.specs.Promises.{Typed}
use Rattle.box_calls.specs.Calls.{held_of}

-- ---- the table

-- how long its arrays are, and that labels have 16 bits
record Tabled (t : Table) : Type 0 where
  fairs : length t.fair ≡ 4
  labels : length t.label ≡ 64
  small : (i : ℕ) → i < 64 → get_or t.label i 0 < 65536
  nexts : length t.next ≡ 64
  few : t.plant.props ≤ 16

read_tabled : (t : run.Plant) → AcceptedTable t → Tabled (table_of t)
read_tabled t a =
    record {
      fairs = length_list 4 (λ k. get_or t.fair k 0);
      labels = length_list 64 (λ k. get_or t.label k 0);
      small = λ i l. rw (list_at 64 (λ k. get_or t.label k 0) i l) (label i);
      nexts = length_list 64 (λ k. get_or t.next k 0);
      few = a.few_props;
    }
  where
    label : (i : ℕ) → get_or t.label i 0 < 65536
    label i = elim (dec_lt i (length t.label)) [
      | yes l ↦ (let low : get_or t.label i 0 < 2 ^ 16 = lt_of_lt_of_le (a.label_sets i l) (pow_mono a.few_props) in low)
      | no l ↦ rw (get_or-eq_default t.label 0 {n = i} (omega arith)) (omega arith)
    ]

tabled : (s : List ℕ) → (table_read s).outcome ≡ Ok tt → Tabled (table_read s).table
tabled s = by_case (reading s)
  where
    by_case : Reading s → (table_read s).outcome ≡ Ok tt → Tabled (table_read s).table
    by_case (accepted t a f is) ok = rw is (read_tabled t a)
    by_case (beyond t w b f is) ok = absurd (let z : ◌≡◌ {A = ℕ} 0 1 = cc in omega arith)
    by_case (misformed i p is) ok = absurd (let z : ◌≡◌ {A = ℕ} 0 1 = cc in omega arith)

-- ---- the rule

low_code : (q : ℕ) → q ≤ 16 → (o : Op) → known q o ≡ true → code_of o < 267
low_code q few (Prop k) h = let l = ltb-true k q h in omega arith
low_code q few False h = omega arith
low_code q few True h = omega arith
low_code q few Not h = omega arith
low_code q few Next h = omega arith
low_code q few Finally h = omega arith
low_code q few Globally h = omega arith
low_code q few Until h = omega arith
low_code q few Release h = omega arith
low_code q few And h = omega arith
low_code q few Or h = omega arith
low_code q few Implies h = omega arith

blank_codes : (m i : ℕ) → code_of (get_or (replicate m blank) i blank).op < 267
blank_codes zero i = omega arith
blank_codes (suc m) zero = omega arith
blank_codes (suc m) (suc i) = blank_codes m i

low_codes : (q : ℕ) → q ≤ 16 → (os : List Op) → every (known q) os ≡ true → (m i : ℕ) → code_of (get_or (nodes_of os ++ replicate m blank) i blank).op < 267
unfolding every nodes_of
low_codes q few [] h m i = blank_codes m i
low_codes q few (o ∷ os) h m zero = low_code q few o ((and_says (known q o) (every (known q) os)).0 h).0
low_codes q few (o ∷ os) h m (suc i) = low_codes q few os ((and_says (known q o) (every (known q) os)).0 h).1 m i

-- a rule that was read
record Ruled (r : Rule) : Type 0 where
  nodes : length r.nodes ≡ 32
  codes : (i : ℕ) → code_of (get_or r.nodes i blank).op < 267

value_ruled : (q : ℕ) → q ≤ 16 → (f : Formula) → size f ≤ 32 → Below q f → Ruled (rule_of f)
value_ruled q few f small below = record { nodes = full_value f small; codes = low_codes q few (postfix f) ((below_nodes q f).1 below) (32 - size f) }

ruled : (t : Table) → t.plant.props ≤ 16 → (text : List ℕ) → (rule_read t.plant (fair_in t) (label_in t) (next_in t) text).outcome ≡ Ok tt
    → Ruled (rule_read t.plant (fair_in t) (label_in t) (next_in t) text).rule
ruled t few text ok =
    let read = rule_read t.plant (fair_in t) (label_in t) (next_in t) text in
    let takes = (rules.accepted_exactly t.plant (fair_in t) (label_in t) (next_in t) text read.rule).0 (ap (λ (o : Outcome). record { outcome = o; rule = read.rule }) ok) in
    rw takes.is (value_ruled t.plant.props few takes.formula takes.small takes.below)

-- the nodes of a rule that was read
pub rule_full : (table text : List ℕ) → (table_read table).outcome ≡ Ok tt
    → let t = (table_read table).table in (rule_read t.plant (fair_in t) (label_in t) (next_in t) text).outcome ≡ Ok tt
    → length (rule_read t.plant (fair_in t) (label_in t) (next_in t) text).rule.nodes ≡ 32
rule_full table text ok good = (ruled (table_read table).table (tabled table ok).few text good).nodes

-- ---- what was opened

abbrev TypedIfOpened : Opened → Type 0
TypedIfOpened o = o.outcome ≡ Ok tt → Typed (held_of o)

typed_by : (o : Outcome) (x : Opened) → (o ≡ Ok tt → TypedIfOpened x) → TypedIfOpened (or_refused o x)
typed_by (Ok _) x h = h refl
typed_by (Err r) x h = λ e. absurd (let z : ◌≡◌ {A = ℕ} 0 1 = cc in omega arith)

rule_typed : (t : Table) → Tabled t → (rule : Rule) → Ruled rule → TypedIfOpened (rule_opened t (fair_in t) (label_in t) (next_in t) rule)
unfolding rule_opened
rule_typed t a rule r =
    let prepared = prepared_of t.plant (fair_in t) (label_in t) (next_in t) rule in
    typed_by prepared.outcome (made t rule prepared.live (open_call t.plant (fair_in t) (label_in t) (next_in t) rule prepared.live).monitor)
    (λ ok _. let fits = opened_fitting t.plant (fair_in t) (label_in t) (next_in t) rule ((prepare_accepted t.plant (fair_in t) (label_in t) (next_in t) rule r.nodes).0 ok) in
    record {
      fairs = a.fairs;
      labels = a.labels;
      small = a.small;
      nexts = a.nexts;
      nodes = r.nodes;
      codes = λ i l. r.codes i;
      lives = fits.lives.long;
      sets = record { keeps = (fits.held.sets true).long; breaks = (fits.held.sets false).long };
    })

pub opened_typed : (table rule : List ℕ) → (opened_of table rule).outcome ≡ Ok tt → Typed (held_of (opened_of table rule))
unfolding opened_of parts_opened
opened_typed table rule =
    let t = (table_read table).table in
    let read = rule_read t.plant (fair_in t) (label_in t) (next_in t) rule in
    typed_by (table_read table).outcome (table_opened t rule)
    (λ ok. let a = tabled table ok in
    typed_by read.outcome (rule_opened t (fair_in t) (label_in t) (next_in t) read.rule) (λ good. rule_typed t a read.rule (ruled t a.few rule good)))

-- Each call is refused exactly as its table of causes says, and accepted exactly if no cause applies: for every number, both directions, on paper.
use Prim.Native.Nat.{ℕ, ◌^◌, ◌≤◌, ◌<◌}
use Prim.{Unit}
use Rattle.std.proofs.Common.{arith, sym, ◌∙◌, inl, inr}
use Rattle.std.specs.Prelude.{◌≡◌, refl, ◌↔◌, ◌⊎◌, Bool, true, false, ◌&&◌, not, cond, leb, ltb, length, get_or, Result, Ok, Err}
use Rattle.std.proofs.Math.Path.{ap, subst}
use Rattle.std.proofs.Math.Logic.{⊎_elim}
use Rattle.std.proofs.Math.Bool.{So}
use Rattle.std.proofs.lemmas.Bool.{false≢true}
use mathlib.Core.List.{List}
use borrow.Author.Tests.{eq-eqb, lt-ltb, leb-true, leb-false, not-true}
use Rattle.meaning.specs.Formula.{Formula, parts}
use Rattle.meaning.specs.Limits.{witness_room}
use Rattle.meaning.specs.Run as run
use Rattle.meaning.specs.Says.{Says}
use Rattle.words.specs.Below.{any_below}
use Rattle.words.specs.Truth.{and_says, true_or_false}
use Rattle.words.specs.Tests.{le_says, lt_says}
use Rattle.words.specs.Folds.{any_says, any_none, all_of}
use Rattle.text.specs.Cases.{below_or_beyond}
use Rattle.pairs.specs.declared.Pairs.{Pairs}
use Rattle.pairs.specs.Sets.{occupied, occupant}
use Rattle.theory.proofs.Alive.{valuations_few}
use Rattle.model.specs.Monitor as model
use Rattle.model.specs.Checks.{width, pairs_ok, pairs_says, legal_says}
use Rattle.model.specs.LiveSet.{meet_of, live_set}
use Rattle.model.proofs.Lives.{live_says}
use Rattle.model.specs.Reaching.{meet_says}
use Rattle.model.specs.Witness.{has_live}
use Rattle.answers.specs.declared.Kind.{Kind}
use Rattle.answers.specs.declared.Kind.TheVariants.{Counts, Bits, Value, IllegalEvent, Room, NoPair, Number}
use Rattle.answers.specs.Results.{Outcome}
use Rattle.answers.specs.Paper.{Paper, refused, kind_number, paper, outcome}
use Rattle.answers.specs.Chain.{refused_as, differ, and_then, unless}
use Rattle.plant.specs.declared.Plant.{Plant}
use Rattle.plant.specs.Table.{table_outcome, Lengths, Beyond, BitBeyond}
use Rattle.plant.specs.Check.{beyond_exactly, counts_refused, bits_refused, one_of_three}
use Rattle.plant_writer.specs.Writing.{its_text, write_outcome, told_by, write_answer}
use Rattle.plant_writer.specs.OnPaper.{wrote}
use Rattle.syntax.specs.declared.Rule.{Rule}
use Rattle.syntax.specs.Grammar.{names}
use Rattle.syntax.specs.Print.{print}
use Rattle.syntax.specs.Value.{formula_of}
use Rattle.rule.specs.declared.Length.{Length}
use Rattle.rule_value.specs.Valid.{valid_of, RuleValue}
use Rattle.rule.specs.Printing.{top_text, text_of, no_print, print_answer}
use Rattle.rule.specs.OnPaper.{printed}
use Rattle.rule_value.specs.Values.{valid_exactly, decoded}
use Rattle.event_log.specs.declared.Event.{Event}
use Rattle.event_log.specs.Legal.{seen_of}
use Rattle.checks.specs.Checks.{input_outcome}
use Rattle.checks.specs.Input.{Input, given, formula_is}
use Rattle.sides.specs.declared.Monitor.{Monitor}
use Rattle.sides.specs.Held.{model_of}
use Rattle.event_numbers.specs.Numbers.{number_of, in_turn, in_turn_says}
use Rattle.live.specs.Prepare.{prepared_of}
use Rattle.live.specs.Promises.{prepare_outcome}
use Rattle.monitor.specs.Calls.{watched, lit, checked_of, open_call, monitor_fits, look_call, step_checked, step_call}
use Rattle.walk.specs.declared.Lengths.{Lengths as RunLengths}
use Rattle.answers.specs.declared.Refusal.{Refusal}
use Rattle.witness.specs.Calls.{AnsweredAs, Answered, asked_of, witness_outcome}
use Rattle.witness.specs.OnPaper.{witnessed}
use Rattle.refusals.specs.Causes.{Rows, row, First, Because, NoCause, Taken, Call, prepare, opening, look, step, witness, table, formula, of_table, NoRule, PairBeyond, StateBeyond, OutOfTurn, NoLive, causes, print_causes, write_causes}
use Rattle.refusals.specs.Judged.{first_one, Judged, by_row, by_none, Finds, finds_not, finds_so, finds_either, judged_end_lem, judged_row, one_check, in_turn_lem, no_more, Tells, verdict_taken, accepted_taken, taken_as}
use Rattle.refusals.proofs.Judged.{refused_because}

-- a call is refused for one cause, at one place
pub one_cause : (rs : Rows) {j k : Kind} {m n : ℕ} → Because rs j m → Because rs k n → (j ≡ k) × (m ≡ n)
one_cause rs {j} {k} (f, e) (g, d) = (first_one rs j k f g, e ∙ sym d)

-- the arrays of the sets that a call is handed have 64 words
abbrev Full : Pairs → Type 0
Full set = length set.words ≡ 64

abbrev pub Arrays : Call → Type 0
Arrays prepare = Unit {0}
Arrays (opening live) = Full live
Arrays (look m) = Full m.keeps × Full m.breaks
Arrays (step live m e) = Full live × (Full m.keeps × Full m.breaks)
Arrays (witness m keeps buffer) = Full m.keeps × Full m.breaks

-- what an outcome comes to in an answer

outcome_tells : (o : Outcome) → Tells (outcome o) o
outcome_tells (Ok _) = accepted_taken _
outcome_tells (Err r) = refl

watched_tells : (o : Outcome) (old : Monitor) (expected : ℕ) (new : model.Monitor) → Tells (paper (watched o old expected new).answer) o
watched_tells (Ok _) old expected new = verdict_taken _ _
watched_tells (Err r) old expected new = refl

lit_tells : (o : Outcome) (m : model.Monitor) → Tells (paper (lit o m)) o
lit_tells (Ok _) m = verdict_taken _ _
lit_tells (Err r) m = refl

answered_tells : (T : run.Plant) (f : Formula) (asked before now : List ℕ) (r : Result RunLengths Refusal) (o : Outcome) → AnsweredAs T f asked o before now r → Tells (witnessed r) o
answered_tells T f asked before now r (Ok _) (l, e, shows) = subst (λ (r : Result RunLengths Refusal). Taken (witnessed r)) (sym e) (accepted_taken _)
answered_tells T f asked before now r (Err x) (e, same) = ap witnessed e

-- 1 AND 2, OF EVERY CALL THAT TAKES A TABLE

module _ (p : Plant) (fair label next : List ℕ) where
  judged_table : {rest : Rows} {o : Outcome} → (table_outcome p fair label next ≡ Ok tt → Judged rest o) → Judged (of_table p fair label next rest) (and_then (table_outcome p fair label next) o)
  unfolding First NoCause
  judged_table {rest} {o} more = ⊎_elim (λ d. ⊎_elim fine counts d) bits (one_of_three p fair label next)
    where
      behind : {a : Outcome} → (table_outcome p fair label next) ≡ a → and_then (table_outcome p fair label next) o ≡ and_then a o
      behind e = ap (λ x. and_then x o) e

      counts : table_outcome p fair label next ≡ refused_as Counts → Judged (of_table p fair label next rest) (and_then (table_outcome p fair label next) o)
      counts e = by_row Counts (inl (refl, (counts_refused p fair label next).0 e)) (behind e)

      bits : table_outcome p fair label next ≡ refused_as Bits → Judged (of_table p fair label next rest) (and_then (table_outcome p fair label next) o)
      bits e = let (l, b) = (bits_refused p fair label next).0 e in by_row Bits (inr (λ z. z l, inl (refl, b))) (behind e)

      fine : table_outcome p fair label next ≡ Ok tt → Judged (of_table p fair label next rest) (and_then (table_outcome p fair label next) o)
      fine e = on (more e)
        where
          no_counts : (Lengths p (length fair) (length label) (length next) → ⊥) → ⊥
          no_counts z = differ (Ok tt) (refused_as Counts) (λ n. omega arith) e ((counts_refused p fair label next).1 z)

          no_bits : BitBeyond p fair label next → ⊥
          no_bits b = no_counts (λ l. differ (Ok tt) (refused_as Bits) (λ n. omega arith) e ((bits_refused p fair label next).1 (l, b)))

          on : Judged rest o → Judged (of_table p fair label next rest) (and_then (table_outcome p fair label next) o)
          on (by_row k g h) = by_row k (inr (no_counts, inr (no_bits, g))) (behind e ∙ h)
          on (by_none n h) = by_none (no_counts, (no_bits, n)) (behind e ∙ h)

-- THE CALLS THAT TAKE A TABLE AND A RULE

module _ (p : Plant) (fair label next : List ℕ) (rule : Rule) where
  -- an answer on paper that the contract of a call allows. That of the step in place is the step's by value
  abbrev pub Answers : Call → Paper → Type 0
  Answers prepare a = a ≡ outcome (prepared_of p fair label next rule).outcome
  Answers (opening live) a = a ≡ paper (open_call p fair label next rule live).answer
  Answers (look m) a = a ≡ paper (look_call p fair label next rule m)
  Answers (step live m e) a = a ≡ paper (step_call p fair label next rule live m e).answer
  Answers (witness m keeps buffer) a = (r : Result RunLengths Refusal) × (now : List ℕ) × Answered p fair label next rule m keeps buffer now r × (a ≡ witnessed r)

  abbrev T : run.Plant
  T = table p fair label next rule

  abbrev f : Formula
  f = formula p fair label next rule

  abbrev fits : Pairs → Bool
  fits set = pairs_ok T f set.words

  abbrev state_fits : Monitor → Bool
  state_fits m = monitor_fits p fair label next rule m

  -- ---- the checks of each call, and that its answer tells them

  abbrev checks_of : Call → Outcome
  checks_of prepare = input_outcome p fair label next rule
  checks_of (opening live) = checked_of p fair label next rule (fits live)
  checks_of (look m) = checked_of p fair label next rule (state_fits m)
  checks_of (step live m e) = step_checked p fair label next rule live m e
  checks_of (witness m keeps buffer) = witness_outcome p fair label next rule m keeps (length buffer)

  tells : (c : Call) (a : Paper) → Answers c a → Tells a (checks_of c)
  unfolding open_call look_call step_call
  tells prepare a e = subst (λ (a : Paper). Tells a (checks_of prepare)) (sym (e ∙ ap outcome (prepare_outcome p fair label next rule))) (outcome_tells (checks_of prepare))
  tells (opening live) a e = subst (λ (a : Paper). Tells a (checks_of (opening live))) (sym e) (watched_tells (checks_of (opening live)) _ _ _)
  tells (look m) a e = subst (λ (a : Paper). Tells a (checks_of (look m))) (sym e) (lit_tells (checks_of (look m)) _)
  tells (step live m x) a e = subst (λ (a : Paper). Tells a (checks_of (step live m x))) (sym e) (watched_tells (checks_of (step live m x)) _ _ _)
  tells (witness m keeps buffer) a (r, now, h, e) = subst (λ (a : Paper). Tells a (checks_of (witness m keeps buffer))) (sym e) (answered_tells T f (model.side (model_of m) keeps) buffer now r (checks_of (witness m keeps buffer)) h)

  -- ---- the tests, and what they find

  -- a word too large for its valuation has a pair beyond
  word_beyond : (set : Pairs) (v : ℕ) → 2 ^ width T f v ≤ get_or set.words v 0 → PairBeyond p fair label next rule set
  word_beyond set v h = by_part (below_or_beyond v (2 ^ parts f))
    where
      b : Beyond (width T f v) (get_or set.words v 0)
      b = (beyond_exactly (width T f v) (get_or set.words v 0)).0 h

      by_part : (v < 2 ^ parts f) ⊎ (2 ^ parts f ≤ v) → PairBeyond p fair label next rule set
      by_part (inl low) = record { state = b.name; values = v; held = b.named; beyond = inl (subst (λ n. n ≤ b.name) (ap (λ x. cond x p.states 0) (lt-ltb v (2 ^ parts f) low)) b.beyond) }
      by_part (inr high) = record { state = b.name; values = v; held = b.named; beyond = inr high }

  -- and where there is none the set fits
  all_fit : (set : Pairs) → Full set → any_below 64 (λ v. leb (2 ^ width T f v) (get_or set.words v 0)) ≡ false → So (fits set)
  unfolding pairs_ok
  all_fit set long none = (and_says _ _).1 (eq-eqb (length set.words) 64 long, all_of 64 _ (λ v low. lt-ltb (get_or set.words v 0) (2 ^ width T f v) (leb-false (2 ^ width T f v) (get_or set.words v 0) (any_none 64 _ none v low))))

  finds_beyond : (set : Pairs) → Full set → Finds (fits set) (PairBeyond p fair label next rule set)
  finds_beyond set long = record { fails = λ e. searched e (true_or_false (any_below 64 large)); holds = within }
    where
      large : ℕ → Bool
      large v = leb (2 ^ width T f v) (get_or set.words v 0)

      searched : fits set ≡ false → So (any_below 64 large) ⊎ (any_below 64 large ≡ false) → PairBeyond p fair label next rule set
      searched e (inl some) = let (v, _, h) = (any_says large (λ v. 2 ^ width T f v ≤ get_or set.words v 0) (λ v. le_says (2 ^ width T f v) (get_or set.words v 0)) 64).0 some in word_beyond set v h
      searched e (inr none) = absurd (false≢true (sym e ∙ all_fit set long none))

      within : So (fits set) → PairBeyond p fair label next rule set → ⊥
      within e b =
          let (s, v) = ((pairs_says T f set.words).0 e).range b.state b.values b.held in
          ⊎_elim (λ (h : p.states ≤ b.state). omega arith) (λ (h : 2 ^ parts f ≤ b.values). omega arith) b.beyond

  finds_state : (m : Monitor) → Full m.keeps × Full m.breaks → Finds (state_fits m) (StateBeyond p fair label next rule m)
  finds_state m (k, b) = finds_either (finds_beyond m.keeps k) (finds_either (finds_beyond m.breaks b) beyond_last)
    where
      beyond_last : Finds (leb m.expected (2 ^ 32)) (2 ^ 32 < m.expected)
      beyond_last = record {
        fails = leb-false m.expected (2 ^ 32);
        holds = λ e high. let low = (le_says m.expected (2 ^ 32)).0 e in omega (arith, low, high);
      }

  finds_turn : (m : Monitor) (e : Event) → Finds (in_turn m.seen m.expected (number_of e.num m.expected)) (OutOfTurn p fair label next rule m e)
  finds_turn m e = finds_not (in_turn_says m.seen m.expected (number_of e.num m.expected))

  finds_live : Input p fair label next rule → (m : Monitor) (keeps : Bool) → Finds (has_live T f (model.side (model_of m) keeps)) (NoLive p fair label next rule m keeps)
  unfolding has_live
  finds_live i m keeps = record { fails = none; holds = some }
    where
      asked : List ℕ
      asked = model.side (model_of m) keeps

      none : has_live T f asked ≡ false → NoLive p fair label next rule m keeps
      none e s v held l =
          let low : v < 64 = (let k = l.pair.small in let n = valuations_few f i.few in omega arith) in
          let both = (meet_says asked (live_set T f) s v).1 (low, (held, (live_says T f i.table i.few s v).1 l)) in
          false≢true (sym e ∙ ap not (occupied (meet_of asked (live_set T f)) s v low both))

      some : So (has_live T f asked) → NoLive p fair label next rule m keeps → ⊥
      some e z =
          let (s, v, _, k) = occupant (meet_of asked (live_set T f)) (not-true _ e) in
          let (_, (held, l)) = (meet_says asked (live_set T f) s v).0 k in
          z s v held ((live_says T f i.table i.few s v).0 l)

  -- ---- row by row

  abbrev checked : Outcome
  checked = table_outcome p fair label next

  -- the array of a rule has 32 nodes
  module _ (full : length rule.nodes ≡ 32) where
    abbrev valid : Bool
    valid = valid_of rule p.props

    finds_rule : Finds valid (NoRule p fair label next rule)
    finds_rule = finds_not (valid_exactly rule p.props full)

    -- and 9, of the rule and of sets of pairs
    judged_value : {sets : Bool} {cause : Type 0} {rest : Rows} {o : Outcome} → Finds sets cause → (Input p fair label next rule → Judged rest o)
        → Judged (of_table p fair label next (row Value (NoRule p fair label next rule ⊎ cause) rest)) (and_then (checked_of p fair label next rule sets) o)
    unfolding input_outcome
    judged_value {sets} {cause} {rest} {o} x more =
        subst (Judged (of_table p fair label next (row Value (NoRule p fair label next rule ⊎ cause) rest))) (sym chained)
        (judged_table p fair label next (λ e. judged_row Value (valid && sets) (finds_either finds_rule x)
        (λ so. more (given p fair label next rule e ((valid_exactly rule p.props full).0 ((and_says valid sets).0 so).0)))))
      where
        chained : and_then (checked_of p fair label next rule sets) o ≡ and_then checked (and_then (unless (valid && sets) Value) o)
        chained = ap (λ x. and_then x o) (in_turn_lem checked (unless valid Value) (unless sets Value) ∙ ap (and_then checked) (one_check valid sets Value)) ∙ in_turn_lem checked (unless (valid && sets) Value) o

    -- a chain that ends
    ended : {rs : Rows} {o : Outcome} → Judged rs (and_then o (Ok tt)) → Judged rs o
    ended {rs} {o} j = subst (Judged rs) (no_more o) j

    judged : (c : Call) → Arrays c → Judged (causes p fair label next rule c) (checks_of c)
    unfolding input_outcome asked_of witness_outcome
    judged prepare z = ended (subst (Judged _) (sym (in_turn_lem checked (unless valid Value) (Ok tt))) (judged_table p fair label next (λ e. judged_row Value valid finds_rule (λ so. judged_end_lem))))
    judged (opening live) z = ended (judged_value (finds_beyond live z) (λ i. judged_end_lem))
    judged (look m) z = ended (judged_value (finds_state m z) (λ i. judged_end_lem))
    judged (step live m e) (l, z) =
        judged_value (finds_either (finds_beyond live l) (finds_state m z))
        (λ i. judged_row IllegalEvent _ (finds_not (legal_says T (seen_of e))) (λ so. ended (judged_row Number _ (finds_turn m e) (λ so. judged_end_lem))))
    judged (witness m keeps buffer) z =
        subst (Judged _) (sym (in_turn_lem (checked_of p fair label next rule (state_fits m)) _ _))
        (judged_value (finds_state m z) (λ i. judged_row Room _ (finds_so (lt_says (length buffer) witness_room)) (λ so. ended (judged_row NoPair _ (finds_live i m keeps) (λ so. judged_end_lem)))))

    -- ---- what is promised

    module _ (c : Call) (z : Arrays c) (a : Paper) (answer : Answers c a) where
      -- refused by a number exactly for its cause, where no cause before it applies, and at place 0
      pub refused_exactly : (k : Kind) (q : ℕ) → (a ≡ refused (kind_number k) q) ↔ Because (causes p fair label next rule c) k q
      refused_exactly = refused_because (causes p fair label next rule c) (tells c a answer) (judged c z)

      -- accepted exactly if there is none
      pub accepted_exactly : Taken a ↔ NoCause (causes p fair label next rule c)
      accepted_exactly = taken_as (causes p fair label next rule c) (tells c a answer) (judged c z)

-- THE PRINTER

module _ (rule : Rule) (buffer : List ℕ) (full : length rule.nodes ≡ 32) where
  abbrev printable : Bool
  printable = valid_of rule names

  abbrev short : Bool
  short = ltb (length buffer) (length (text_of rule))

  abbrev print_checks : Outcome
  print_checks = and_then (unless printable Value) (and_then (unless (not short) Room) (Ok tt))

  print_tells : Tells (printed (print_answer rule buffer)) print_checks
  print_tells = by_tests printable short (record { bytes = length (text_of rule) })
    where
      by_tests : (v s : Bool) (n : Length) → Tells (printed (cond v (cond s (no_print Room) (Ok n)) (no_print Value))) (and_then (unless v Value) (and_then (unless (not s) Room) (Ok tt)))
      by_tests true true n = refl
      by_tests true false n = accepted_taken _
      by_tests false s n = refl

  short_says : RuleValue rule names → Says short (length buffer < length (print (formula_of rule)))
  short_says v = subst (λ (t : List ℕ). Says short (length buffer < length t)) (ap top_text (decoded v) ∙ ap print (sym (formula_is v))) (lt_says (length buffer) (length (text_of rule)))

  print_judged : Judged (print_causes rule buffer) print_checks
  print_judged =
      judged_row Value printable (finds_not (valid_exactly rule names full))
      (λ so. judged_row Room (not short) (finds_so (short_says ((valid_exactly rule names full).0 so))) (λ so. judged_end_lem))

  pub print_refused_exactly : (k : Kind) (q : ℕ) → (printed (print_answer rule buffer) ≡ refused (kind_number k) q) ↔ Because (print_causes rule buffer) k q
  print_refused_exactly = refused_because (print_causes rule buffer) print_tells print_judged

  pub print_accepted_exactly : Taken (printed (print_answer rule buffer)) ↔ NoCause (print_causes rule buffer)
  print_accepted_exactly = taken_as (print_causes rule buffer) print_tells print_judged

-- THE WRITER OF TABLES

module _ (p : Plant) (fair label next buffer : List ℕ) where
  abbrev fits_in : Bool
  fits_in = leb (length (its_text p fair label next buffer)) (length buffer)

  write_tells : Tells (wrote (write_answer p fair label next buffer)) (write_outcome p fair label next buffer)
  write_tells = by_case (write_outcome p fair label next buffer)
    where
      by_case : (o : Outcome) → Tells (wrote (told_by p fair label next buffer o)) o
      by_case (Ok _) = accepted_taken _
      by_case (Err r) = refl

  finds_room : Finds fits_in (length buffer < length (its_text p fair label next buffer))
  finds_room = record { fails = leb-false _ _; holds = λ so l. let h = leb-true (length (its_text p fair label next buffer)) (length buffer) so in omega arith }

  write_judged : Judged (write_causes p fair label next buffer) (write_outcome p fair label next buffer)
  write_judged = judged_table p fair label next (λ e. subst (Judged _) (no_more (unless fits_in Room)) (judged_row Room fits_in finds_room (λ so. judged_end_lem)))

  pub write_refused_exactly : (k : Kind) (q : ℕ) → (wrote (write_answer p fair label next buffer) ≡ refused (kind_number k) q) ↔ Because (write_causes p fair label next buffer) k q
  write_refused_exactly = refused_because (write_causes p fair label next buffer) write_tells write_judged

  pub write_accepted_exactly : Taken (wrote (write_answer p fair label next buffer)) ↔ NoCause (write_causes p fair label next buffer)
  write_accepted_exactly = taken_as (write_causes p fair label next buffer) write_tells write_judged

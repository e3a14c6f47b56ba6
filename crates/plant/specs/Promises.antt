-- What is promised of plant tables. The check of a table handed in: `accepted_exactly`, `counts_refused`, `bits_refused` in Check. Here: what reading a text means.
use Rattle.std.specs.Prelude.{ℕ, ◌^◌, ◌≤◌, ◌<◌, ◌≡◌, refl, ◌↔◌, Bool, true, false, List, length, take, get_or, Ok}
use Rattle.std.proofs.Common.{sym, subst, ap, ◌∙◌, ⊎_elim, lt_of_lt_of_le, arith, pow_mono}
use Rattle.meaning.specs.Run as run
use Rattle.meaning.specs.Limits.{AcceptedTable}
use Rattle.answers.specs.declared.Kind.TheVariants.{Counts, Bits, TableText}
use Rattle.answers.specs.Results.{Outcome}
use Rattle.answers.specs.Paper.{refused_at}
use Rattle.answers.specs.Chain.{refused_as, place_of, differ}
use Rattle.text.specs.Slot.{Slot, matched}
use Rattle.text.specs.Cases.{if_below}
use Rattle.text.specs.Number.{width_of}
use Rattle.text.specs.Written.{small_of}
use Rattle.text.specs.Place.{Fills, OfForm, RefusedAt, reads_whole, misfits, fills_exactly, form_value, refused_one}
use Rattle.text.specs.Promises.{WrittenOut, fit_of, written_small, form_or_place, filled_out, of_form_out, out_one}
use Rattle.plant.specs.declared.Plant.{Plant}
use Rattle.plant.specs.declared.TableRead.{TableRead}
use Rattle.plant.specs.Table.{plant_of, Lengths, BitBeyond}
use Rattle.plant.specs.Check.{accepted_exactly, counts_refused, bits_refused, one_of_three}
use Rattle.plant.specs.Text.{table_form, table_reads}
use Rattle.plant.specs.Read.{counts_in, table_of, refused_read, answered, check_of, lent_check, read_as, table_read, lent_check_lem, take_padded}
use Rattle.plant.specs.Written.{WellFormed, table_slots, table_text, slots_are, well_formed, formed_well}

-- ---- the form

-- it is the one written out
pub table_out : WrittenOut table_form WellFormed table_slots
table_out = record { well = λ t. (formed_well t, well_formed t); slots_are = slots_are }

-- a text fills the slots of a table exactly if it is, its digits made small, that table's text
fills_table : (t : run.Plant) (s : List ℕ) → Fills s (table_form.slots t) ↔ (small_of (table_slots t) s ≡ table_text t)
fills_table = filled_out table_out

-- a text is of the form exactly if it is, its digits made small, the text of a table
pub form_exactly : (s : List ℕ) → OfForm table_form s ↔ ((t : run.Plant) × WellFormed t × (small_of (table_slots t) s ≡ table_text t))
form_exactly = of_form_out table_out

-- two tables have different texts
pub text_one : (t u : run.Plant) → WellFormed t → WellFormed u → table_text t ≡ table_text u → t ≡ u
text_one = out_one table_out (reads_whole table_reads)

-- ---- what is read

-- a text that is, its digits made small, a table's text is answered as the check answers for that table
pub small_read : (t : run.Plant) (s : List ℕ) → WellFormed t → small_of (table_slots t) s ≡ table_text t → table_read s ≡ answered (check_of t) (table_of t)
unfolding table_read read_as
small_read t s w e =
    let f = (fills_table t s).1 e in
    rw (form_value (reads_whole table_reads) s t (well_formed t w) f, (fills_exactly s (table_form.slots t)).1 f)

-- so is the text itself
pub text_read_lem : (t : run.Plant) → WellFormed t → table_read (table_text t) ≡ answered (check_of t) (table_of t)
text_read_lem t w = small_read t (table_text t) w (written_small (table_slots t))

-- the counts of a table that can be written are right: no text is refused by 1
well_counted : (t : run.Plant) → WellFormed t → Lengths (counts_in t) (length t.fair) (length t.label) (length t.next)
well_counted t w =
    record {
      counts = record { some_props = w.props.0; props = w.props.1; some_states = w.states.0; states = w.states.1; just = w.few_fair };
      fairs = refl;
      labels = w.labels;
      nexts = w.nexts;
    }

-- a table that 01 accepts can be written
pub accepted_formed : (t : run.Plant) → AcceptedTable t → WellFormed t
unfolding width_of
accepted_formed t a =
    record {
      props = (a.some_props, a.few_props);
      states = (a.some_states, a.few_states);
      start = wide 64 t.start a.few_states a.start_set;
      few_fair = a.few_fair;
      fair = λ k l. wide 64 (get_or t.fair k 0) a.few_states (a.fair_sets k l);
      labels = a.labels;
      nexts = a.nexts;
      row = λ k l. (
        label_wide (get_or t.label k 0) (a.label_sets k (rw a.labels l)),
        wide 64 (get_or t.next k 0) a.few_states (a.next_sets k (rw a.nexts l)),
      );
    }
  where
    wide : {n : ℕ} (m x : ℕ) → n ≤ m → x < 2 ^ n → x < 2 ^ m
    wide m x h l = lt_of_lt_of_le l (pow_mono h)

    label_wide : (x : ℕ) → x < 2 ^ t.props → x < 16 ^ width_of t.props
    label_wide x l = if_below 8 t.props (λ w. x < 16 ^ w) 4 2 (λ more. wide 16 x a.few_props l) (λ few. wide 8 x few l)

-- and passes the check
passes : (t : run.Plant) → AcceptedTable t → check_of t ≡ Ok tt
passes t a = (accepted_exactly (counts_in t) t.fair t.label t.next).1 (refl, a)

-- the text of a table that 01 accepts is read as that table
pub accepted_read : (t : run.Plant) → AcceptedTable t → table_read (table_text t) ≡ record { outcome = Ok tt; table = table_of t }
accepted_read t a = text_read_lem t (accepted_formed t a) ∙ ap (λ (o : Outcome). answered o (table_of t)) (passes t a)

-- ---- what each text is answered, and why

-- the text of a table that 01 accepts; of a table with a bit beyond the counts; or no text of the form. Its digits may stand as they are read: made small they are those written
pub data Reading (s : List ℕ) : Type 0 where
  accepted : (t : run.Plant) → AcceptedTable t → small_of (table_slots t) s ≡ table_text t → table_read s ≡ record { outcome = Ok tt; table = table_of t } → Reading s
  beyond : (t : run.Plant) → WellFormed t → BitBeyond (counts_in t) t.fair t.label t.next → small_of (table_slots t) s ≡ table_text t
      → table_read s ≡ refused_read (refused_at Bits 0) → Reading s
  misformed : (i : ℕ) → RefusedAt table_form s i → table_read s ≡ refused_read (refused_at TableText i) → Reading s

pub reading : (s : List ℕ) → Reading s
unfolding table_read read_as
reading s = ⊎_elim formed (λ p. misformed (fit_of table_form s) p (told (misfits (matched s ts) (length ts) (length s)) refl p)) (form_or_place (reads_whole table_reads) s)
  where
    ts : List Slot
    ts = table_form.slots (table_form.guess s)

    told :
        (b : Bool) → misfits (matched s ts) (length ts) (length s) ≡ b → RefusedAt table_form s (fit_of table_form s)
        → table_read s ≡ refused_read (refused_at TableText (fit_of table_form s))
    told true e p = rw e
    told false e p = absurd (p.not_of_form (record { value = table_form.guess s; ok = table_reads.fine s; fills = (fills_exactly s ts).0 e }))

    checked : (t : run.Plant) → WellFormed t → small_of (table_slots t) s ≡ table_text t → table_read s ≡ answered (check_of t) (table_of t) → Reading s
    checked t w f r =
        ⊎_elim
        (⊎_elim (λ (a : check_of t ≡ Ok tt). accepted t ((accepted_exactly (counts_in t) t.fair t.label t.next).0 a).1 f (r ∙ ap (λ (o : Outcome). answered o (table_of t)) a))
        (λ (a : check_of t ≡ refused_as Counts). absurd ((counts_refused (counts_in t) t.fair t.label t.next).0 a (well_counted t w))))
        (λ (a : check_of t ≡ refused_as Bits). beyond t w ((bits_refused (counts_in t) t.fair t.label t.next).0 a).1 f (r ∙ ap (λ (o : Outcome). answered o (table_of t)) a))
        (one_of_three (counts_in t) t.fair t.label t.next)

    formed : OfForm table_form s → Reading s
    formed o =
        let w = formed_well o.value o.ok in
        let e = (fills_table o.value s).0 o.fills in checked o.value w e (small_read o.value s w e)

abbrev outcome_of : TableRead → Outcome
outcome_of r = r.outcome

-- an accepted text is, its digits made small, the text of a table that 01 accepts, and this is the table read
pub accepted_text :
    (s : List ℕ) → (table_read s).outcome ≡ Ok tt
    → (t : run.Plant) × AcceptedTable t × (small_of (table_slots t) s ≡ table_text t) × ((table_read s).table ≡ table_of t)
accepted_text s e = by_case (reading s)
  where
    by_case : Reading s → (t : run.Plant) × AcceptedTable t × (small_of (table_slots t) s ≡ table_text t) × ((table_read s).table ≡ table_of t)
    by_case (accepted t a f r) = (t, a, f, ap (λ (x : TableRead). x.table) r)
    by_case (beyond t w b f r) = differ _ _ (λ n. omega arith) e (ap outcome_of r)
    by_case (misformed i p r) = differ _ _ (λ n. omega arith) e (ap outcome_of r)

-- accepted exactly if it is, its digits made small, the text of a table that 01 accepts
pub accepted_small : (s : List ℕ) → ((table_read s).outcome ≡ Ok tt) ↔ ((t : run.Plant) × AcceptedTable t × (small_of (table_slots t) s ≡ table_text t))
accepted_small s = (
  λ e. let (t, a, f, r) = accepted_text s e in (t, a, f),
  λ (t, a, e). ap outcome_of (small_read t s (accepted_formed t a) e) ∙ ap (λ (o : Outcome). outcome_of (answered o (table_of t))) (passes t a),
)

-- refused by 2 exactly if it is, its digits made small, the text of a table with a bit beyond the counts
pub two_exactly :
    (s : List ℕ)
    → (table_read s ≡ refused_read (refused_at Bits 0)) ↔ ((t : run.Plant) × WellFormed t × BitBeyond (counts_in t) t.fair t.label t.next × (small_of (table_slots t) s ≡ table_text t))
two_exactly s = (λ e. by_case e (reading s), λ (t, w, b, e). small_read t s w e ∙ ap (λ (o : Outcome). answered o (table_of t)) ((bits_refused (counts_in t) t.fair t.label t.next).1 (well_counted t w, b)))
  where
    by_case : table_read s ≡ refused_read (refused_at Bits 0) → Reading s → (t : run.Plant) × WellFormed t × BitBeyond (counts_in t) t.fair t.label t.next × (small_of (table_slots t) s ≡ table_text t)
    by_case e (accepted t a f r) = differ _ _ (λ n. omega arith) (ap outcome_of e) (ap outcome_of r)
    by_case e (beyond t w b f r) = (t, w, b, f)
    by_case e (misformed i p r) = differ _ _ (λ n. omega arith) (ap outcome_of e) (ap outcome_of r)

-- refused by 3 exactly at its place (01, Refusal numbers): the first byte at which no text of the form begins with what was read, the length where it only stops too soon
pub three_exactly : (s : List ℕ) (i : ℕ) → (table_read s ≡ refused_read (refused_at TableText i)) ↔ RefusedAt table_form s i
three_exactly s i = (λ e. there e (reading s), λ p. back p (reading s))
  where
    there : table_read s ≡ refused_read (refused_at TableText i) → Reading s → RefusedAt table_form s i
    there e (accepted t a f r) = differ _ _ (λ n. omega arith) (ap outcome_of e) (ap outcome_of r)
    there e (beyond t w b f r) = differ _ _ (λ n. omega arith) (ap outcome_of e) (ap outcome_of r)
    there e (misformed j p r) = subst (RefusedAt table_form s) (ap (λ (x : TableRead). place_of x.outcome) (sym r ∙ e)) p

    back : RefusedAt table_form s i → Reading s → table_read s ≡ refused_read (refused_at TableText i)
    back p (accepted t a f r) = absurd (p.not_of_form (record { value = t; ok = well_formed t (accepted_formed t a); fills = (fills_table t s).1 f }))
    back p (beyond t w b f r) = absurd (p.not_of_form (record { value = t; ok = well_formed t w; fills = (fills_table t s).1 f }))
    back p (misformed j q r) = r ∙ ap (λ (n : ℕ). refused_read (refused_at TableText n)) (refused_one q p)

-- ---- the table that was read, lent

-- its parts, lent as the counts say, are the table's own
pub lent_parts :
    (t : run.Plant) → AcceptedTable t
    → plant_of (table_of t).plant (take (table_of t).plant.just (table_of t).fair) (take (table_of t).plant.states (table_of t).label) (take (table_of t).plant.states (table_of t).next) ≡ t
lent_parts t a =
    rw (take_padded 4 (length t.fair) t.fair refl a.few_fair, take_padded 64 t.states t.label a.labels a.few_states, take_padded 64 t.states t.next a.nexts a.few_states)
    refl

-- an accepted table passes the check when its parts are lent
pub lent_passes : (s : List ℕ) → (table_read s).outcome ≡ Ok tt → lent_check (table_read s).table ≡ Ok tt
lent_passes s e =
    let (t, a, f, r) = accepted_text s e in
    ap lent_check r ∙ lent_check_lem t a.few_fair a.few_states a.labels a.nexts ∙ (accepted_exactly (counts_in t) t.fair t.label t.next).1 (refl, a)

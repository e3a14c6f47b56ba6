-- What reading a table text gives.
use Rattle.std.specs.Prelude.{ℕ, ◌+◌, ◌≤◌, ◌<◌, ◌≡◌, refl, true, false, cond, List, [], length, take, drop, get_or, replicate, Ok, Err}
use Rattle.std.proofs.Math.Path.{sym, ap, ap₂}
use Rattle.std.proofs.Common.{◌∙◌, arith, ext_get_or, get_or-take, length-take}
use Rattle.meaning.specs.Run as run
use Rattle.meaning.specs.Limits.{most_props}
use Rattle.answers.specs.declared.Kind.TheVariants.{TableText}
use Rattle.answers.specs.declared.Refusal.{Refusal}
use Rattle.answers.specs.Results.{Outcome}
use Rattle.answers.specs.Paper.{refused_at}
use Rattle.text.specs.Slot.{word, matched}
use Rattle.words.specs.Lists.{length_list, list_at}
use Rattle.text.specs.Number.{width_of}
use Rattle.text.specs.After.{cursor_after, cursor}
use Rattle.text.specs.Form.{led, ended, both, seen}
use Rattle.text.specs.Hex.{hex}
use Rattle.text.specs.Count.{counted}
use Rattle.text.specs.Many.{listed}
use Rattle.text.specs.Took.{Took, took_both, took_seen, took_all}
use Rattle.text.specs.Place.{misfits}
use Rattle.text.specs.Promises.{fit_of}
use Rattle.text.specs.declared.Cursor.{Cursor}
use Rattle.plant.specs.declared.Plant.{Plant}
use Rattle.plant.specs.declared.Table.{Table}
use Rattle.plant.specs.declared.TableRead.{TableRead}
use Rattle.plant.specs.Table.{table_outcome}
use Rattle.plant.specs.Text.{table_form, table_reads, parts, table_in, parts_of, parts_back, props_key, states_key, start_key, just_key, count_line, hex_line, fairs, rows}
use Rattle.plant.specs.Lines.{padded, keyed_line, IsCountLine, IsHexLine, IsFair, IsRows}

-- the counts of a table
abbrev pub counts_in : run.Plant → Plant
counts_in t = record { props = t.props; states = t.states; start = t.start; just = length t.fair }

-- the table with its sets in arrays, zero beyond the counts
abbrev pub table_of : run.Plant → Table
table_of t = record { plant = counts_in t; fair = padded 4 t.fair; label = padded 64 t.label; next = padded 64 t.next }

-- the table that stands beside a refusal
abbrev pub no_table : Table
no_table =
    record { plant = record { props = 0; states = 0; start = 0; just = 0 }; fair = replicate 4 0; label = replicate 64 0; next = replicate 64 0 }

-- with a refusal the table beside it is empty, so nothing of the text is given away (01, Refusal numbers)
abbrev pub refused_read : Refusal → TableRead
refused_read r = record { outcome = Err r; table = no_table }

-- the table where it is accepted
abbrev pub answered : Outcome → Table → TableRead
answered (Ok _) t = record { outcome = Ok tt; table = t }
answered (Err r) t = refused_read r

-- what the check of a table says
abbrev pub check_of : run.Plant → Outcome
check_of t = table_outcome (counts_in t) t.fair t.label t.next

-- a text that stops to fit its guess, or goes on behind it, is refused by 3 at that place
unfoldable pub read_as : ℕ → ℕ → ℕ → TableRead → TableRead
read_as good slots long r = cond (misfits good slots long) (refused_read (refused_at TableText good)) r

-- any other is answered as the table's check answers
unfoldable pub table_read : List ℕ → TableRead
table_read s =
    read_as (fit_of table_form s) (length (table_form.slots (table_form.guess s))) (length s) (answered (check_of (table_form.guess s)) (table_of (table_form.guess s)))

-- ---- the code's way: the table of the text, and the cursor behind it

-- the table that the text gives if it is of the form, and how far it is
pub record IsParsed (s : List ℕ) (t : Table) (end : Cursor) : Type 0 where
  pub is : t ≡ table_of (table_form.guess s)
  pub goes : end ≡ cursor (length (table_form.slots (table_form.guess s))) (fit_of table_form s)
  pub few_fair : t.plant.just ≤ 4
  pub few_states : t.plant.states ≤ 64

pub parsed :
    (s : List ℕ) (c₁ c₂ c₃ c₄ c₅ c₆ c₇ : Cursor) (props states start just : ℕ) (fair label next : List ℕ) (w : ℕ) → w ≡ width_of props → IsCountLine s (cursor 0 0) props_key 1 most_props props c₁
    → IsCountLine s c₁ states_key 1 64 states c₂ → (c₃ ≡ cursor_after s c₂ (word start_key)) × (c₃.at ≡ c₂.at + 6) → IsHexLine s c₃ [] 16 start c₄ × (c₄.at ≤ c₃.at + 17)
    → IsCountLine s c₄ just_key 0 4 just c₅ → IsFair s c₅ just fair c₆ → IsRows s c₆ w states label next c₇
    → IsParsed s (record { plant = record { props = props; states = states; start = start; just = just }; fair = fair; label = label; next = next }) c₇
unfolding seen listed
parsed s c₁ c₂ c₃ c₄ c₅ c₆ c₇ props states start just fair label next w wide p n k st j f r' =
    record {
      is = same ∙ ap table_of all.0;
      goes = all.1 ∙ ap (λ (t : run.Plant). cursor (length (table_form.slots t)) (matched s (table_form.slots t))) all.0;
      few_fair = j.high;
      few_states = n.high;
    }
  where
    r : IsRows s c₆ (width_of props) states label next c₇
    r = rw wide at r'

    sets : List ℕ
    sets = (fairs just).guess (drop c₅.at s)

    pairs : List ℕ × List ℕ
    pairs = (rows (width_of props) states).guess (drop c₆.at s)

    many : length sets ≡ just
    many = length_list just _

    make : ℕ → List ℕ → List ℕ → List ℕ → Table
    make n a b d = record { plant = record { props = props; states = states; start = start; just = n }; fair = a; label = b; next = d }

    same : make just fair label next ≡ table_of (table_in (props, (states, (start, (just, (sets, pairs))))))
    same = rw (f.are, r.labels, r.nexts) (ap (λ (n : ℕ). make n (padded 4 sets) (padded 64 pairs.0) (padded 64 pairs.1)) (sym many))

    took : Took parts s (cursor 0 0) (props, (states, (start, (just, (sets, pairs))))) c₇
    took =
        took_both (λ props. both (count_line states_key 1 64) (λ states. both (hex_line (word start_key) 16) (λ start. both (count_line just_key 0 4) (λ just. both (fairs just) (λ fair. rows (width_of props) states))))) p.took
        (took_both (λ states. both (hex_line (word start_key) 16) (λ start. both (count_line just_key 0 4) (λ just. both (fairs just) (λ fair. rows (width_of props) states)))) n.took
        (took_both (λ start. both (count_line just_key 0 4) (λ just. both (fairs just) (λ fair. rows (width_of props) states))) (keyed_line start_key k.0 st.0)
        (took_both (λ just. both (fairs just) (λ fair. rows (width_of props) states)) j.took (took_both (λ fair. rows (width_of props) states) f.took r.took))))

    all :
        (table_in (props, (states, (start, (just, (sets, pairs))))) ≡ table_form.guess s)
        × (c₇ ≡ cursor (length (table_form.slots (table_in (props, (states, (start, (just, (sets, pairs)))))))) (matched s (table_form.slots (table_in (props, (states, (start, (just, (sets, pairs)))))))))
    all = took_all (took_seen (λ t. parts.Ok (parts_of t)) table_in parts_of (parts_back (props, (states, (start, (just, (sets, pairs))))) many) took)

-- ---- lent parts

-- what the check of a table that was read is lent
abbrev pub lent_check : Table → Outcome
lent_check t = table_outcome t.plant (take t.plant.just t.fair) (take t.plant.states t.label) (take t.plant.states t.next)

-- a list made longer by zeros, cut back
pub take_padded : (m n : ℕ) (l : List ℕ) → length l ≡ n → n ≤ m → take n (padded m l) ≡ l
take_padded m n l e h =
    ext_get_or 0 (take n (padded m l)) l (long ∙ sym e)
    (λ k b. let lt : k < n = omega (arith, long) in get_or-take n (padded m l) k 0 lt ∙ list_at m (λ k. get_or l k 0) k (omega arith))
  where
    long : length (take n (padded m l)) ≡ n
    long = omega (arith, length-take n (padded m l), length_list m (λ k. get_or l k 0))

pub lent_check_lem :
    (t : run.Plant) → length t.fair ≤ 4 → t.states ≤ 64 → length t.label ≡ t.states → length t.next ≡ t.states → lent_check (table_of t) ≡ check_of t
lent_check_lem t few states labels nexts =
    rw (take_padded 4 (length t.fair) t.fair refl few, take_padded 64 t.states t.label labels states, take_padded 64 t.states t.next nexts states)

guess_check : (s : List ℕ) → lent_check (table_of (table_form.guess s)) ≡ check_of (table_form.guess s)
unfolding seen both led ended counted hex listed
guess_check s =
    let ok = table_reads.fine s in
    lent_check_lem (table_form.guess s) ok.1.1.1.0.1 ok.1.0.1 ok.1.1.1.1.1.0.0 ok.1.1.1.1.1.0.1

-- ---- the answer by the cursor

module _ (s : List ℕ) (t : Table) (end : Cursor) (p : IsParsed s t end) where
  by_cursor : table_read s ≡ read_as end.good end.at (length s) (answered (lent_check t) t)
  unfolding table_read
  by_cursor =
      ap (λ (o : Outcome). read_as (fit_of table_form s) (length (table_form.slots (table_form.guess s))) (length s) (answered o (table_of (table_form.guess s)))) (sym (guess_check s))
      ∙ ap₂ (λ (c : Cursor) (x : Table). read_as c.good c.at (length s) (answered (lent_check x) x)) (sym p.goes) (sym p.is)

  pub read_unfit : misfits end.good end.at (length s) ≡ true → refused_read (refused_at TableText end.good) ≡ table_read s
  unfolding read_as
  read_unfit h = sym (by_cursor ∙ rw h)

  pub read_fits : (o : Outcome) → misfits end.good end.at (length s) ≡ false → o ≡ lent_check t → answered o t ≡ table_read s
  unfolding read_as
  read_fits o h e = rw e (sym (by_cursor ∙ rw h))

-- WHAT WAS STORED IS READ BACK: `stored_back` for a box that is made, `monitor_back` for one whose monitor is changed.
use Rattle.std.specs.Prelude.{ℕ, ◌+◌, ◌-◌, ◌%◌, ◌≤◌, ◌<◌, ◌≡◌, Bool, true, false, not, cond, List, eqb, length}
use Rattle.std.proofs.Math.Path.{refl, ap}
use Rattle.std.proofs.Common.{sym, ◌∙◌}
use Rattle.std.proofs.Math.Bool.{So}
use native.Mathlib.Omega.{arith}
use Rattle.std.proofs.Math.Decide.{ℕ_discrete, dec_lt}
use Rattle.std.proofs.Math.ListN.{get_or}
use borrow.Author.Tests.{lt-ltb, le-ltb, eq-eqb, ne_eqb}
use Rattle.words.specs.Below.{list_below}
use Rattle.words.specs.Folds.{all_at, all_of}
use Rattle.words.specs.Lists.{length_list, at_list, of_list, list_at, list_of}
use Rattle.syntax.specs.declared.Op.{Op}
use Rattle.syntax.specs.declared.Op.TheVariants.{False, True, Prop, Not, Next, Finally, Globally, Until, Release, And, Or, Implies}
use Rattle.syntax.specs.Value.{blank}
use Rattle.sides.specs.declared.Monitor.{Monitor}
use Rattle.slate.specs.declared.Held.{Held}
use Rattle.slate.specs.Box.{
  can_be,
  fits_in,
  op_of,
  labels_in,
  words_in,
  node_in,
  nodes_in,
  props_in,
  table_in,
  rule_in,
  monitor_in,
  held_in,
  code_of,
  plant_word,
  table_word,
  rule_word,
  monitor_word,
  held_word,
  stored_of,
  changed_word,
  with_monitor,
}
use Rattle.slate.specs.Laws.{op_beyond}

-- ---- what the types tell of a value: how long its arrays are, and that labels have 16 bits and propositions 8

pub record Sets (m : Monitor) : Type 0 where
  pub keeps : length m.keeps.words ≡ 64
  pub breaks : length m.breaks.words ≡ 64

pub record Typed (h : Held) : Type 0 where
  pub fairs : length h.table.fair ≡ 4
  pub labels : length h.table.label ≡ 64
  pub small : (i : ℕ) → i < 64 → get_or h.table.label i 0 < 65536
  pub nexts : length h.table.next ≡ 64
  pub nodes : length h.rule.nodes ≡ 32
  pub codes : (i : ℕ) → i < 32 → code_of (get_or h.rule.nodes i blank).op < 267
  pub lives : length h.live.words ≡ 64
  pub sets : Sets h.monitor

-- ---- words that fit

fit_at : (p x : ℕ) → (8 ≤ p → p < 72 → x < 65536) → (137 ≤ p → p < 169 → x < 267) → (p ≡ 233 → x < 2) → So (can_be p x)
unfolding can_be
fit_at p x label node seen = elim (dec_lt p 8) [
  | yes a ↦ rw (lt-ltb p 8 a) refl
  | no a ↦ elim (dec_lt p 72) [
    | yes b ↦ rw (le-ltb p 8 (omega arith), lt-ltb p 72 b) (lt-ltb x 65536 (label (omega arith) b))
    | no b ↦ elim (dec_lt p 137) [
      | yes c ↦ rw (le-ltb p 8 (omega arith), le-ltb p 72 (omega arith), lt-ltb p 137 c) refl
      | no c ↦ elim (dec_lt p 169) [
        | yes d ↦ rw (le-ltb p 8 (omega arith), le-ltb p 72 (omega arith), le-ltb p 137 (omega arith), lt-ltb p 169 d) (lt-ltb x 267 (node (omega arith) d))
        | no d ↦ elim (ℕ_discrete p 233) [
          | yes e ↦ rw (le-ltb p 8 (omega arith), le-ltb p 72 (omega arith), le-ltb p 137 (omega arith), le-ltb p 169 (omega arith), eq-eqb p 233 e) (lt-ltb x 2 (seen e))
          | no e ↦ rw (le-ltb p 8 (omega arith), le-ltb p 72 (omega arith), le-ltb p 137 (omega arith), le-ltb p 169 (omega arith), ne_eqb p 233 e) refl
        ]
      ]
    ]
  ]
]

-- ---- the words of a box, part by part

-- an entry counted from where its part begins
behind : (l : List ℕ) (from i : ℕ) → get_or l (from + i - from) 0 ≡ get_or l i 0
behind l from i = let same : from + i - from ≡ i = omega arith in ap (λ k. get_or l k 0) same

module _ (h : Held) where
  fair_word : (p : ℕ) → 4 ≤ p → p < 8 → held_word h p ≡ get_or h.table.fair (p - 4) 0
  unfolding held_word table_word
  fair_word p a b = rw (lt-ltb p 136 (omega arith), le-ltb p 4 a, lt-ltb p 8 b) refl

  label_word : (p : ℕ) → 8 ≤ p → p < 72 → held_word h p ≡ get_or h.table.label (p - 8) 0
  unfolding held_word table_word
  label_word p a b = rw (lt-ltb p 136 (omega arith), le-ltb p 4 (omega arith), le-ltb p 8 a, lt-ltb p 72 b) refl

  next_word : (p : ℕ) → 72 ≤ p → p < 136 → held_word h p ≡ get_or h.table.next (p - 72) 0
  unfolding held_word table_word
  next_word p a b = rw (lt-ltb p 136 b, le-ltb p 4 (omega arith), le-ltb p 8 (omega arith), le-ltb p 72 a) refl

  node_word : (p : ℕ) → 137 ≤ p → p < 169 → held_word h p ≡ code_of (get_or h.rule.nodes (p - 137) blank).op
  unfolding held_word rule_word
  node_word p a b =
      let same : p - 136 - 1 ≡ p - 137 = omega arith in
      rw (le-ltb p 136 (omega arith), lt-ltb p 169 b, ne_eqb (p - 136) 0 (λ e. omega arith), same) refl

  live_word : (p : ℕ) → 169 ≤ p → p < 233 → held_word h p ≡ get_or h.live.words (p - 169) 0
  unfolding held_word
  live_word p a b = rw (le-ltb p 136 (omega arith), le-ltb p 169 a, lt-ltb p 233 b) refl

  monitor_part : (p : ℕ) → 233 ≤ p → p < 363 → held_word h p ≡ monitor_word h.monitor (p - 233)
  unfolding held_word
  monitor_part p a b = rw (le-ltb p 136 (omega arith), le-ltb p 169 (omega arith), le-ltb p 233 a, lt-ltb p 363 b) refl

module _ (m : Monitor) where
  keeps_word : (p : ℕ) → 235 ≤ p → p < 299 → monitor_word m (p - 233) ≡ get_or m.keeps.words (p - 235) 0
  unfolding monitor_word
  keeps_word p a b =
      let same : p - 233 - 2 ≡ p - 235 = omega arith in
      rw (ne_eqb (p - 233) 0 (λ e. omega arith), ne_eqb (p - 233) 1 (λ e. omega arith), lt-ltb (p - 233) 66 (omega arith), same) refl

  breaks_word : (p : ℕ) → 299 ≤ p → p < 363 → monitor_word m (p - 233) ≡ get_or m.breaks.words (p - 299) 0
  unfolding monitor_word
  breaks_word p a b =
      let same : p - 233 - 66 ≡ p - 299 = omega arith in
      rw (ne_eqb (p - 233) 0 (λ e. omega arith), ne_eqb (p - 233) 1 (λ e. omega arith), le-ltb (p - 233) 66 (omega arith), same) refl

  -- whether an event came is one of two words
  seen_small : cond m.seen 1 0 < 2
  seen_small = small m.seen
    where
      small : (b : Bool) → cond b 1 0 < 2
      small true = omega arith
      small false = omega arith

-- ---- a monitor

seen_back : (b : Bool) → not (eqb (cond b 1 0) 0) ≡ b
seen_back true = refl
seen_back false = refl

-- words in which a monitor stands
monitor_stands : (w : List ℕ) (m : Monitor) → Sets m → ((p : ℕ) → 233 ≤ p → p < 363 → get_or w p 0 ≡ monitor_word m (p - 233)) → monitor_in w ≡ m
unfolding monitor_in words_in monitor_word
monitor_stands w m s at =
    let seen : not (eqb (get_or w 233 0) 0) ≡ m.seen = ap (λ x. not (eqb x 0)) (at 233 (omega arith) (omega arith)) ∙ seen_back m.seen in
    let expected : get_or w 234 0 ≡ m.expected = at 234 (omega arith) (omega arith) in
    let keeps : list_below 64 (λ i. get_or w (235 + i) 0) ≡ m.keeps.words =
    list_of 64 (λ i. get_or w (235 + i) 0) m.keeps.words s.keeps
    (λ i l. at (235 + i) (omega arith) (omega arith) ∙ keeps_word m (235 + i) (omega arith) (omega arith) ∙ behind m.keeps.words 235 i) in
    let breaks : list_below 64 (λ i. get_or w (299 + i) 0) ≡ m.breaks.words =
    list_of 64 (λ i. get_or w (299 + i) 0) m.breaks.words s.breaks
    (λ i l. at (299 + i) (omega arith) (omega arith) ∙ breaks_word m (299 + i) (omega arith) (omega arith) ∙ behind m.breaks.words 299 i) in
    rw (seen, expected, keeps, breaks) refl

-- ---- a box that is made

op_back : (o : Op) → code_of o < 267 → op_of (code_of o) ≡ o
unfolding op_of
op_back False l = refl
op_back True l = refl
op_back (Prop k) l =
    let same : (11 + k - 11) % 256 ≡ k = omega arith in
    op_beyond (11 + k) (omega arith) ∙ ap Prop same
op_back Not l = refl
op_back Next l = refl
op_back Finally l = refl
op_back Globally l = refl
op_back Until l = refl
op_back Release l = refl
op_back And l = refl
op_back Or l = refl
op_back Implies l = refl

module _ (h : Held) (t : Typed h) where
  word : (p : ℕ) → p < 384 → get_or (stored_of h) p 0 ≡ held_word h p
  unfolding stored_of
  word p l = list_at 384 (held_word h) p l

  label_is : (i : ℕ) → i < 64 → held_word h (8 + i) ≡ get_or h.table.label i 0
  label_is i l = label_word h (8 + i) (omega arith) (omega arith) ∙ behind h.table.label 8 i

  node_is : (i : ℕ) → i < 32 → held_word h (137 + i) ≡ code_of (get_or h.rule.nodes i blank).op
  node_is i l =
      let same : 137 + i - 137 ≡ i = omega arith in
      node_word h (137 + i) (omega arith) (omega arith) ∙ ap (λ k. code_of (get_or h.rule.nodes k blank).op) same

  fits : fits_in (stored_of h) ≡ true
  unfolding fits_in monitor_word
  fits = all_of 384 (λ p. can_be p (get_or (stored_of h) p 0)) (λ p l. rw (word p l) (fit_at p (held_word h p) (label p) (node p) (seen p)))
    where
      label : (p : ℕ) → 8 ≤ p → p < 72 → held_word h p < 65536
      label p a b = rw (label_word h p a b) (t.small (p - 8) (omega arith))

      node : (p : ℕ) → 137 ≤ p → p < 169 → held_word h p < 267
      node p a b = rw (node_word h p a b) (t.codes (p - 137) (omega arith))

      seen : (p : ℕ) → p ≡ 233 → held_word h p < 2
      seen p e = rw (e, monitor_part h 233 (omega arith) (omega arith)) (seen_small h.monitor)

  table_back : table_in (stored_of h) ≡ h.table
  unfolding table_in props_in labels_in words_in held_word table_word plant_word
  table_back =
      let fair : list_below 4 (λ i. get_or (stored_of h) (4 + i) 0) ≡ h.table.fair =
      list_of 4 (λ i. get_or (stored_of h) (4 + i) 0) h.table.fair t.fairs
      (λ i l. word (4 + i) (omega arith) ∙ fair_word h (4 + i) (omega arith) (omega arith) ∙ behind h.table.fair 4 i) in
      let label : list_below 64 (λ i. get_or (stored_of h) (8 + i) 0 % 65536) ≡ h.table.label =
      list_of 64 (λ i. get_or (stored_of h) (8 + i) 0 % 65536) h.table.label t.labels
      (λ i l. ap (λ x. x % 65536) (word (8 + i) (omega arith) ∙ label_is i l) ∙ whole (get_or h.table.label i 0) (t.small i l)) in
      let next : list_below 64 (λ i. get_or (stored_of h) (72 + i) 0) ≡ h.table.next =
      list_of 64 (λ i. get_or (stored_of h) (72 + i) 0) h.table.next t.nexts
      (λ i l. word (72 + i) (omega arith) ∙ next_word h (72 + i) (omega arith) (omega arith) ∙ behind h.table.next 72 i) in
      rw (fits, word 0 (omega arith), word 1 (omega arith), word 2 (omega arith), word 3 (omega arith), fair, label, next) refl
    where
      whole : (x : ℕ) → x < 65536 → x % 65536 ≡ x
      whole x l = omega arith

  rule_back : rule_in (stored_of h) ≡ h.rule
  unfolding rule_in nodes_in held_word rule_word
  rule_back =
      let nodes : list_below 32 (node_in (stored_of h)) ≡ h.rule.nodes =
      of_list blank 32 (node_in (stored_of h)) h.rule.nodes t.nodes
      (λ i l. ap (λ (x : ℕ). record { op = op_of x }) (word (137 + i) (omega arith) ∙ node_is i l)
      ∙ ap (λ (o : Op). record { op = o }) (op_back (get_or h.rule.nodes i blank).op (t.codes i l))) in
      rw (word 136 (omega arith), nodes) refl

  live_back : words_in (stored_of h) 169 ≡ h.live.words
  unfolding words_in
  live_back = list_of 64 (λ i. get_or (stored_of h) (169 + i) 0) h.live.words t.lives
      (λ i l. word (169 + i) (omega arith) ∙ live_word h (169 + i) (omega arith) (omega arith) ∙ behind h.live.words 169 i)

  pub stored_back : held_in (stored_of h) ≡ h
  unfolding held_in
  stored_back =
      let monitor : monitor_in (stored_of h) ≡ h.monitor = monitor_stands (stored_of h) h.monitor t.sets (λ p a b. word p (omega arith) ∙ monitor_part h p a b) in
      rw (table_back, rule_back, live_back, monitor) refl

-- ---- the same box with another monitor

list_same : {A : Type 0} (d : A) (n : ℕ) (f g : ℕ → A) → ((k : ℕ) → k < n → f k ≡ g k) → list_below n f ≡ list_below n g
list_same d n f g e = of_list d n f (list_below n g) (length_list n g) (λ k l. e k l ∙ sym (at_list d n g k l))

-- what a box holds where its monitor is another
abbrev pub changed : Held → Monitor → Held
changed h m = record { table = h.table; rule = h.rule; live = h.live; monitor = m }

module _ (w : List ℕ) (m : Monitor) where
  now : (p : ℕ) → p < 384 → get_or (with_monitor w m) p 0 ≡ changed_word w m p
  unfolding with_monitor
  now p l = list_at 384 (changed_word w m) p l

  before : (p : ℕ) → p < 233 → get_or (with_monitor w m) p 0 ≡ get_or w p 0
  unfolding changed_word
  before p l = now p (omega arith) ∙ rw (lt-ltb p 233 l) refl

  within : (p : ℕ) → 233 ≤ p → p < 363 → get_or (with_monitor w m) p 0 ≡ monitor_word m (p - 233)
  unfolding changed_word
  within p a b = now p (omega arith) ∙ rw (le-ltb p 233 a, lt-ltb p 363 b) refl

  -- the words behind the monitor stay
  pub behind_stay : (p : ℕ) → 363 ≤ p → p < 384 → get_or (with_monitor w m) p 0 ≡ get_or w p 0
  unfolding changed_word
  behind_stay p a b = now p b ∙ rw (le-ltb p 233 (omega arith), le-ltb p 363 a) refl

  module _ (fit : fits_in w ≡ true) where
    still : fits_in (with_monitor w m) ≡ true
    unfolding fits_in monitor_word
    still = all_of 384 (λ p. can_be p (get_or (with_monitor w m) p 0)) at
      where
        word : (p : ℕ) → p < 384 → So (can_be p (get_or w p 0))
        word = all_at 384 (λ p. can_be p (get_or w p 0)) fit

        inside : (p : ℕ) → 233 ≤ p → p < 363 → So (can_be p (monitor_word m (p - 233)))
        inside p a b = fit_at p (monitor_word m (p - 233)) (λ c d. absurd (omega arith)) (λ c d. absurd (omega arith)) (λ e. rw e (seen_small m))

        at : (p : ℕ) → p < 384 → So (can_be p (get_or (with_monitor w m) p 0))
        at p l = elim (dec_lt p 233) [
          | yes a ↦ rw (before p a) (word p l)
          | no a ↦ elim (dec_lt p 363) [ yes b ↦ rw (within p (omega arith) b) (inside p (omega arith) b) | no b ↦ rw (behind_stay p (omega arith) l) (word p l) ]
        ]

    table_stays : table_in (with_monitor w m) ≡ table_in w
    unfolding table_in props_in labels_in words_in
    table_stays =
        let fair = list_same 0 4 (λ i. get_or (with_monitor w m) (4 + i) 0) (λ i. get_or w (4 + i) 0) (λ i l. before (4 + i) (omega arith)) in
        let label = list_same 0 64 (λ i. get_or (with_monitor w m) (8 + i) 0 % 65536) (λ i. get_or w (8 + i) 0 % 65536) (λ i l. ap (λ x. x % 65536) (before (8 + i) (omega arith))) in
        let next = list_same 0 64 (λ i. get_or (with_monitor w m) (72 + i) 0) (λ i. get_or w (72 + i) 0) (λ i l. before (72 + i) (omega arith)) in
        rw (still, fit, before 0 (omega arith), before 1 (omega arith), before 2 (omega arith), before 3 (omega arith), fair, label, next) refl

    rule_stays : rule_in (with_monitor w m) ≡ rule_in w
    unfolding rule_in nodes_in
    rule_stays =
        let nodes = list_same blank 32 (node_in (with_monitor w m)) (node_in w) (λ i l. ap (λ (x : ℕ). record { op = op_of x }) (before (137 + i) (omega arith))) in
        rw (before 136 (omega arith), nodes) refl

    live_stays : words_in (with_monitor w m) 169 ≡ words_in w 169
    unfolding words_in
    live_stays = list_same 0 64 (λ i. get_or (with_monitor w m) (169 + i) 0) (λ i. get_or w (169 + i) 0) (λ i l. before (169 + i) (omega arith))

    pub monitor_back : Sets m → held_in (with_monitor w m) ≡ changed (held_in w) m
    unfolding held_in
    monitor_back s =
        let monitor : monitor_in (with_monitor w m) ≡ m = monitor_stands (with_monitor w m) m s within in
        rw (table_stays, rule_stays, live_stays, monitor) refl

-- ---- nothing is cut off silently: a box that counts a proposition has no word that is more than its field can hold

pub counted_fits : (w : List ℕ) → 1 ≤ (held_in w).table.plant.props → fits_in w ≡ true
unfolding held_in table_in props_in
counted_fits w l = go (fits_in w) l
  where
    go : (b : Bool) → 1 ≤ cond b (get_or w 0 0) 0 → b ≡ true
    go true l = refl
    go false l = absurd (omega arith)

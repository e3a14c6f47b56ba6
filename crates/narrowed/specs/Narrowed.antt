-- AN EVENT BY ONE THAT SEES NOTHING: behind the first event, what an event leads to is what the event that sees nothing and restarts nothing leads to, cut to the
-- states that agree, and at a restart united and split anew. `narrowed_is` says so.
use Prim.Native.Nat.{ℕ, ◌≤◌}
use Rattle.std.proofs.Math.Path.{◌≡◌, refl, sym, ap}
use Rattle.std.proofs.Common.{ap₂, ◌∙◌, inl, inr, ⊎_elim, arith}
use Rattle.std.specs.Prelude.{Bool, ◌&&◌, ◌||◌, cond, ◌⊎◌, List, eqb, ltb, length, get_or}
use Rattle.std.proofs.Math.Bool.{true, false, So}
use Rattle.std.specs.Int.Bits.{bit_xor, and_zero_r}
use borrow.Author.Tests.{lt-ltb}
use Rattle.meaning.specs.Bit.{bit}
use Rattle.words.specs.Laws.{bit_and_lem}
use Rattle.words.specs.Lists.{length_words}
use Rattle.words.specs.Unions.{bit_word_of}
use Rattle.words.specs.Truth.{so_ext, and_says, or_says}
use Rattle.pairs.specs.Sets.{inside, join_of, inside_words, inside_join, pairs_ext}
use Rattle.moves.specs.Image.{reached_at, image_at, image_of, bit_reached, MoveTo, leads_move, move_leads}
use Rattle.labels.specs.Labels.{agrees, agreeing_of}
use Rattle.leads.specs.Halves.{from_in, to_in}
use Rattle.event_log.specs.declared.Event.{Event}
use Rattle.event_log.specs.Log.{nothing}
use Rattle.sides.specs.declared.Monitor.{Monitor}
use Rattle.sides.specs.Sides.{sides_of, value_in, split_in, split_of, cut_in, cut_of, kept_of, moved_by, restarted_by, advanced_by}

-- both sides cut to the states that agree; at a restart they are one first, and split anew
unfoldable pub narrowed_in : List ℕ → List ℕ → List ℕ → Monitor → Event → Monitor
narrowed_in label holds live wide e =
    let agree = agreeing_of label e.see e.val in
    let both = join_of wide.keeps.words wide.breaks.words in
    cond e.new (sides_of wide.expected true (split_of both agree holds true) (split_of both agree holds false)) (kept_of wide live agree)

-- what agrees with an event agrees with one that sees nothing
agree_all : (label : List ℕ) (see val s : ℕ) → So (bit (agreeing_of label see val) s) → So (bit (agreeing_of label 0 0) s)
unfolding agreeing_of
agree_all label see val s h =
    let inside_it : So (ltb s (length label)) = ((and_says (ltb s (length label)) (agrees see val (get_or label s 0))).0 (sym (bit_word_of (length label) (λ s. agrees see val (get_or label s 0)) s) ∙ h)).0 in
    bit_word_of (length label) (λ s. agrees 0 0 (get_or label s 0)) s ∙ (and_says (ltb s (length label)) (agrees 0 0 (get_or label s 0))).1 (inside_it, ap (λ (x : ℕ). eqb x 0) (and_zero_r (bit_xor (get_or label s 0) 0)))

-- ---- sets of pairs

module _ (next : List ℕ) (src dst : ℕ → ℕ → ℕ) (n : ℕ) (most : n ≤ 64) (live : List ℕ) (agree all : ℕ) (wider : (s : ℕ) → So (bit agree s) → So (bit all s)) where
  abbrev image : List ℕ → ℕ → List ℕ
  image old among = image_of next old src dst n live among

  abbrev reached : List ℕ → ℕ → ℕ → Bool
  reached old s v = bit (reached_at next old src dst n v) s

  -- a pair of an image
  inside_image : (old : List ℕ) (among s v : ℕ) → inside (image old among) s v ≡ (ltb v n && ((bit (get_or live v 0) s && bit among s) && reached old s v))
  unfolding image_of
  inside_image old among s v = rw (inside_words n (image_at next old src dst n live among) most s v, bit_and_lem, bit_and_lem) refl

  long_image : (old : List ℕ) (among : ℕ) → length (image old among) ≡ 64
  unfolding image_of
  long_image old among = length_words n (image_at next old src dst n live among)

  -- the image among fewer states is the wider one cut
  pub image_cut : (old : List ℕ) → image old agree ≡ cut_of (image old all) live agree
  unfolding cut_of
  image_cut old = pairs_ext (image old agree) (cut_of (image old all) live agree) (long_image old agree) (length_words 64 (cut_in (image old all) live agree)) (λ s v l.
      inside_image old agree s v
      ∙ cases (ltb v n) (bit (get_or live v 0) s) (bit agree s) (bit all s) (reached old s v) (wider s)
      ∙ sym (inside_words 64 (cut_in (image old all) live agree) (omega arith) s v ∙ rw (lt-ltb v 64 l, bit_and_lem, bit_and_lem, inside_image old all s v) refl))
    where
      cases : (x l a b r : Bool) → (So a → So b) → (x && ((l && a) && r)) ≡ (true && ((l && a) && (x && ((l && b) && r))))
      cases true true true true r h = refl
      cases true true true false r h = absurd (let y : ◌≡◌ {A = Bool} false true = h refl in let z : ◌≡◌ {A = ℕ} 0 1 = cc in omega arith)
      cases true true false b r h = refl
      cases true false a b r h = refl
      cases false true true b r h = refl
      cases false true false b r h = refl
      cases false false a b r h = refl

  -- two sets lead where one of them does
  reached_join : (p q : List ℕ) (s v : ℕ) → reached (join_of p q) s v ≡ (reached p s v || reached q s v)
  reached_join p q s v = so_ext (reached (join_of p q) s v) (reached p s v || reached q s v)
      (λ h.
      let m = leads_move next (join_of p q) src dst n s v (sym (bit_reached next (join_of p q) src dst n v s) ∙ h) in
      (or_says (reached p s v) (reached q s v)).1
      (⊎_elim (λ a. inl (leads p m a)) (λ a. inr (leads q m a))
      ((or_says (inside p m.s m.v) (inside q m.s m.v)).0 ((and_says (ltb m.v 64) (inside p m.s m.v || inside q m.s m.v)).0 (sym (inside_join p q m.s m.v) ∙ m.held)).1)))
      (λ h. ⊎_elim (λ a. joins p a (λ t u b. (or_says (inside p t u) (inside q t u)).1 (inl b))) (λ a. joins q a (λ t u b. (or_says (inside p t u) (inside q t u)).1 (inr b))) ((or_says (reached p s v) (reached q s v)).0 h))
    where
      leads : (o : List ℕ) (m : MoveTo next (join_of p q) src dst n s v) → So (inside o m.s m.v) → So (reached o s v)
      leads o m a =
          bit_reached next o src dst n v s
          ∙ move_leads next o src dst n s v (record { v = m.v; s = m.s; small = m.small; state = m.state; held = a; leaves = m.leaves; allowed = m.allowed; arrives = m.arrives })

      joins : (o : List ℕ) → So (reached o s v) → ((t u : ℕ) → So (inside o t u) → So (inside p t u || inside q t u)) → So (reached (join_of p q) s v)
      joins o a among =
          let m = leads_move next o src dst n s v (sym (bit_reached next o src dst n v s) ∙ a) in
          let held : So (inside (join_of p q) m.s m.v) = inside_join p q m.s m.v ∙ (and_says (ltb m.v 64) (inside p m.s m.v || inside q m.s m.v)).1 (lt-ltb m.v 64 (omega (arith, m.small)), among m.s m.v m.held) in
          bit_reached next (join_of p q) src dst n v s
          ∙ move_leads next (join_of p q) src dst n s v (record { v = m.v; s = m.s; small = m.small; state = m.state; held = held; leaves = m.leaves; allowed = m.allowed; arrives = m.arrives })

  -- the image of two sets among fewer states, split, is that of the wider images united
  pub image_split : (p q holds : List ℕ) (keeps : Bool) → split_of (image (join_of p q) agree) agree holds keeps ≡ split_of (join_of (image p all) (image q all)) agree holds keeps
  unfolding split_of
  image_split p q holds keeps = pairs_ext (split_of (image (join_of p q) agree) agree holds keeps) (split_of (join_of (image p all) (image q all)) agree holds keeps)
      (length_words 64 (split_in (image (join_of p q) agree) agree holds keeps)) (length_words 64 (split_in (join_of (image p all) (image q all)) agree holds keeps)) (λ s v l.
      inside_words 64 (split_in (image (join_of p q) agree) agree holds keeps) (omega arith) s v
      ∙ rw (lt-ltb v 64 l, bit_and_lem, bit_and_lem, inside_image (join_of p q) agree s v, reached_join p q s v) refl
      ∙ ap (λ (b : Bool). true && (b && bit (value_in holds keeps v) s)) (cases (ltb v n) (bit (get_or live v 0) s) (bit agree s) (bit all s) (reached p s v) (reached q s v) (wider s))
      ∙ sym (inside_words 64 (split_in (join_of (image p all) (image q all)) agree holds keeps) (omega arith) s v
      ∙ rw (lt-ltb v 64 l, bit_and_lem, bit_and_lem, inside_join (image p all) (image q all) s v, lt-ltb v 64 l, inside_image p all s v, inside_image q all s v) refl))
    where
      cases : (x l a b r t : Bool) → (So a → So b) → ((x && ((l && a) && (r || t))) && a) ≡ ((true && ((x && ((l && b) && r)) || (x && ((l && b) && t)))) && a)
      cases true true true true r t h = refl
      cases true true true false r t h = absurd (let y : ◌≡◌ {A = Bool} false true = h refl in let z : ◌≡◌ {A = ℕ} 0 1 = cc in omega arith)
      cases true true false true true t h = refl
      cases true true false true false true h = refl
      cases true true false true false false h = refl
      cases true true false false r t h = refl
      cases true false a b r t h = refl
      cases false l a b r t h = refl

-- ---- monitors

module _ (label next leave enter holds : List ℕ) (count : ℕ) (most : count ≤ 64) (live : List ℕ) (m : Monitor) (seen : m.seen ≡ true) where
  -- where the event that sees nothing leads
  abbrev wide : Monitor
  wide = advanced_by label next leave enter holds count live m nothing

  wide_is : wide ≡ moved_by next leave enter count live m (agreeing_of label 0 0)
  unfolding advanced_by
  wide_is = rw seen refl

  -- A LATER EVENT leads where that does, narrowed
  pub narrowed_is : (e : Event) → advanced_by label next leave enter holds count live m e ≡ narrowed_in label holds live wide e
  unfolding narrowed_in advanced_by restarted_by moved_by kept_of
  narrowed_is e = rw seen (go e.new) ∙ ap (λ (x : Monitor). narrowed_in label holds live x e) (sym wide_is)
    where
      agree : ℕ
      agree = agreeing_of label e.see e.val

      moved : Monitor
      moved = moved_by next leave enter count live m (agreeing_of label 0 0)

      go : (new : Bool) → cond new (restarted_by next leave enter holds count live m agree) (moved_by next leave enter count live m agree)
          ≡ cond new (sides_of moved.expected true (split_of (join_of moved.keeps.words moved.breaks.words) agree holds true) (split_of (join_of moved.keeps.words moved.breaks.words) agree holds false)) (kept_of moved live agree)
      go true = ap₂ (λ (a b : List ℕ). sides_of m.expected true a b)
          (image_split next (from_in leave) (to_in enter) count most live agree (agreeing_of label 0 0) (agree_all label e.see e.val) m.keeps.words m.breaks.words holds true)
          (image_split next (from_in leave) (to_in enter) count most live agree (agreeing_of label 0 0) (agree_all label e.see e.val) m.keeps.words m.breaks.words holds false)
      go false = ap₂ (λ (a b : List ℕ). sides_of m.expected true a b)
          (image_cut next (from_in leave) (to_in enter) count most live agree (agreeing_of label 0 0) (agree_all label e.see e.val) m.keeps.words)
          (image_cut next (from_in leave) (to_in enter) count most live agree (agreeing_of label 0 0) (agree_all label e.see e.val) m.breaks.words)

-- both sets of a monitor have their 64 words
abbrev pub Whole : Monitor → Type 0
Whole m = (length m.keeps.words ≡ 64) × (length m.breaks.words ≡ 64)

-- so they have behind any event, and the same number is expected
pub advanced_whole : (label next leave enter holds : List ℕ) (count : ℕ) (live : List ℕ) (m : Monitor) (e : Event)
    → Whole (advanced_by label next leave enter holds count live m e) × ((advanced_by label next leave enter holds count live m e).expected ≡ m.expected)
unfolding advanced_by restarted_by moved_by kept_of split_of cut_of image_of
advanced_whole label next leave enter holds count live m e = go m.seen e.new
  where
    agree : ℕ
    agree = agreeing_of label e.see e.val

    go : (seen new : Bool) → Whole (cond seen (cond new (restarted_by next leave enter holds count live m agree) (moved_by next leave enter count live m agree)) (kept_of m live agree))
        × ((cond seen (cond new (restarted_by next leave enter holds count live m agree) (moved_by next leave enter count live m agree)) (kept_of m live agree)).expected ≡ m.expected)
    go true true = ((length_words 64 _, length_words 64 _), refl)
    go true false = ((length_words count _, length_words count _), refl)
    go false new = ((length_words 64 _, length_words 64 _), refl)

-- ---- for code

module _ (label holds live : List ℕ) (wide : Monitor) (e : Event) {agree : ℕ} (agreed : agree ≡ agreeing_of label e.see e.val) where
  pub narrowed_anew : {both keeps breaks : List ℕ} → e.new ≡ true → both ≡ join_of wide.keeps.words wide.breaks.words → keeps ≡ split_of both agree holds true → breaks ≡ split_of both agree holds false
      → sides_of wide.expected true keeps breaks ≡ narrowed_in label holds live wide e
  unfolding narrowed_in
  narrowed_anew new j k b = rw (new, ← agreed, ← j, k, b) refl

  pub narrowed_on : {r : Monitor} → e.new ≡ false → r ≡ kept_of wide live agree → r ≡ narrowed_in label holds live wide e
  unfolding narrowed_in
  narrowed_on new k = rw (new, ← agreed) k

-- What a store holds: texts of ascending editions, the oldest first; and what the calls do with them.
use Rattle.std.specs.Prelude.{ℕ, suc, ◌+◌, ◌-◌, ◌≤◌, ◌<◌, ◌≡◌, refl, Bool, true, false, cond, List, [], ◌∷◌, ◌++◌, ◌⊎◌, eqb, ltb, length, get_or, take, drop, set, replicate, Ok}
use Rattle.std.proofs.Common.{sym, ap, ap₂, ◌∙◌, inl, inr, arith, add-one, length-append, length-drop, length-set, take-suc-set, take_at, take_all, length-take-le, get_or-take, eq-eqb, ne_eqb, lt-ltb, le-ltb}
use Rattle.std.proofs.Math.Seq.{take-append_seam}
use Rattle.words.specs.Over.{over}
use Rattle.answers.specs.declared.Kind.TheVariants.{Room, NotHeld}
use Rattle.sheet_store.specs.declared.Kept.{Kept}
use Rattle.sheet_store.specs.declared.Store.{Store}
use Rattle.sheet_store.specs.Store.{store_as, kept_as, text_in, edition_of, edition_in, kept_of, slid, dropped, pushed, blank, some_long, overfull_of, newest_of, place_of, Out, keeps, copied}

-- ---- editions

-- the editions ascend, from above n
pub data Ascends : ℕ → List (List ℕ) → Type 0 where
  none : {n : ℕ} → Ascends n []
  more : {n : ℕ} {s : List ℕ} {ts : List (List ℕ)} → n < edition_of s → Ascends (edition_of s) ts → Ascends n (s ∷ ts)

-- the last edition, n where there is none
unfoldable pub newest_from : ℕ → List (List ℕ) → ℕ
newest_from n [] = n
newest_from n (s ∷ ts) = newest_from (edition_of s) ts

pub ascends_more : (n : ℕ) (ts : List (List ℕ)) (s : List ℕ) → Ascends n ts → newest_from n ts < edition_of s → Ascends n (ts ++ s ∷ [])
unfolding newest_from
ascends_more n [] s a h = more h none
ascends_more n (t ∷ ts) s (more l a) h = more l (ascends_more (edition_of t) ts s a h)

-- what follows is newer
newer : (n : ℕ) (before bs : List (List ℕ)) (s : List ℕ) → Ascends n (before ++ s ∷ bs) → n < edition_of s
newer n [] bs s (more l a) = l
newer n (t ∷ before) bs s (more l a) = omega (arith, newer (edition_of t) before bs s a)

ascends_less : (n m : ℕ) (ts : List (List ℕ)) → m ≤ n → Ascends n ts → Ascends m ts
ascends_less n m [] h a = none
ascends_less n m (t ∷ ts) h (more l a) = more {n = m} {s = t} (omega arith) a

-- without the oldest
pub ascends_drop : (n : ℕ) (ts : List (List ℕ)) → Ascends n ts → Ascends n (drop 1 ts)
ascends_drop n [] a = none
ascends_drop n (t ∷ ts) (more l a) = ascends_less (edition_of t) n ts (omega arith) a

pub newest_drop : (ts : List (List ℕ)) → newest_from 0 (drop 1 ts) ≤ newest_from 0 ts
unfolding newest_from
newest_drop [] = omega arith
newest_drop (t ∷ []) = omega arith
newest_drop (t ∷ u ∷ ts) = omega arith

-- none is newer than the last
pub newest_highest : (n : ℕ) (before bs : List (List ℕ)) (s : List ℕ) → Ascends n (before ++ s ∷ bs) → edition_of s ≤ newest_from n (before ++ s ∷ bs)
unfolding newest_from
newest_highest n [] bs s (more l a) = up (edition_of s) bs a
  where
    up : (m : ℕ) (ts : List (List ℕ)) → Ascends m ts → m ≤ newest_from m ts
    up m [] a = omega arith
    up m (t ∷ ts) (more l a) = omega (arith, up (edition_of t) ts a)
newest_highest n (t ∷ before) bs s (more l a) = newest_highest (edition_of t) before bs s a

-- ---- kept sheets

pub record KeptAs (t : Kept) (s : List ℕ) : Type 0 where
  pub long : t.len ≡ length s
  pub text : text_in t ≡ s
  pub short : length s ≤ 1024

pub data Keeps : List Kept → List (List ℕ) → Type 0 where
  none_kept : Keeps [] []
  more_kept : {t : Kept} {s : List ℕ} {ks : List Kept} {ts : List (List ℕ)} → KeptAs t s → Keeps ks ts → Keeps (t ∷ ks) (s ∷ ts)

kept_as_lem : (s : List ℕ) → length s ≤ 1024 → KeptAs (kept_of s) s
unfolding kept_of
kept_as_lem s h = record { long = refl; text = take-append_seam s (drop (length s) (replicate 1024 0)); short = h }

kept_edition : (t : Kept) (s : List ℕ) → KeptAs t s → edition_in t ≡ edition_of s
unfolding edition_in
kept_edition t s k = rw (le-ltb 1024 t.len (omega (arith, k.long, k.short))) (ap edition_of k.text)

keeps_more : {ks : List Kept} {ts : List (List ℕ)} {t : Kept} {s : List ℕ} → Keeps ks ts → KeptAs t s → Keeps (ks ++ t ∷ []) (ts ++ s ∷ [])
keeps_more none_kept k = more_kept k none_kept
keeps_more (more_kept j r) k = more_kept j (keeps_more r k)

keeps_drop : (ks : List Kept) (ts : List (List ℕ)) → Keeps ks ts → Keeps (drop 1 ks) (drop 1 ts)
keeps_drop [] [] none_kept = none_kept
keeps_drop (k ∷ ks) (s ∷ ts) (more_kept j r) = r
keeps_drop [] (s ∷ ts) x = elim x [ ]
keeps_drop (k ∷ ks) [] x = elim x [ ]

keeps_length : {ks : List Kept} {ts : List (List ℕ)} → Keeps ks ts → length ks ≡ length ts
keeps_length none_kept = refl
keeps_length (more_kept j r) = ap suc (keeps_length r)

-- the last one's edition
newest_kept : (n : ℕ) (k : Kept) (ks : List Kept) (ts : List (List ℕ)) → Keeps (k ∷ ks) ts → edition_in (get_or (k ∷ ks) (length ks) blank) ≡ newest_from n ts
unfolding newest_from
newest_kept n k [] (s ∷ []) (more_kept j none_kept) = kept_edition k s j
newest_kept n k [] (s ∷ t ∷ ts) (more_kept j r) = absurd (omega (arith, keeps_length r))
newest_kept n k (l ∷ ks) (s ∷ ts) (more_kept j r) = newest_kept (edition_of s) l ks ts r
newest_kept n k [] [] x = elim x [ ]
newest_kept n k (l ∷ ks) [] x = elim x [ ]

-- where an edition is
place_kept :
    (n : ℕ) (ks : List Kept) (before bs : List (List ℕ)) (s : List ℕ) → Keeps ks (before ++ s ∷ bs) → Ascends n (before ++ s ∷ bs)
    → (place_of (edition_of s) ks ≡ length before) × KeptAs (get_or ks (length before) blank) s
unfolding place_of
place_kept n [] before bs s r a = absurd (omega (arith, keeps_length r, length-append before (s ∷ bs)))
place_kept n (k ∷ ks) [] bs s (more_kept j r) a = (rw (eq-eqb (edition_in k) (edition_of s) (kept_edition k s j)), j)
place_kept n (k ∷ ks) (t ∷ before) bs s (more_kept j r) (more l a) =
    let less = newer (edition_of t) before bs s a in
    let i = place_kept (edition_of t) ks before bs s r a in
    (rw (ne_eqb (edition_in k) (edition_of s) (λ e. omega (arith, kept_edition k t j))) (ap suc i.0), i.1)

-- where it is not
pub data Lacks (e : ℕ) : List (List ℕ) → Type 0 where
  none_lacks : Lacks e []
  more_lacks : {s : List ℕ} {ts : List (List ℕ)} → (edition_of s ≡ e → ⊥) → Lacks e ts → Lacks e (s ∷ ts)

place_lacks : (e : ℕ) (ks : List Kept) (ts : List (List ℕ)) → Keeps ks ts → Lacks e ts → place_of e ks ≡ length ts
unfolding place_of
place_lacks e [] [] none_kept l = refl
place_lacks e (k ∷ ks) (s ∷ ts) (more_kept j r) (more_lacks h l) = rw (ne_eqb (edition_in k) e (λ f. h (sym (kept_edition k s j) ∙ f))) (ap suc (place_lacks e ks ts r l))
place_lacks e [] (s ∷ ts) x l = elim x [ ]
place_lacks e (k ∷ ks) [] x l = elim x [ ]

-- ---- a store

-- the store holds the texts
pub record Shelf (st : Store) (ts : List (List ℕ)) : Type 0 where
  pub places : length st.sheets ≡ 8
  pub count : st.count ≡ length ts
  pub few : length ts ≤ 8
  pub kept : Keeps (take st.count st.sheets) ts
  pub ascends : Ascends 0 ts

abbrev pub empty_store : Store
empty_store = store_as 0 (replicate 8 (kept_as 0 (replicate 1024 0)))

pub shelf_empty : Shelf empty_store []
shelf_empty = record { places = refl; count = refl; few = omega arith; kept = none_kept; ascends = none }

-- it does not count too many
keeps_short : {ks : List Kept} {ts : List (List ℕ)} → Keeps ks ts → some_long ks ≡ false
unfolding some_long
keeps_short none_kept = refl
keeps_short (more_kept {t} j r) = rw (le-ltb 1024 t.len (omega (arith, j.long, j.short))) (keeps_short r)

pub shelf_fits : (st : Store) (ts : List (List ℕ)) → Shelf st ts → overfull_of st ≡ false
unfolding overfull_of
shelf_fits st ts h = rw (le-ltb 8 st.count (omega (arith, h.count, h.few))) (keeps_short h.kept)

-- a sheet more, where there is room
push_kept : (st : Store) (t : Kept) → st.count < length st.sheets → take (st.count + 1) (set st.sheets st.count t) ≡ take st.count st.sheets ++ t ∷ []
push_kept st t h = rw (add-one st.count) (take-suc-set st.sheets st.count t h)

pub shelf_push :
    (st : Store) (ts : List (List ℕ)) (s : List ℕ) → Shelf st ts → st.count < 8 → length s ≤ 1024 → newest_from 0 ts < edition_of s → Shelf (pushed st (kept_of s)) (ts ++ s ∷ [])
unfolding pushed
shelf_push st ts s h room short above =
    record {
      places = length-set st.sheets st.count (kept_of s) ∙ h.places;
      count = omega (arith, h.count, length-append ts (s ∷ []));
      few = omega (arith, h.count, length-append ts (s ∷ []));
      kept = rw (push_kept st (kept_of s) (omega (arith, h.places))) (keeps_more h.kept (kept_as_lem s short));
      ascends = ascends_more 0 ts s h.ascends above;
    }

-- a full store without the oldest
slid_kept : (ks : List Kept) → length ks ≡ 8 → take 7 (slid 7 ks) ≡ drop 1 ks
slid_kept ks h =
    let n : length (take 7 (drop 1 ks)) ≡ 7 = length-take-le 7 (drop 1 ks) (omega (arith, length-drop 1 ks)) in
    take_at (take 7 (drop 1 ks)) (drop 7 ks) 7 n ∙ take_all 7 (drop 1 ks) (omega (arith, length-drop 1 ks))

pub shelf_drop : (st : Store) (ts : List (List ℕ)) → Shelf st ts → st.count ≡ 8 → Shelf (dropped st) (drop 1 ts)
unfolding dropped
shelf_drop st ts h full =
    let all : take st.count st.sheets ≡ st.sheets = take_all st.count st.sheets (omega (arith, h.places)) in
    record {
      places = omega (arith, h.places, length-append (take 7 (drop 1 st.sheets)) (drop 7 st.sheets), length-take-le 7 (drop 1 st.sheets) (omega (arith, h.places, length-drop 1 st.sheets)), length-drop 7 st.sheets);
      count = omega (arith, h.count, length-drop 1 ts);
      few = omega (arith, h.few, length-drop 1 ts);
      kept = rw (slid_kept st.sheets h.places) (keeps_drop st.sheets ts (rw all at h.kept));
      ascends = ascends_drop 0 ts h.ascends;
    }

-- the newest of a store is the last edition
pub shelf_newest : (st : Store) (ts : List (List ℕ)) → Shelf st ts → newest_of st ≡ newest_from 0 ts
unfolding newest_of newest_from
shelf_newest st [] h = rw (eq-eqb st.count 0 h.count)
shelf_newest st (t ∷ ts) h = by_kept (take st.count st.sheets) refl h.kept
  where
    by_kept :
        (ks : List Kept) → take st.count st.sheets ≡ ks → Keeps ks (t ∷ ts)
        → cond (eqb st.count 0) 0 (edition_in (get_or st.sheets (st.count - 1) blank)) ≡ newest_from (edition_of t) ts
    by_kept (k ∷ ks) e (more_kept j r) =
        let n = keeps_length r in
        let i : st.count - 1 ≡ length ks = omega (arith, h.count) in
        let last : get_or st.sheets (st.count - 1) blank ≡ get_or (k ∷ ks) (length ks) blank =
        sym (get_or-take st.count st.sheets (st.count - 1) blank (omega (arith, h.count))) ∙ ap₂ (λ x y. get_or x y blank) e i in
        rw (ne_eqb st.count 0 (λ z. omega (arith, h.count)), last) (newest_kept 0 k ks (t ∷ ts) (more_kept j r))
    by_kept [] e r = absurd (omega (arith, keeps_length r))

-- ---- copying out

-- a sheet that is held is put at the buffer's start, byte for byte; the buffer's other bytes stay, and one that is too short stays as it is
abbrev pub copy_of : List ℕ → List ℕ → Out
copy_of s buf = cond (ltb (length buf) (length s)) (keeps Room buf) (record { answer = Ok (record { bytes = length s }); buffer = over s buf })

pub shelf_copies :
    (st : Store) (before bs : List (List ℕ)) (s : List ℕ) (buf : List ℕ) → Shelf st (before ++ s ∷ bs) → copied st (edition_of s) buf ≡ copy_of s buf
unfolding copied
shelf_copies st before bs s buf h =
    let n = h.count in
    let m = length-append before (s ∷ bs) in
    let p = place_kept 0 (take st.count st.sheets) before bs s h.kept h.ascends in
    let above = newer 0 before bs s h.ascends in
    let k = rw (get_or-take st.count st.sheets (length before) blank (omega arith)) at p.1 in
    rw (shelf_fits st (before ++ s ∷ bs) h, ne_eqb (edition_of s) 0 (λ z. omega arith), p.0, lt-ltb (length before) st.count (omega arith), k.text, k.long) refl

-- an edition that is not held is refused by 20
pub shelf_lacks : (st : Store) (ts : List (List ℕ)) (e : ℕ) (buf : List ℕ) → Shelf st ts → (e ≡ 0) ⊎ Lacks e ts → copied st e buf ≡ keeps NotHeld buf
unfolding copied
shelf_lacks st ts e buf h (inl z) = rw (shelf_fits st ts h, eq-eqb e 0 z) refl
shelf_lacks st ts e buf h (inr l) =
    rw (shelf_fits st ts h, place_lacks e (take st.count st.sheets) ts h.kept l, le-ltb (length ts) st.count (omega (arith, h.count)))
    (either (eqb e 0))
  where
    either : (t : Bool) → cond t (keeps NotHeld buf) (keeps NotHeld buf) ≡ keeps NotHeld buf
    either true = refl
    either false = refl

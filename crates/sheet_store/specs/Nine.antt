-- WHAT WAS ADDED COMES OUT UNTIL IT IS THE OLDEST OF NINE: byte for byte as long as fewer than eight sheets were taken behind it (`comes_out`), and no more from the eighth on (`goes_out`), both in proofs/Nine.
use Rattle.std.specs.Prelude.{ℕ, suc, ◌+◌, ◌-◌, ◌≤◌, ◌<◌, ◌≡◌, Bool, true, false, cond, eqb, length, drop}
use Rattle.std.proofs.Math.Path.{refl, sym}
use Rattle.std.proofs.Common.{ap, ◌∙◌, arith, length-append, length-drop, eqb-true, ltb-true}
use mathlib.Core.List.{List, [], ◌∷◌, ◌++◌, append_assoc}
use Rattle.std.proofs.lemmas.Bool.{eqb-false}
use Rattle.sheet_store.specs.declared.Store.{Store}
use Rattle.sheet_store.specs.Store.{edition_of}
use Rattle.sheet_store.specs.Shelf.{Ascends, more, newest_from, ascends_more, ascends_drop, Shelf, Lacks, none_lacks, more_lacks}
use Rattle.sheet_store.specs.Promises.{shelved, takes, shelved_if, shelving}

-- how many of the texts are taken that are handed in one after the other
unfoldable pub taken_of : List (List ℕ) → List (List ℕ) → ℕ
taken_of ts [] = 0
taken_of ts (s ∷ ss) = cond (takes ts s) 1 0 + taken_of (shelved_if ts s) ss

-- where a text stands on a shelf
pub record Among (s : List ℕ) (ts : List (List ℕ)) : Type 0 where
  pub before : List (List ℕ)
  pub behind : List (List ℕ)
  pub split : ts ≡ before ++ s ∷ behind

-- ---- it stays

one_more : (before behind : List (List ℕ)) (s t : List ℕ) → (before ++ s ∷ behind) ++ t ∷ [] ≡ before ++ s ∷ (behind ++ t ∷ [])
one_more before behind s t = append_assoc before (s ∷ behind) (t ∷ [])

abbrev pub Stays : List (List ℕ) → List (List ℕ) → Type 0
Stays ss ts = (before behind : List (List ℕ)) (s : List ℕ) → ts ≡ before ++ s ∷ behind → length behind + taken_of ts ss < 8 → Among s (shelving ts ss)

pub stays : (ss ts : List (List ℕ)) → Stays ss ts
unfolding taken_of shelving shelved_if shelved
stays [] ts before behind s e h = record { before = before; behind = behind; split = e }
stays (t ∷ ss) ts before behind s e h = by_test (takes ts t) h (stays ss)
  where
    m : length ts ≡ length before + suc (length behind)
    m = ap length e ∙ length-append before (s ∷ behind)

    n : length (behind ++ t ∷ []) ≡ length behind + 1
    n = length-append behind (t ∷ [])

    -- of eight the oldest goes, which is another: fewer than eight stand behind
    full : (b : Bool) → eqb (length ts) 8 ≡ b → (us : List (List ℕ)) → us ≡ cond b (drop 1 ts) ts ++ t ∷ [] → length behind + (1 + taken_of us ss) < 8 → Stays ss us → Among s (shelving us ss)
    full true f us is l on = by_front before e m
      where
        by_front : (before : List (List ℕ)) → ts ≡ before ++ s ∷ behind → length ts ≡ length before + suc (length behind) → Among s (shelving us ss)
        by_front [] e m = absurd (omega (arith, eqb-true (length ts) 8 f))
        by_front (u ∷ front) e m = on front (behind ++ t ∷ []) s (is ∙ ap (λ x. drop 1 x ++ t ∷ []) e ∙ one_more front behind s t) (omega (arith, n))
    full false f us is l on = on before (behind ++ t ∷ []) s (is ∙ ap (λ x. x ++ t ∷ []) e ∙ one_more before behind s t) (omega (arith, n))

    by_test : (b : Bool) → length behind + (cond b 1 0 + taken_of (cond b (cond (eqb (length ts) 8) (drop 1 ts) ts ++ t ∷ []) ts) ss) < 8
        → ((us : List (List ℕ)) → Stays ss us) → Among s (shelving (cond b (cond (eqb (length ts) 8) (drop 1 ts) ts ++ t ∷ []) ts) ss)
    by_test true l on = full (eqb (length ts) 8) refl _ refl l (on _)
    by_test false l on = on ts before behind s e (omega arith)

-- ---- it goes

pub newest_last : (n : ℕ) (ts : List (List ℕ)) (t : List ℕ) → newest_from n (ts ++ t ∷ []) ≡ edition_of t
unfolding newest_from
newest_last n [] t = refl
newest_last n (u ∷ ts) t = newest_last (edition_of u) ts t

ascends_lacks : (e n : ℕ) (ts : List (List ℕ)) → e ≤ n → Ascends n ts → Lacks e ts
ascends_lacks e n [] h a = none_lacks
ascends_lacks e n (t ∷ ts) h (more l a) = more_lacks {s = t} (other (edition_of t) l) (ascends_lacks e (edition_of t) ts (omega arith) a)
  where
    other : (k : ℕ) → n < k → k ≡ e → ⊥
    other k l z = omega arith

drop_newest : (e : ℕ) (ts : List (List ℕ)) → Ascends e ts → newest_from e (drop 1 ts) ≤ newest_from e ts
unfolding newest_from
drop_newest e [] a = omega arith
drop_newest e (t ∷ []) (more l a) = omega arith
drop_newest e (t ∷ u ∷ ts) a = omega arith

-- a shelf whose last texts, `behind`, are newer than e, and of which the newest is the shelf's
pub record Newer (e : ℕ) (ts before behind : List (List ℕ)) : Type 0 where
  pub split : ts ≡ before ++ behind
  pub few : length ts ≤ 8
  pub newer : Ascends e behind
  pub newest : newest_from e behind ≡ newest_from 0 ts

-- when m more are taken, eight stand there
abbrev pub Goes : ℕ → List (List ℕ) → List (List ℕ) → Type 0
Goes e ss ts = (before behind : List (List ℕ)) (m : ℕ) → Newer e ts before behind → 8 ≤ m + length behind → m ≤ taken_of ts ss → Lacks e (shelving ts ss)

pub goes : (e : ℕ) (ss ts : List (List ℕ)) → Goes e ss ts
unfolding taken_of shelving shelved_if shelved
goes e [] ts before behind m w h l = by_front before w.split (ap length w.split ∙ length-append before behind)
  where
    by_front : (before : List (List ℕ)) → ts ≡ before ++ behind → length ts ≡ length before + length behind → Lacks e ts
    by_front [] is n = rw is (ascends_lacks e e behind (omega arith) w.newer)
    by_front (u ∷ front) is n = absurd (omega (arith, w.few))
goes e (t ∷ ss) ts before behind m w h l = by_test (takes ts t) (ltb-true (newest_from 0 ts) (edition_of t)) l (goes e ss)
  where
    n : length ts ≡ length before + length behind
    n = ap length w.split ∙ length-append before behind

    k : length (behind ++ t ∷ []) ≡ length behind + 1
    k = length-append behind (t ∷ [])

    above : newest_from 0 ts < edition_of t → Ascends e (behind ++ t ∷ [])
    above h = ascends_more e behind t w.newer (omega (arith, w.newest))

    full : (b : Bool) → eqb (length ts) 8 ≡ b → newest_from 0 ts < edition_of t → (us : List (List ℕ)) → us ≡ cond b (drop 1 ts) ts ++ t ∷ [] → m ≤ 1 + taken_of us ss → Goes e ss us → Lacks e (shelving us ss)
    full true f a us is l on = by_front before w.split n
      where
        eight : length us ≡ 8
        eight = let c = ap length is ∙ length-append (drop 1 ts) (t ∷ []) in omega (arith, length-drop 1 ts, eqb-true (length ts) 8 f)

        by_front : (before : List (List ℕ)) → ts ≡ before ++ behind → length ts ≡ length before + length behind → Lacks e (shelving us ss)
        by_front (u ∷ front) s n =
            on front (behind ++ t ∷ []) (m - 1)
            (record {
              split = is ∙ ap (λ x. drop 1 x ++ t ∷ []) s ∙ append_assoc front behind (t ∷ []);
              few = omega (arith, eight);
              newer = above a;
              newest = newest_last e behind t ∙ sym (ap (newest_from 0) is ∙ newest_last 0 (drop 1 ts) t);
            }) (omega (arith, k, eqb-true (length ts) 8 f)) (omega arith)
        -- eight that are newer: the oldest of them goes
        by_front [] s n =
            let up = rw (← s) at w.newer in
            let top : newest_from e ts ≡ newest_from 0 ts = ap (newest_from e) s ∙ w.newest in
            on [] us (m - 1)
            (record {
              split = refl;
              few = omega (arith, eight);
              newer = rw is (ascends_more e (drop 1 ts) t (ascends_drop e ts up) (omega (arith, drop_newest e ts up)));
              newest = ap (newest_from e) is ∙ newest_last e (drop 1 ts) t ∙ sym (ap (newest_from 0) is ∙ newest_last 0 (drop 1 ts) t);
            }) (omega (arith, eight, eqb-true (length ts) 8 f)) (omega arith)
    full false f a us is l on =
        on before (behind ++ t ∷ []) (m - 1)
        (record {
          split = is ∙ ap (λ x. x ++ t ∷ []) w.split ∙ append_assoc before behind (t ∷ []);
          few = let c = ap length is ∙ length-append ts (t ∷ []) in omega (arith, w.few, eqb-false (length ts) 8 f);
          newer = above a;
          newest = newest_last e behind t ∙ sym (ap (newest_from 0) is ∙ newest_last 0 ts t);
        }) (omega (arith, k, n, eqb-false (length ts) 8 f, w.few)) (omega arith)

    by_test : (b : Bool) → (b ≡ true → newest_from 0 ts < edition_of t) → m ≤ cond b 1 0 + taken_of (cond b (cond (eqb (length ts) 8) (drop 1 ts) ts ++ t ∷ []) ts) ss
        → ((us : List (List ℕ)) → Goes e ss us) → Lacks e (shelving (cond b (cond (eqb (length ts) 8) (drop 1 ts) ts ++ t ∷ []) ts) ss)
    by_test true a l on = full (eqb (length ts) 8) refl (a refl) _ refl l (on _)
    by_test false a l on = on ts before behind m w h (omega arith)

-- ---- the promises

module _ (st : Store) (ts : List (List ℕ)) (h : Shelf st ts) (s : List ℕ) (took : takes ts s ≡ true) where
  -- where it stands once it is taken: last
  abbrev pub kept : List (List ℕ)
  kept = cond (eqb (length ts) 8) (drop 1 ts) ts

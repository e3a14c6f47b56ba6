-- One more event: a run goes on from a pair where it can now be, to a live pair whose label agrees. At a restart the rule is judged there.
use Rattle.std.specs.Prelude.{ℕ, suc, ◌≤◌, ◌<◌, ◌≡◌, ◌↔◌, Bool, true, false, length}
use Rattle.std.proofs.Common.{arith, add-zero, sym, subst, ap, ◌∙◌, ⊎_elim, length-append}
use Rattle.std.proofs.Math.Nat.{suc_inj}
use Rattle.std.proofs.Math.Bool.{So}
use Rattle.meaning.specs.Bit.{bit}
use Rattle.meaning.specs.Says.{Kept}
use Rattle.meaning.specs.Formula.{Formula, Holds}
use Rattle.meaning.specs.Run.{Plant, Lasso, FairLasso, state_at, label_of, labels_along, next_of}
use Rattle.meaning.specs.Event.{Seen, Agrees, History, more, again, now}
use Rattle.meaning.specs.Pair.{PairAt, Live}
use Rattle.meaning.specs.Step.{HasValue, Led}
use Rattle.meaning.specs.Verdict.{Chosen, At}
use Rattle.theory.specs.Values.{values_at, pair_of}
use Rattle.theory.specs.Join.{join, join_first, join_then, join_fair}
use Rattle.theory.specs.From.{from, from_state, from_fair}
use Rattle.theory.specs.Along.{pair_says, pair_leads, pair_back, pair_tail}
use Rattle.theory.specs.Opening.{agrees_more, chosen_same}
use Rattle.theory.specs.Verdict.{judged}
use Rattle.words.specs.Truth.{and_says, kept_value, kept_or}

-- what is left of a fair walk makes its pairs live
pub pair_live : (T : Plant) (f : Formula) (L : Lasso) (i s v : ℕ) → FairLasso T L → PairAt T f L i s v → Live T f s v
pair_live T f L i s v walk p = record {
  lasso = from L i;
  walk = from_fair L i T walk;
  pair = (pair_tail T f L (from L i) i (λ j. sym (from_state L i T walk j)) 0 s v).0 (rw add-zero p);
}

-- the first pair of L', where L' comes after n states
pub joined_pair : (T : Plant) (f : Formula) (L : Lasso) (n : ℕ) (L' : Lasso) (s v : ℕ) → PairAt T f L' 0 s v → PairAt T f (join L n L') n s v
joined_pair T f L n L' s v p = rw (add-zero n) at ((pair_tail T f (join L n L') L' n (join_then L n L') 0 s v).1 p)

-- an old pair of side b leads to the new one
abbrev pub Came : Plant → Formula → Bool → History → ℕ → ℕ → Type 0
Came T f b h = Led T f (At T f b h)

module _ (T : Plant) (f : Formula) (b : Bool) (h : History) where
  -- a run goes on from an old pair to a live one that it leads to
  pub goes_on : h.mark ≤ now h → (s' v' : ℕ) → Live T f s' v' → Came T f b h s' v'
      → (J : Lasso) × Chosen T f b h J × PairAt T f J (suc (now h)) s' v'
  goes_on marked s' v' live (s, v, (a, t)) =
      let n = now h in
      let L = a.lasso in
      let L' = live.lasso in
      let J = join L (suc n) L' in
      let ts = (and_says _ _).0 t in
      let move : So (bit (next_of T (state_at L n)) (state_at L' 0)) = rw (a.pair.state, live.pair.state) ts.0 in
      let walk : FairLasso T J = join_fair L (suc n) L' T a.chosen.run.walk live.walk
      (λ m e. subst (λ (k : ℕ). So (bit (next_of T (state_at L k)) (state_at L' 0))) (sym (suc_inj e)) move) in
      let same : (i : ℕ) → i ≤ n → state_at J i ≡ state_at L i = λ i le. join_first L (suc n) L' i (omega arith) in
      let p' = joined_pair T f L (suc n) L' s' v' live.pair in
      let p = pair_back T f p' (same n (omega arith) ∙ a.pair.state) a.pair.small ts.1 in
      (J, chosen_same T f b h L J s v marked a.chosen walk same a.pair p, p')

  -- where a run is one position later, it came from an old pair
  pub came_from : (L : Lasso) (s' v' : ℕ) → Chosen T f b h L → PairAt T f L (suc (now h)) s' v' → Live T f s' v' × Came T f b h s' v'
  came_from L s' v' c p' =
      let walk = c.run.walk in
      let p = pair_of T f L walk (now h) in (
        pair_live T f L (suc (now h)) s' v' walk p',
        (state_at L (now h), values_at T f L (now h), (record { lasso = L; chosen = c; pair = p }, pair_leads T f walk p p')),
      )

module _ (h : History) (e : Seen) (marked : h.mark < length h.events) where
  -- one more event is one position later
  pub now_more : now (more h e) ≡ suc (now h)
  now_more = rw length-append (omega arith)

  -- which is where the last one was, and one more
  pub now_last : length h.events ≡ suc (now h)
  now_last = omega arith

module _ (T : Plant) (f : Formula) (b : Bool) (h : History) (e : Seen) (marked : h.mark < length h.events) where
  -- one more event: from the old pairs to the live ones that they lead to, where the label agrees
  pub at_step : (s' v' : ℕ) → At T f b (more h e) s' v' ↔ (Live T f s' v' × Agrees e (label_of T s') × Came T f b h s' v')
  at_step s' v' = (came, goes)
    where
      came : At T f b (more h e) s' v' → Live T f s' v' × Agrees e (label_of T s') × Came T f b h s' v'
      came a =
          let c = a.chosen in
          let p' : PairAt T f a.lasso (suc (now h)) s' v' = rw (now_more h e marked) at a.pair in
          let ag = (agrees_more T a.lasso h.events e).0 c.agrees in
          let k = came_from T f b h a.lasso s' v' (record { run = c.run; agrees = ag.0; judged = c.judged }) p' in
          (k.0, rw (ap (state_at a.lasso) (now_last h e marked) ∙ p'.state) at ag.1, k.1)

      goes : (Live T f s' v' × Agrees e (label_of T s') × Came T f b h s' v') → At T f b (more h e) s' v'
      goes (live, ag, k) =
          let (J, c, p') = goes_on T f b h (omega arith) s' v' live k in
          record {
            lasso = J;
            chosen = record {
              run = c.run;
              agrees = (agrees_more T J h.events e).1 (c.agrees, rw (ap (state_at J) (now_last h e marked) ∙ p'.state) ag);
              judged = c.judged;
            };
            pair = rw (now_more h e marked) p';
          }

module _ (T : Plant) (f : Formula) (b : Bool) (h : History) (e : Seen) where
  -- a restart has the position of its event
  again_now : length h.events ≡ now (again h e)
  again_now = rw length-append (omega arith)

  -- a restart: where a run of either kind can be after the event, and the rule's value there is that of the side
  pub at_again : (s v : ℕ) → At T f b (again h e) s v ↔ (HasValue T f b s v × ((c : Bool) × At T f c (more h e) s v))
  at_again s v = (back, anew)
    where
      -- the same run, judged at the old mark
      back : At T f b (again h e) s v → HasValue T f b s v × ((c : Bool) × At T f c (more h e) s v)
      back a =
          let k = a.chosen in
          let old : (c : Bool) → Kept c (Holds (labels_along T a.lasso) f h.mark) → (c : Bool) × At T f c (more h e) s v = λ c j.
          (c, record { lasso = a.lasso; chosen = record { run = k.run; agrees = k.agrees; judged = j }; pair = a.pair }) in (
            (kept_value b (pair_says T f a.pair)).0 (rw again_now at k.judged),
            ⊎_elim (old true) (old false) (kept_or true (judged T f h a.lasso k.run)),
          )

      -- and at the new one
      anew : HasValue T f b s v × ((c : Bool) × At T f c (more h e) s v) → At T f b (again h e) s v
      anew (value, (_, a)) = record {
        lasso = a.lasso;
        chosen = record { run = a.chosen.run; agrees = a.chosen.agrees; judged = rw again_now ((kept_value b (pair_says T f a.pair)).1 value) };
        pair = a.pair;
      }

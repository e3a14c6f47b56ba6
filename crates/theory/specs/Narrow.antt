-- Where fewer runs agree, the verdict only narrows: one more event, a better sensor, a smaller table.
use Rattle.std.specs.Prelude.{ℕ, zero, suc, ◌≤◌, ◌<◌, ◌≡◌, refl, ◌⊎◌, Bool, true, false, cond, length}
use Rattle.std.proofs.Common.{arith, sym, ◌∙◌, inl, inr}
use Rattle.std.proofs.Math.Bool.{So}
use Rattle.std.proofs.lemmas.Bool.{false≢true}
use mathlib.Core.List.{List, Forall₂}
use Rattle.words.specs.Truth.{not_so}
use Rattle.meaning.specs.Bit.{bit}
use Rattle.meaning.specs.Formula.{Formula}
use Rattle.meaning.specs.Run.{Plant, Lasso, FairLasso, state_at, label_of, next_of}
use Rattle.meaning.specs.Event.{Seen, Agrees, seen_at, Event, History, more, again, grow}
use Rattle.meaning.specs.Verdict.{verdict_of, Agreeing, Possible}
use Rattle.theory.specs.Opening.{agrees_more}
use Rattle.theory.specs.Verdict.{verdict_inj}

-- true and false change only to out-of-model, which stays
pub record Narrower (n n' : ℕ) : Type 0 where
  pub from_true : n ≡ 1 → (n' ≡ 1) ⊎ (n' ≡ 3)
  pub from_false : n ≡ 2 → (n' ≡ 2) ⊎ (n' ≡ 3)
  pub from_out : n ≡ 3 → n' ≡ 3

-- runs of each kind are possible then only where they are now
pub verdict_narrows : {a b a' b' : Bool} → (So a' → So a) → (So b' → So b) → Narrower (verdict_of a b) (verdict_of a' b')
unfolding verdict_of
verdict_narrows {a} {b} {a'} {b'} h k = record {
  from_true = λ e. let (_, n) = (verdict_inj a b true false).0 e in rw (lost b b' k n) (pick a' (λ c. verdict_of c false) refl refl);
  from_false = λ e. let (n, _) = (verdict_inj a b false true).0 e in rw (lost a a' h n) (pick b' (λ c. verdict_of false c) refl refl);
  from_out = λ e. let (m, n) = (verdict_inj a b false false).0 e in rw (lost a a' h m, lost b b' k n);
}
  where
    lost : (x x' : Bool) → (So x' → So x) → x ≡ false → x' ≡ false
    lost x x' h e = not_so x' (λ i. false≢true (sym e ∙ h i))

    pick : {m n : ℕ} (c : Bool) (v : Bool → ℕ) → v true ≡ m → v false ≡ n → (v c ≡ m) ⊎ (v c ≡ n)
    pick true v p q = inl p
    pick false v p q = inr q

-- the second event sees no less than the first, and nothing otherwise
abbrev pub Finer : Seen → Seen → Type 0
Finer e e' = (p : ℕ) → So (bit e.see p) → So (bit e'.see p) × (bit e.val p ≡ bit e'.val p)

finer_agrees : (e e' : Seen) (l : ℕ) → Finer e e' → Agrees e' l → Agrees e l
finer_agrees e e' l k ag p s = (k p s).1 ∙ ag p (k p s).0

finer_at : {es es' : List Seen} → Forall₂ Finer es es' → (i : ℕ) → i < length es → (i < length es') × Finer (seen_at es i) (seen_at es' i)
finer_at Forall₂.nil i lt = absurd (omega arith)
finer_at (Forall₂.cons k t) zero lt = (omega arith, k)
finer_at (Forall₂.cons k t) (suc i) lt = let r = finer_at t i (omega arith) in (omega arith, r.1)

-- the second history has finer events and judges from the same position
abbrev pub FinerHistory : History → History → Type 0
FinerHistory h h' = Forall₂ Finer h.events h'.events × (h.mark ≡ h'.mark)

-- with a better sensor fewer runs agree
pub finer_fewer : (T : Plant) (f : Formula) (h h' : History) → FinerHistory h h' → (b : Bool) → Possible T f h' b → Possible T f h b
finer_fewer T f h h' (fine, same) b (L, c) = (
  L,
  record {
    run = c.run;
    agrees = λ i lt. let k = finer_at fine i lt in
        finer_agrees (seen_at h.events i) (seen_at h'.events i) (label_of T (state_at L i)) k.1 (c.agrees i k.0);
    judged = rw same c.judged;
  },
)

-- and after one more event
pub more_fewer : (T : Plant) (f : Formula) (h : History) (e : Seen) (b : Bool) → Possible T f (more h e) b → Possible T f h b
more_fewer T f h e b (L, c) = (L, record { run = c.run; agrees = ((agrees_more T L h.events e).0 c.agrees).0; judged = c.judged })

-- no event, a restart or not, brings back a run that did not agree
pub grow_agrees : (T : Plant) (h : History) (e : Event) (L : Lasso) → Agreeing T (grow h e) L → Agreeing T h L
unfolding grow
grow_agrees T h e L = go e.new
  where
    go : (new : Bool) → Agreeing T (cond new (again h e.seen) (more h e.seen)) L → Agreeing T h L
    go true (run, ag) = (run, ((agrees_more T L h.events e.seen).0 ag).0)
    go false (run, ag) = (run, ((agrees_more T L h.events e.seen).0 ag).0)

-- a table with fewer starting states and fewer moves
pub record Smaller (T' T : Plant) : Type 0 where
  pub states : T'.states ≤ T.states
  pub start : (s : ℕ) → So (bit T'.start s) → So (bit T.start s)
  pub next : (s s' : ℕ) → So (bit (next_of T' s) s') → So (bit (next_of T s) s')
  pub label : T'.label ≡ T.label
  pub fair : T'.fair ≡ T.fair

-- and on a smaller table
pub smaller_fewer : (T' T : Plant) (f : Formula) (h : History) → Smaller T' T → (b : Bool) → Possible T' f h b → Possible T f h b
smaller_fewer T' T f h k b (L, c) = (
  L,
  record {
    run = record {
      walk = record {
        loops = w.loops;
        within = λ i. let l = w.within i in let u = k.states in omega arith;
        moves = λ i. k.next (state_at L i) (state_at L (suc i)) (w.moves i);
        fair = rw k.fair at w.fair;
      };
      starts = k.start (state_at L 0) c.run.starts;
    };
    agrees = rw k.label at c.agrees;
    judged = rw k.label at c.judged;
  },
)
  where
    w : FairLasso T' L
    w = c.run.walk

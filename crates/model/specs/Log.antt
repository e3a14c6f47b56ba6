-- Whole logs: the model's monitor after any list of events, and when one log is finer than another. What the monitor then means is in proofs/Log.
use Rattle.std.specs.Prelude.{suc, ◌≡◌, refl, Bool, true, false, cond, length}
use Rattle.std.proofs.Common.{ap}
use mathlib.Core.List.{List, [], ◌∷◌, ◌++◌, foldl, Forall₂}
use Rattle.meaning.specs.Formula.{Formula}
use Rattle.meaning.specs.Run.{Plant}
use Rattle.meaning.specs.Event.{Seen, Event, History, none, more, again, grow, since}
use Rattle.theory.specs.Narrow.{Finer, FinerHistory}
use Rattle.model.specs.LiveSet.{live_set}
use Rattle.model.specs.Monitor.{Monitor, run_of}

-- a second log of the same restarts, each event of which sees no less than the first log's, and nothing otherwise
abbrev pub FinerLog : List Event → List Event → Type 0
FinerLog = Forall₂ (λ e e'. (e.new ≡ e'.new) × Finer e.seen e'.seen)

snoc₂ : {es es' : List Seen} (e e' : Seen) → Forall₂ Finer es es' → Finer e e' → Forall₂ Finer (es ++ e ∷ []) (es' ++ e' ∷ [])
snoc₂ e e' Forall₂.nil k = Forall₂.cons k Forall₂.nil
snoc₂ e e' (Forall₂.cons h t) k = Forall₂.cons h (snoc₂ e e' t k)

-- a finer list is as long
as_long : {es es' : List Seen} → Forall₂ Finer es es' → length es ≡ length es'
as_long Forall₂.nil = refl
as_long (Forall₂.cons h t) = ap suc (as_long t)

-- so what the logs tell is finer too
pub since_finer : (es es' : List Event) → FinerLog es es' → FinerHistory (since es) (since es')
unfolding since grow
since_finer es es' k = go k none none (Forall₂.nil, refl)
  where
    one : (h h' : History) (e e' : Seen) (new : Bool) → FinerHistory h h' → Finer e e'
        → FinerHistory (cond new (again h e) (more h e)) (cond new (again h' e') (more h' e'))
    one h h' e e' true t k = (snoc₂ e e' t.0 k, as_long t.0)
    one h h' e e' false t k = (snoc₂ e e' t.0 k, t.1)

    go : {es es' : List Event} → FinerLog es es' → (h h' : History) → FinerHistory h h' → FinerHistory (foldl grow h es) (foldl grow h' es')
    go Forall₂.nil h h' t = t
    go (Forall₂.cons {a = e} {b = e'} k ks) h h' t = go ks (grow h e) (grow h' e') (rw (← k.0) (one h h' e.seen e'.seen e.new t k.1))

-- the monitor, with the live set that preparing works out, after a list of events
abbrev pub watched : Plant → Formula → List Event → Monitor
watched T f es = run_of T f (live_set T f) es

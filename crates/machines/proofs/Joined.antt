-- More of specs/Joined. The joined machine: a row for each class of rows that nothing tells apart, in the order of their first rows.
use Prim.Native.Nat.{ℕ, zero, suc, ◌≤◌, ◌<◌}
use Rattle.std.specs.Prelude.{◌≡◌}
use Rattle.std.proofs.Math.Path.{sym, ap}
use Rattle.std.proofs.Common.{◌∙◌, ⊎_elim, inl, inr}
use mathlib.Core.List.{List}
use native.Mathlib.Omega.{arith}
use Rattle.std.proofs.Math.Decide.{dec_lt}
use Rattle.words.specs.Below.{count_below}
use Rattle.machines.specs.Machine.{Machine, run, Columns, none, more, Alike, Same, AnswersAlike, Proper, Before, FirstReached, Numbered, Distinct, Canonical}
use Rattle.machines.specs.Alike.{alike_back, alike_on, alike_next, alike_output}
use Rattle.machines.specs.Leader.{Sorts, lead, lead_le, lead_like, lead_least}
use Rattle.machines.specs.Rounds.{agree}
use Rattle.machines.proofs.Rounds.{agree_sorts, same_says}
use Rattle.machines.specs.Number.{number_by, number_same, number_order, number_up, number_inside, holder_leads, holder_number}
use Rattle.machines.specs.Joined.{holder, joined, number, same}

module _ {c : ℕ} {m : Machine} (proper : Proper c m) where
  -- what is the same makes classes
  sorts : Sorts (same c m)
  sorts = agree_sorts c m m.rows

  -- the leader of a row is the same row
  lead_row : (r : ℕ) → r < m.rows → Same c m (lead (same c m) r) r
  lead_row r l = (same_says c m proper (lead (same c m) r) r (omega (arith, lead_le (same c m) r)) l).0 (lead_like sorts r)

  -- rows that are the same become one
  number_joins : (r s : ℕ) → r < m.rows → s < m.rows → Same c m r s → number c m r ≡ number c m s
  number_joins r s l h a = number_same sorts r s ((same_says c m proper r s l h).1 a)

  -- each row answers as the row that it becomes
  pub row_alike : (r : ℕ) → r < m.rows → Alike c m r (joined c m) (number c m r)
  unfolding joined run
  row_alike r l = record { after = λ w ws. go ws r l }
    where
      go : {w : List ℕ} → Columns c w → (r : ℕ) → r < m.rows → m.output (run m r w) ≡ (joined c m).output (run (joined c m) (number c m r) w)
      go none r l = sym (alike_output (lead_row r l)) ∙ ap m.output (sym (holder_leads sorts m.rows r l))
      go (more {k} {w} h ws) r l =
          let on : number c m (m.next r k) ≡ number c m (m.next (holder c m (number c m r)) k) =
          rw (holder_leads sorts m.rows r l) (number_joins _ _ (proper.inside r k l h) (proper.inside (lead (same c m) r) k (omega (arith, lead_le (same c m) r)) h)
          (alike_next k h (alike_back (lead_row r l)))) in
          go ws (m.next r k) (proper.inside r k l h) ∙ ap (λ (j : ℕ). (joined c m).output (run (joined c m) j w)) on

  -- the opening stays row 0
  opening_stays : number c m 0 ≡ 0
  unfolding number_by count_below
  opening_stays = let e : lead (same c m) 0 ≡ 0 = omega (arith, lead_le (same c m) 0) in rw e

  -- the joined machine answers as the one before
  pub joined_alike : AnswersAlike c m (joined c m)
  joined_alike = rw opening_stays at (row_alike 0 proper.opening)

  -- its cells hold rows
  joined_proper : Proper c (joined c m)
  unfolding joined
  joined_proper = record {
    opening = omega (arith, number_inside sorts m.rows 0 proper.opening);
    inside = λ j k l h. number_inside sorts m.rows (m.next (holder c m j) k) (proper.inside (holder c m j) k (holder_number sorts m.rows j l).0 h);
  }

  -- a joined row answers as the first row that becomes it
  holder_alike : (j : ℕ) → j < (joined c m).rows → Alike c m (holder c m j) (joined c m) j
  unfolding joined
  holder_alike j l =
      let (b, e, _) = holder_number sorts m.rows j l in
      rw e at (row_alike (holder c m j) b)

  -- no two joined rows are the same
  joined_distinct : Distinct c (joined c m)
  unfolding joined
  joined_distinct i j l h a =
      let (b, e, _) = holder_number sorts m.rows i l in
      let (d, f, _) = holder_number sorts m.rows j h in
      sym e ∙ number_joins (holder c m i) (holder c m j) b d (alike_on (holder_alike i l) (alike_on a (alike_back (holder_alike j h)))) ∙ f

  -- a row from which a leader is first reached is a leader
  leader_from : {s r k : ℕ} → s < m.rows → lead (same c m) s ≡ s → FirstReached c m s r k → lead (same c m) r ≡ r
  leader_from {s} {r} {k} l own f = elim (dec_lt (lead (same c m) r) r) [
    | yes b ↦ absurd (omega (arith, f.lower (lead (same c m) r) k f.column (inl b), least b))
    | no h ↦ omega (arith, lead_le (same c m) r)
  ]
    where
      least : lead (same c m) r < r → s ≤ m.next (lead (same c m) r) k
      least b =
          let inside : m.next (lead (same c m) r) k < m.rows = proper.inside (lead (same c m) r) k (omega (arith, f.from)) f.column in
          let alike : Same c m (m.next (lead (same c m) r) k) s = rw f.here at (alike_next k f.column (lead_row r (omega (arith, f.from)))) in
          omega (arith, own, lead_least sorts (m.next (lead (same c m) r) k) s ((same_says c m proper (m.next (lead (same c m) r) k) s inside l).1 alike))

  -- the row that it becomes is first reached from the row that the other becomes
  first_joined : (j r k : ℕ) → j < (joined c m).rows → FirstReached c m (holder c m j) r k → FirstReached c (joined c m) j (number c m r) k
  unfolding joined
  first_joined j r k l f = record {
    from = from;
    column = f.column;
    here = rw held (rw f.here numbered);
    lower = λ i h b before. rw numbered at (number_order sorts (m.next (holder c m i) h) (holder c m j)
        (omega (arith, own, lead_le (same c m) (m.next (holder c m i) h), f.lower (holder c m i) h b (earlier i h before))));
  }
    where
      inside : holder c m j < m.rows
      inside = (holder_number sorts m.rows j l).0

      numbered : number c m (holder c m j) ≡ j
      numbered = (holder_number sorts m.rows j l).1

      own : lead (same c m) (holder c m j) ≡ holder c m j
      own = (holder_number sorts m.rows j l).2

      leader : lead (same c m) r ≡ r
      leader = leader_from inside own f

      held : holder c m (number c m r) ≡ r
      held = holder_leads sorts m.rows r (omega (arith, f.from, inside)) ∙ leader

      from : number c m r < j
      from = rw numbered at (number_order sorts r (holder c m j) (omega (arith, leader, own, f.from)))

      held_before : (i : ℕ) → i < number c m r → holder c m i < r
      held_before i b =
          let (_, e, lone) = holder_number sorts m.rows i (omega (arith, from, l)) in
          elim (dec_lt (holder c m i) r) [ yes d ↦ d | no d ↦ absurd (omega (arith, e, number_up sorts r (holder c m i) (omega (arith, leader, lone)))) ]

      earlier : (i h : ℕ) → Before i h (number c m r) k → Before (holder c m i) h r k
      earlier i h = ⊎_elim (λ b. inl (held_before i b)) (λ (e, b). inr (rw e held, b))

  -- so that the joined rows are numbered as first reached
  joined_numbered : Numbered c m → Numbered c (joined c m)
  unfolding joined
  joined_numbered numbered j positive l =
      let (b, e, _) = holder_number sorts m.rows j l in
      let (r, k, f) = numbered (holder c m j) (above (holder c m j) e) b in
      (number c m r, k, first_joined j r k l f)
    where
      above : (s : ℕ) → number c m s ≡ j → 0 < s
      above zero e = omega (arith, opening_stays)
      above (suc s) e = omega arith

  -- where the rows before joining are numbered as first reached, so are the joined ones: the form that a fixed machine has
  pub joined_canonical : Numbered c m → Canonical c (joined c m)
  joined_canonical numbered = record { proper = joined_proper; distinct = joined_distinct; numbered = joined_numbered numbered }

-- More of specs/Read. Every sheet is read: the machine goes through its lines to the end.
use Rattle.std.specs.Prelude.{ℕ, zero, suc, ◌+◌, ◌≤◌, ◌<◌, ◌≡◌, refl, List, [], ◌∷◌, ◌++◌, length, Ok}
use Rattle.std.proofs.Common.{ap, append_assoc, append-nil, arith, length-append, ne_eqb}
use Rattle.sheet.specs.declared.Lines.{Lines}
use Rattle.sheet.specs.declared.State.TheVariants.{Before, Value}
use Rattle.sheet.specs.Sheet.{edition_key, rule_key, closing_key, number_from, number_of, Values, line_of, text_of, Given, given, IsSheet}
use Rattle.sheet.specs.Machine.{lines_as, begin, ended, state_after, file_as, filed, scan_from}
use Rattle.sheet.specs.Value.{FineOf, amount, fine_some}
use Rattle.sheet.proofs.ValueLaws.{taken}
use Rattle.sheet.specs.Read.{Reads, key_of, lined, lines_of, reads_key}

-- a value and its LF
reads_value :
    (k : ℕ) (u v s : List ℕ) (l m : Lines) → k < 3 → FineOf k (u ++ v) → Reads (file_as l k (length (u ++ v)) (amount k (u ++ v))) (Before (k + 1)) s m
    → Reads l (Value k (length u) (amount k u)) (v ++ 10 ∷ s) m
unfolding scan_from state_after ended filed
reads_value k u [] s l m h f r =
    let e : u ++ [] ≡ u = append-nil u in
    let z = fine_some k (u ++ []) f in
    record { reads = λ i. rw (ne_eqb (length u) 0 (λ w. omega (arith, ap length e))) (rw e at (r.reads (i + 1))) }
reads_value k u (b ∷ v) s l m h f r =
    let t = taken k u v b h f in
    let e : (u ++ b ∷ []) ++ v ≡ u ++ b ∷ v = append_assoc u (b ∷ []) v in
    let n : length (u ++ b ∷ []) ≡ length u + 1 = length-append u (b ∷ []) in
    let next = reads_value k (u ++ b ∷ []) v s l m h (rw e f) (rw e r) in
    record { reads = λ i. rw (ne_eqb b 10 t.1, t.0) (rw n at (next.reads (i + 1))) }

reads_line :
    (k j : ℕ) (v s : List ℕ) (l m : Lines) → k < 3 → j ≤ k → Given (FineOf k) v
    → ((i : ℕ) → i ≤ k + 1 → Reads (lined k v l) (Before i) s m) → Reads l (Before j) (line_of (key_of k) v ++ s) m
unfolding line_of number_from
reads_line k j [] s l m h g f r = r j (omega arith)
reads_line k j (b ∷ v) s l m h g (given f) r =
    let read = reads_key k j ((b ∷ v) ++ 10 ∷ s) l m h g (start k (reads_value k [] (b ∷ v) s l m h f (r (k + 1) (omega arith)))) in
    let e : (key_of k ++ (b ∷ v) ++ 10 ∷ []) ++ s ≡ key_of k ++ ((b ∷ v) ++ 10 ∷ s) = simp append_assoc in
    rw e read
  where
    start : (k : ℕ) → Reads l (Value k 0 (amount k [])) ((b ∷ v) ++ 10 ∷ s) m → Reads l (Value k 0 0) ((b ∷ v) ++ 10 ∷ s) m
    start zero r = r
    start (suc zero) r = r
    start (suc (suc k)) r = r

-- the three lines, from the last to the first
reads_closing : (j : ℕ) (c : List ℕ) (e r n : ℕ) → j ≤ 2 → Given (FineOf 2) c → Reads (lines_as e r 0 n) (Before j) (line_of closing_key c) (lines_as e r (length c) n)
unfolding scan_from file_as
reads_closing j c e r n h g =
    rw append-nil at (reads_line 2 j c [] (lines_as e r 0 n) (lines_as e r (length c) n) (omega arith) h g (λ i k. end c i))
  where
    end : (c : List ℕ) (i : ℕ) → Reads (lined 2 c (lines_as e r 0 n)) (Before i) [] (lines_as e r (length c) n)
    end [] i = record { reads = λ k. refl }
    end (b ∷ v) i = record { reads = λ k. refl }

reads_rule :
    (j : ℕ) (r c : List ℕ) (e n : ℕ) → j ≤ 1 → Given (FineOf 1) r → Given (FineOf 2) c
    → Reads (lines_as e 0 0 n) (Before j) (line_of rule_key r ++ line_of closing_key c) (lines_as e (length r) (length c) n)
unfolding file_as
reads_rule j r c e n h g f =
    reads_line 1 j r (line_of closing_key c) (lines_as e 0 0 n) (lines_as e (length r) (length c) n) (omega arith) h g (λ i k. end r i k)
  where
    end : (r : List ℕ) (i : ℕ) → i ≤ 2 → Reads (lined 1 r (lines_as e 0 0 n)) (Before i) (line_of closing_key c) (lines_as e (length r) (length c) n)
    end [] i k = reads_closing i c e 0 n k f
    end (b ∷ v) i k = reads_closing i c e (length (b ∷ v)) n k f

reads_edition :
    (e r c : List ℕ) → Given (FineOf 0) e → Given (FineOf 1) r → Given (FineOf 2) c
    → Reads (lines_as 0 0 0 0) (Before 0) (line_of edition_key e ++ (line_of rule_key r ++ line_of closing_key c)) (lines_as (length e) (length r) (length c) (number_of e))
unfolding file_as number_from
reads_edition e r c h g f =
    reads_line 0 0 e (line_of rule_key r ++ line_of closing_key c) (lines_as 0 0 0 0) (lines_as (length e) (length r) (length c) (number_of e)) (omega arith) (omega arith) h
    (λ i k. end e i k)
  where
    end :
        (e : List ℕ) (i : ℕ) → i ≤ 1
        → Reads (lined 0 e (lines_as 0 0 0 0)) (Before i) (line_of rule_key r ++ line_of closing_key c) (lines_as (length e) (length r) (length c) (number_of e))
    end [] i k = reads_rule i r c 0 0 k g f
    end (b ∷ v) i k = reads_rule i r c (length (b ∷ v)) (number_of (b ∷ v)) k g f

-- every sheet is read, and its lines are told
pub sheet_read : (s : List ℕ) (x : Values) → IsSheet s x → begin s ≡ Ok (lines_of x)
unfolding text_of
sheet_read s x is = rw is.text ((reads_edition x.edition x.rule x.closing is.edition is.rule is.closing).reads 0)

-- WHAT LINEAR TEMPORAL LOGIC SAYS OF A RULE ON A FINITE TRACE (02, k): over the events 0 to n - 1, and no more. It stands beside `Holds` (meaning/specs/Formula), which is of
-- endless words, and reads as that does; what must be believed of closing verdicts is here, in Seen (which propositions a rule has) and in closing_right/specs/DayEnd.
use Rattle.std.specs.Prelude.{ℕ, suc, ◌≤◌, ◌<◌, ◌⊎◌}
use Prim.{Unit}
use Rattle.std.proofs.Math.Bool.{So}
use Rattle.meaning.specs.Bit.{bit}
use Rattle.meaning.specs.Formula.{Formula, never, always, prop, neg, next, finally, globally, until, release, and, or, implies, Word}

-- the rule holds at position i of the first n labels of the word w. X asks for a next position among them: at the last there is none. F and U ask for a position among them.
-- G and R ask their right side of the positions among them alone. A negation is the negation of what is said, at the last position too.
unfoldable pub HoldsWithin : ℕ → Word → Formula → ℕ → Type 0
HoldsWithin n w never i = ⊥
HoldsWithin n w always i = Unit {0}
HoldsWithin n w (prop p) i = So (bit (w i) p)
HoldsWithin n w (neg a) i = HoldsWithin n w a i → ⊥
HoldsWithin n w (next a) i = (suc i < n) × HoldsWithin n w a (suc i)
HoldsWithin n w (finally a) i = (j : ℕ) × (i ≤ j) × (j < n) × HoldsWithin n w a j
HoldsWithin n w (globally a) i = (j : ℕ) → i ≤ j → j < n → HoldsWithin n w a j
HoldsWithin n w (until a b) i = (j : ℕ) × (i ≤ j) × (j < n) × HoldsWithin n w b j × ((k : ℕ) → i ≤ k → k < j → HoldsWithin n w a k)
HoldsWithin n w (release a b) i = (j : ℕ) → i ≤ j → j < n → HoldsWithin n w b j ⊎ ((k : ℕ) × (i ≤ k) × (k < j) × HoldsWithin n w a k)
HoldsWithin n w (and a b) i = HoldsWithin n w a i × HoldsWithin n w b i
HoldsWithin n w (or a b) i = HoldsWithin n w a i ⊎ HoldsWithin n w b i
HoldsWithin n w (implies a b) i = HoldsWithin n w a i → HoldsWithin n w b i

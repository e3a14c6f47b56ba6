-- A report: a claim, and the runs that are shown (02, l). Which runs a claim needs, and how long these may be.
use Rattle.std.specs.Prelude.{ℕ, ◌+◌, ◌≤◌, Bool, true, false, ◌&&◌, ◌||◌, cond, List, ◌++◌, ltb, eqb, length, replicate, Ok, Err}
use Rattle.io.specs.Counts.{IsPrefixLen}
use Rattle.words.specs.Over.{over}
use Rattle.answers.specs.declared.Kind.TheVariants.{Value, RunLength}
use Rattle.answers.specs.Results.{Outcome}
use Rattle.answers.specs.Paper.{refused_at}
use Rattle.neighbour.specs.declared.sent.ShownRun.{ShownRun}
use Rattle.neighbour.specs.declared.sent.Report.{Report}

-- ---- the runs

-- nothing is kept of a run that is too long
abbrev pub no_run : ShownRun
no_run = record { long = true; states = replicate 4096 0; stem = 0; len = 0 }

-- the states of the stem, and behind them those of the loop
abbrev pub joined_of : List ℕ → List ℕ → ShownRun
joined_of stem turn = record { long = false; states = over (stem ++ turn) (replicate 4096 0); stem = length stem; len = length (stem ++ turn) }

-- stem and loop together have at most 4,096 states
unfoldable pub shown_of : List ℕ → List ℕ → ShownRun
shown_of stem turn = cond (ltb 4096 (length stem + length turn)) no_run (joined_of stem turn)

-- a claim with the stem and the loop of the run that keeps the rule, and of the one that breaks it
abbrev pub report_of : ℕ → List ℕ → List ℕ → List ℕ → List ℕ → Report
report_of claim keep_stem keep_loop break_stem break_loop = record { claim = claim; keeping = shown_of keep_stem keep_loop; breaking = shown_of break_stem break_loop }

-- there is room for the states that are counted
pub record RunSized (r : ShownRun) : Type 0 where
  pub counts : IsPrefixLen r.len r.states
  pub few : r.len ≤ 4096

pub record Sized (r : Report) : Type 0 where
  pub keeping : RunSized r.keeping
  pub breaking : RunSized r.breaking

-- ---- the claim

-- that it is inconclusive needs a run of each kind, and that it is true or false one of that kind
unfoldable pub needs_of : ℕ → Bool → Bool
needs_of claim keeps = cond keeps (eqb claim 0 || eqb claim 1) (eqb claim 0 || eqb claim 2)

-- a run that is needed is too long
unfoldable pub too_long : ℕ → Bool → Bool → Bool
too_long claim keeping breaking = (needs_of claim true && keeping) || (needs_of claim false && breaking)

-- 9 for a claim that is no verdict's number, and then 22
unfoldable pub report_checked : ℕ → Bool → Bool → Outcome
report_checked claim keeping breaking = cond (ltb 3 claim) (Err (refused_at Value 0)) (cond (too_long claim keeping breaking) (Err (refused_at RunLength 0)) (Ok tt))

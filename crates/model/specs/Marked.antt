-- M1 to M10 (01, Marked examples), as one table under one claim, computed from the definitions.
use Rattle.std.specs.Prelude.{ℕ, ◌≡◌, refl, List, [], ◌∷◌, map, true, false}
use Rattle.meaning.specs.Bit.{bit}
use Rattle.words.specs.Below.{any_below, count_below, union_below, list_below, word_of, filled, words_below}
use Rattle.pairs.specs.Sets.{join_of, states_of, left_of, same_of}
use Rattle.pairs.specs.Post.{post_of}
use Rattle.moves.specs.Image.{reached_at}
use Rattle.moves.specs.Back.{pre_of}
use Rattle.moves.specs.Leading.{leading_at, leading_of}
use Rattle.labels.specs.Labels.{agreeing_of}
use Rattle.meaning.specs.Formula.{Formula, always, prop, neg, next, finally, globally, release, implies, parts}
use Rattle.meaning.specs.Run.{Plant}
use Rattle.meaning.specs.Event.{Event}
use Rattle.meaning.specs.Verdict.{verdict_of}
use Rattle.meaning.specs.Step.{value, table, fit, every}
use Rattle.theory.specs.Move.{settled}
use Rattle.model.specs.Settle.{settle}
use Rattle.model.specs.Moves.{leaving, entering, from, to}
use Rattle.model.specs.LiveSet.{meet_of, before, widen, reaching, goal_sets, narrow, all_pairs, live_set}
use Rattle.model.specs.Monitor.{holding, opens_at, opening, source_at, kept_of, step_of, run_of, verdict, left}

-- plant W, with other fairness sets or next sets
abbrev plant : List ℕ → List ℕ → Plant
plant just after = record { props = 2; states = 3; start = 1; fair = just; label = 0 ∷ 1 ∷ 2 ∷ []; next = after }

abbrev W : Plant
W = plant [] (3 ∷ 6 ∷ 5 ∷ [])

-- an event see/val, and one that is a restart
abbrev see : ℕ → ℕ → Event
see s v = record { seen = record { see = s; val = v }; new = false }

abbrev new : ℕ → ℕ → Event
new s v = record { seen = record { see = s; val = v }; new = true }

-- a table, a rule, a log, and what is shown
pub record Row : Type 0 where
  pub on : Plant
  pub rule : Formula
  pub log : List Event
  pub shows : List ℕ

abbrev row : Plant → Formula → List Event → List ℕ → Row
row T f es n = record { on = T; rule = f; log = es; shows = n }

-- what is shown after the log: the verdict, and the states left
abbrev shown : Row → List ℕ
shown r = let m = run_of r.on r.rule (live_set r.on r.rule) r.log in verdict m ∷ left m ∷ []

-- M1 to M10, and the four lines of the program's example
abbrev pub marked : List Row
marked =
    row W always [] (1 ∷ 1 ∷ [])
    ∷ row W (globally (implies (prop 0) (finally (prop 1)))) [] (0 ∷ 1 ∷ [])
    ∷ row (plant (5 ∷ []) (3 ∷ 6 ∷ 5 ∷ [])) (globally (implies (prop 0) (finally (prop 1)))) [] (1 ∷ 1 ∷ [])
    ∷ row W (finally (prop 1)) (see 3 0 ∷ see 3 1 ∷ see 3 2 ∷ []) (1 ∷ 1 ∷ [])
    ∷ row W (globally (neg (prop 1))) (see 3 0 ∷ see 3 1 ∷ see 3 2 ∷ []) (2 ∷ 1 ∷ [])
    ∷ row W (release (prop 0) (neg (prop 1))) [] (1 ∷ 1 ∷ [])
    ∷ row W (next (prop 0)) (see 3 0 ∷ see 3 0 ∷ []) (2 ∷ 1 ∷ [])
    ∷ row W (finally (prop 1)) (see 3 0 ∷ see 3 3 ∷ []) (3 ∷ 0 ∷ [])
    ∷ row W (finally (prop 1)) (see 3 0 ∷ see 3 3 ∷ new 3 0 ∷ []) (3 ∷ 0 ∷ [])
    ∷ row (plant [] (0 ∷ 0 ∷ 0 ∷ [])) always [] (3 ∷ 0 ∷ [])
    ∷ row W (finally (prop 0)) [] (0 ∷ 1 ∷ [])
    ∷ row W (finally (prop 0)) (see 3 0 ∷ []) (0 ∷ 1 ∷ [])
    ∷ row W (finally (prop 0)) (see 3 0 ∷ see 0 0 ∷ []) (0 ∷ 2 ∷ [])
    ∷ row W (finally (prop 0)) (see 3 0 ∷ see 0 0 ∷ see 2 2 ∷ []) (1 ∷ 1 ∷ [])
    ∷ []

-- each row shows by the definitions what it says
pub marked_shown : map shown marked ≡ map (λ r. r.shows) marked
unfolding bit any_below count_below union_below list_below word_of filled words_below states_of left_of same_of post_of reached_at pre_of leading_at agreeing_of parts value table fit settled every settle leaving entering from to join_of leading_of meet_of before widen reaching goal_sets narrow all_pairs live_set holding opens_at opening source_at kept_of step_of run_of verdict_of verdict left
marked_shown = refl

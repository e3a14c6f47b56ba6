-- `look_at`: by whether the claim needs the run.
use Rattle.text.specs.Number.{width_of}
use Rattle.event_log.specs.Read.{event_at, whole_lines}
use Rattle.neighbour.proofs.Cases.{not_needed, needed}
use Rattle.std.proofs.Common.{arith}
use Rattle.std.proofs.lemmas.Grind.{common_steps}
use Rattle.neighbour.proofs.look_at.Goals as goal

pub returns-then-not-needs : goal.returns-then-not-needs
returns-then-not-needs c = grind (arith, common_steps, width_of, event_at, whole_lines, not_needed)

pub returns : goal.returns
returns c = grind (arith, common_steps, width_of, event_at, whole_lines, needed)

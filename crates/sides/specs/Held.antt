-- A monitor, as code has it and as the model has it; and the lamp.
use Rattle.std.specs.Prelude.{ℕ, not}
use Rattle.model.specs.Monitor as model
use Rattle.pairs.specs.Sets.{empty_of}
use Rattle.answers.specs.declared.Lamp.{Lamp}
use Rattle.answers.specs.Paper.{verdict_for}
use Rattle.sides.specs.declared.Monitor.{Monitor}

abbrev pub model_of : Monitor → model.Monitor
model_of m = record { seen = m.seen; keeps = m.keeps.words; breaks = m.breaks.words }

-- with the number that it expects, which the model does not know of
abbrev pub monitor_of : ℕ → model.Monitor → Monitor
monitor_of expected m = record { seen = m.seen; keeps = record { words = m.keeps }; breaks = record { words = m.breaks }; expected = expected }

-- the verdict by which sets are occupied, and in how many states the plant can be
abbrev pub lamp_in : model.Monitor → Lamp
lamp_in m = record { verdict = verdict_for (not (empty_of m.keeps)) (not (empty_of m.breaks)); left = model.left m }

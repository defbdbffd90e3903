use Rattle.std.proofs.Common.{◌+◌, ◌-◌, length}
use Rattle.memory.specs.Levels.{level_of}
use Rattle.memory.proofs.Levels.{place_of}
use Rattle.cycle.proofs.Cycle.{Goes}
use Rattle.cycle.proofs.+normalize_attr_step_normalize_attr_steps.Given as goal

abbrev pub decreases-normalize_attr_step : goal.decreases-normalize_attr_step
decreases-normalize_attr_step l = l.reading.depth + l.reading.depth

abbrev pub decreases-normalize_attr_steps : goal.decreases-normalize_attr_steps
decreases-normalize_attr_steps l = l.reading.depth + l.reading.depth + 1

abbrev pub invariant-normalize_attr_steps-loop-all : goal.invariant-normalize_attr_steps-loop-all
invariant-normalize_attr_steps-loop-all l =
    Goes (level_of l.reading l.list l.pool l.text) l.reading.base (place_of l.initial.at l.initial.len l.initial.made) l.initial.out l.initial.seen l.out l.seen l.at
    l.len l.made

abbrev pub decreases-normalize_attr_steps-loop-all : goal.decreases-normalize_attr_steps-loop-all
decreases-normalize_attr_steps-loop-all l = length l.text - l.at

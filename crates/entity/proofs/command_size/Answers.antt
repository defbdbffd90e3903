-- `command_size` is `command_size`, by its one test.
use native.Mathlib.Omega.{arith}
use Rattle.entity.proofs.Commands.{size_one, size_other}
use Rattle.entity.proofs.command_size.Goals as goal

pub returns-then-command-eq-TEXT : goal.returns-then-command-eq-TEXT
returns-then-command-eq-TEXT c = (omega (arith, size_one c.if-command-eq-TEXT.true), omega arith)

pub returns : goal.returns
returns c = (omega (arith, size_other c.if-command-eq-TEXT.false), omega arith)

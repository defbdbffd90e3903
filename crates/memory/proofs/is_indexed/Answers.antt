-- `is_indexed`: without words behind the 84 there is no index.
use mathlib.Core.Path.{sym}
use mathlib.Core.Bool.{true≢false}
use Rattle.memory.proofs.is_indexed.Goals as goal

pub returns-then-seen-le84 : goal.returns-then-seen-le84
returns-then-seen-le84 c = λ e. absurd (true≢false (sym e))

-- A pair with one opening more, by the tests of the limit and of the first word: `placed_late`, `placed_sized`, `placed_fails`.
use mathlib.Core.Path.{ap, ◌∙◌}
use native.Mathlib.Omega.{arith}
use Rattle.walk_pairs.specs.Forecast.{fails}
use Rattle.walk_forecast.proofs.Adding.{placed_late, placed_sized, placed_fails}
use Rattle.walk_forecast.proofs.pair_added.Goals as goal

pub overflow_add-made : goal.overflow_add-made
overflow_add-made c = omega (arith, c.requires.room, c.requires.most)

pub overflow_add-made-2 : goal.overflow_add-made-2
overflow_add-made-2 c = omega (arith, c.requires.room, c.requires.most, c.requires.few)

pub returns-then-limit-made : goal.returns-then-limit-made
returns-then-limit-made c = ap (λ n. fails n c.args.limit) c.number.ensures ∙ placed_late c.requires c.if-limit-made.true

pub returns-then-first-lt-REFUSED : goal.returns-then-first-lt-REFUSED
returns-then-first-lt-REFUSED c = placed_sized c.requires c.if-limit-made.false c.if-first-lt-REFUSED.true

pub overflow_cast-result : goal.overflow_cast-result
overflow_cast-result c = omega (arith, c.requires.low, c.if-first-lt-REFUSED.false)

pub returns : goal.returns
returns c = placed_fails c.requires c.if-limit-made.false c.if-first-lt-REFUSED.false

-- `added` meets its contract: it is the definition. Assumes nothing.
use native.Mathlib.Omega.{arith}
use mathlib.Core.Path.{ap, ap₂, ◌∙◌}
use Prim.Native.Nat.{ℕ, ◌+◌}
use lib.Dec.{eqb}
use Rattle.text.specs.Bytes.{pick}
use Rattle.escape.specs.Scan.{added_by}
use Rattle.escape.proofs.added.Goals as goal

pub overflow_add-result : goal.overflow_add-result
overflow_add-result c = omega arith

pub overflow_add-result-2 : goal.overflow_add-result-2
overflow_add-result-2 c = omega arith

pub overflow_add-result-3 : goal.overflow_add-result-3
overflow_add-result-3 c = omega arith

pub returns : goal.returns
unfolding added_by
returns c =
    let b = c.args.b in
    let tab = c.when-4.ensures.0 ∙ ap (λ (n : ℕ). pick (eqb b 9) n 0) c.tab_added.ensures.0 in
    ap₂ ◌+◌ (ap₂ ◌+◌ (ap₂ ◌+◌ c.when.ensures.0 c.when-2.ensures.0) c.when-3.ensures.0) tab

-- `escaped_length` meets its contract: what is added and the bytes passed are the length written for them. Assumes nothing.
use Rattle.escape.proofs.Levels.{chars_sized}
use mathlib.Core.Path.{ap, ◌∙◌}
use Prim.Native.Nat.{ℕ, ◌+◌}
use native.Mathlib.Omega.{arith}
use Rattle.escape.specs.Escape.{write}
use Rattle.escape.specs.Scan.{chars_set}
use Rattle.escape.proofs.Write.{count_part, count_rest, write_most}
use borrow.Author.Rules.{rules}
use Rattle.escape.proofs.escaped_length.Goals as goal

pub loop-i-init : goal.loop-i-init
unfolding write
loop-i-init c = search rules

pub loop-i-preserved : goal.loop-i-preserved
loop-i-preserved c =
    let given = c.args in
    (search rules, count_part (chars_set given.chars) given.text.now c.loop-i.i c.loop-i.n 32 c.from-n.result c.loop-i.invariant.1 (ap (λ (m : ℕ). m + 32) c.from-n.ensures ∙ c.added_part.ensures), omega arith)

pub overflow_add-result : goal.overflow_add-result
overflow_add-result c =
    let given = c.args in
    let set = chars_set given.chars in
    let total = count_rest set given.text.now c.loop-i.i c.loop-i.n c.added_rest.result c.loop-i.invariant.0 c.loop-i.invariant.1 c.added_rest.ensures in
    omega (arith, total, write_most set (chars_sized given.chars) given.text.now, c.requires)

pub overflow_add-result-2 : goal.overflow_add-result-2
overflow_add-result-2 c =
    let given = c.args in
    let set = chars_set given.chars in
    let total = count_rest set given.text.now c.loop-i.i c.loop-i.n c.added_rest.result c.loop-i.invariant.0 c.loop-i.invariant.1 c.added_rest.ensures in
    omega (arith, total, write_most set (chars_sized given.chars) given.text.now, c.requires)

pub returns : goal.returns
returns c =
    let given = c.args in
    count_rest (chars_set given.chars) given.text.now c.loop-i.i c.loop-i.n c.added_rest.result c.loop-i.invariant.0 c.loop-i.invariant.1 c.added_rest.ensures

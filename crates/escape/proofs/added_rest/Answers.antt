-- `added_rest` meets its contract: after k turns the sum is that of k bytes, each at most 5. Assumes nothing.
use mathlib.Core.Path.{◌≡◌, ap, ◌∙◌}
use Prim.Native.Nat.{◌+◌}
use native.Mathlib.Omega.{arith}
use lib.ListN.{get_or}
use Rattle.escape.specs.Escape.{write}
use Rattle.escape.specs.Scan.{added_by}
use Rattle.text.proofs.Bytes.{part_byte}
use Rattle.escape.proofs.Levels.{added_most, count_next}
use borrow.Author.Rules.{rules}
use Rattle.escape.proofs.added_rest.Goals as goal

pub loop-b-init : goal.loop-b-init
unfolding write
loop-b-init c = search rules

pub overflow_add-n : goal.overflow_add-n
overflow_add-n c =
    let a = c.args in
    let k = c.loop-b.b-index in
    let byte = part_byte a.text.now a.i a.count k c.loop-b-test.true in
    let e = c.from-n.ensures ∙ c.added_one.ensures ∙ ap (added_by a.chars) byte in
    omega (arith, e, added_most a.chars (get_or a.text.now (a.i + k) 0))

pub loop-b-preserved : goal.loop-b-preserved
loop-b-preserved c =
    let a = c.args in
    let k = c.loop-b.b-index in
    let byte = part_byte a.text.now a.i a.count k c.loop-b-test.true in
    let e = c.from-n.ensures ∙ c.added_one.ensures ∙ ap (added_by a.chars) byte in (
      omega arith,
      count_next a.chars a.text.now a.i k c.loop-b.n c.from-n.result (omega arith) c.loop-b.invariant.1 e,
      omega (arith, e, added_most a.chars (get_or a.text.now (a.i + k) 0)),
    )

pub returns : goal.returns
returns c = let q : c.loop-b.b-index ≡ c.args.count = omega arith in rw q at c.loop-b.invariant.1

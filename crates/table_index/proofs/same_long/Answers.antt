-- `same_long` keeps `Agree`, a block further at each turn; the last block, which ends with the name, was compared first.
use Rattle.std.proofs.Common.{◌+◌, ◌-◌, ◌≤◌, length, sym, refl, le_refl, arith}
use Rattle.entity.proofs.Lookup.{same_all}
use Rattle.table_index.proofs.NameBlocks.{agree_block, differ_block}
use Rattle.table_index.proofs.same_long.Goals as goal

pub returns-then-differ_16 : goal.returns-then-differ_16
returns-then-differ_16 c =
    let given = c.args in
    let name = given.name.now in
    let n = length name in
    sym (differ_block given.pool.now given.start name (n - 16) 16 n (omega (arith, c.requires)) (c.differ_16.ensures.fact c.if-differ_16.true))

pub returns-then-differ_16-2 : goal.returns-then-differ_16-2
returns-then-differ_16-2 c =
    let name = c.args.name.now in
    let fits : c.loop-i.i + 16 ≤ length name = omega (arith, c.requires, c.loop-i-test.true) in
    sym (differ_block c.args.pool.now c.args.start name c.loop-i.i 16 (length name) fits (c.differ_16-in-loop-i.ensures.fact c.if-differ_16-2.true))

pub loop-i-preserved : goal.loop-i-preserved
loop-i-preserved c =
    let i = c.loop-i.i in
    let fits : i + 16 ≤ length c.args.name.now = omega (arith, c.requires, c.loop-i-test.true) in
    agree_block c.args.pool.now c.args.start c.args.name.now i 16 i c.loop-i.invariant (le_refl i) (le_refl (i + 16)) fits
    (c.differ_16-in-loop-i.ensures.k_value c.if-differ_16-2.false)

pub returns : goal.returns
returns c =
    let pool = c.args.pool.now in
    let at = c.args.start in
    let name = c.args.name.now in
    let n = length name in
    let whole =
    agree_block pool at name (n - 16) 16 c.loop-i.i {j = n} c.loop-i.invariant c.loop-i-test.false (omega (arith, c.requires)) (le_refl n)
    (c.differ_16.ensures.k_value c.if-differ_16.false) in
    sym (same_all pool at name n c.requires.0 refl whole (le_refl n))

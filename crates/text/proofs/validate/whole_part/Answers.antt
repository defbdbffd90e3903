-- `whole_part`, return by return: the block is whole before a character that is cut off (`ends_before`), or to its end (`ends_after`).
use mathlib.Core.Path.{◌≡◌}
use Prim.Native.Nat.{◌+◌}
use native.Mathlib.Omega.{arith}
use Rattle.text.proofs.Blocks.{ends_before, ends_after}
use Rattle.text.proofs.validate.whole_part.Goals as goal

pub returns-then-text-j-ge192 : goal.returns-then-text-j-ge192
returns-then-text-j-ge192 c =
    let given = c.args in
    let q : given.j + 34 ≡ given.j + 31 + 3 = omega arith in
    ends_before given.text.now given.j c.requires.edge c.requires.fitting c.requires.j_in_bounds 31 (omega arith) (rw q at c.if-text-j-ge192.true)

pub returns-then-text-j-ge224 : goal.returns-then-text-j-ge224
returns-then-text-j-ge224 c =
    let given = c.args in
    let q : given.j + 30 + 3 ≡ given.j + 33 = omega arith in
    ends_before given.text.now given.j c.requires.edge c.requires.fitting c.requires.j_in_bounds 30 (omega arith) (rw q (omega (arith, c.if-text-j-ge224.true)))

pub returns-then-text-j-ge240 : goal.returns-then-text-j-ge240
returns-then-text-j-ge240 c =
    let given = c.args in
    let q : given.j + 29 + 3 ≡ given.j + 32 = omega arith in
    ends_before given.text.now given.j c.requires.edge c.requires.fitting c.requires.j_in_bounds 29 (omega arith) (rw q (omega (arith, c.if-text-j-ge240.true)))

pub returns : goal.returns
returns c =
    let given = c.args in
    ends_after given.text.now given.j c.requires.edge c.requires.fitting c.requires.j_in_bounds c.if-text-j-ge240.false c.if-text-j-ge224.false c.if-text-j-ge192.false

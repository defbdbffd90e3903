-- `fault_in_rest`: where the last 16 bytes are printable the rest, which lies in them, has no fault (`clean_last`). Assumes nothing.
use mathlib.Core.Path.{◌≡◌}
use mathlib.Core.Bool.{true, ◌&&◌}
use native.Mathlib.Omega.{arith}
use Prim.Native.Nat.{ℕ, ◌-◌, ◌≤◌}
use lib.Dec.{leb}
use borrow.Author.Tests.{leb-true}
use Rattle.text.proofs.Bytes.{and_right}
use Rattle.legal.specs.FirstFault.{faults_by}
use Rattle.legal.proofs.Clean.{first_over, clean_last}
use Rattle.legal.proofs.fault_in_rest.Goals as goal

-- there is a whole block before `to`
whole_block : (i to : ℕ) → leb 4 (to - i) && leb 16 to ≡ true → 16 ≤ to
whole_block i to e = leb-true 16 to (and_right (leb 4 (to - i)) (leb 16 to) e)

pub overflow_sub-to-then-to-i : goal.overflow_sub-to-then-to-i
overflow_sub-to-then-to-i c = whole_block c.args.i c.args.to c.if-to-i.true

pub any_unprintable-requires : goal.any_unprintable-requires
any_unprintable-requires c =
    omega (arith, whole_block c.args.i c.args.to c.if-to-i.true, c.requires.part.fits)

pub returns-then-not-any_unprintable : goal.returns-then-not-any_unprintable
returns-then-not-any_unprintable c =
    let fault = faults_by c.args.rule in
    let t = c.args.text.now in
    let to = c.args.to in
    first_over fault t
    (clean_last fault t to 16 (whole_block c.args.i to c.if-to-i.true) c.requires.part.order (omega (arith, c.requires.to_bound))
    (c.any_unprintable.ensures c.if-not-any_unprintable.true c.args.rule))

-- `whole_blocks` keeps: three bytes lie behind, and those before i are whole characters; what `block_width` passes makes them more (`grown`).
use mathlib.Core.Path.{◌≡◌}
use native.Mathlib.Omega.{arith}
use Prim.Native.Nat.{◌+◌, ◌-◌}
use Rattle.text.proofs.Blocks.{grown}
use Rattle.text.proofs.validate.whole_blocks.Goals as goal

pub returns-then-from-lt3 : goal.returns-then-from-lt3
returns-then-from-lt3 c = c.requires

pub loop-i-init : goal.loop-i-init
loop-i-init c = (c.if-from-lt3.false, c.requires)

pub overflow_sub-text : goal.overflow_sub-text
overflow_sub-text c = omega (arith, c.loop-i.invariant.1.fits)

pub highest-top-requires : goal.highest-top-requires
highest-top-requires c = omega (arith, c.loop-i.invariant.1.fits)

pub overflow_sub-i : goal.overflow_sub-i
overflow_sub-i c = omega (arith, c.loop-i.invariant.0)

pub block_width-width-requires : goal.block_width-width-requires
block_width-width-requires c =
    let q : c.loop-i.i - 3 + 3 ≡ c.loop-i.i = omega (arith, c.loop-i.invariant.0) in
    record { j_in_bounds = omega (arith, c.loop-i.invariant.0, c.loop-i.invariant.1.fits); at_most = rw q c.highest-top.ensures }

pub returns-then-width-eq0 : goal.returns-then-width-eq0
returns-then-width-eq0 c = c.loop-i.invariant.1

pub overflow_add-i : goal.overflow_add-i
overflow_add-i c =
    let q : c.loop-i.i - 3 + 3 ≡ c.loop-i.i = omega (arith, c.loop-i.invariant.0) in
    omega (arith, rw q at c.block_width-width.ensures.fits)

pub loop-i-smaller : goal.loop-i-smaller
loop-i-smaller c =
    let q : c.loop-i.i - 3 + 3 ≡ c.loop-i.i = omega (arith, c.loop-i.invariant.0) in
    omega (arith, c.if-width-eq0.false, rw q at c.block_width-width.ensures.fits)

pub loop-i-preserved : goal.loop-i-preserved
loop-i-preserved c =
    let q : c.loop-i.i - 3 + 3 ≡ c.loop-i.i = omega (arith, c.loop-i.invariant.0) in
    (omega (arith, c.loop-i.invariant.0), grown _ _ _ c.loop-i.invariant.1 (rw q at c.block_width-width.ensures))

pub returns : goal.returns
returns c = c.loop-i.invariant.1

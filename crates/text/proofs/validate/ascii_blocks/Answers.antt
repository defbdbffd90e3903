-- `ascii_blocks` keeps: the bytes from the start on are ASCII. A block without high bits makes the run longer (`run_more`).
use native.Mathlib.Omega.{arith}
use Prim.Native.Nat.{◌*◌}
use Rattle.text.proofs.Blocks.{run_none, run_more}
use Rattle.text.proofs.validate.ascii_blocks.Goals as goal

pub loop-i-init : goal.loop-i-init
loop-i-init c = run_none c.args.text.now c.args.from c.requires.inside

pub overflow_mul-words : goal.overflow_mul-words
overflow_mul-words c = omega (arith, c.requires.words_nonzero)

pub overflow_sub-text : goal.overflow_sub-text
overflow_sub-text c = omega (arith, c.loop-i.invariant.fits)

pub joined_bits-requires : goal.joined_bits-requires
joined_bits-requires c = omega (arith, c.loop-i.invariant.fits)

pub returns-then-joined_bits-ne0 : goal.returns-then-joined_bits-ne0
returns-then-joined_bits-ne0 c = c.loop-i.invariant

pub overflow_mul-i : goal.overflow_mul-i
overflow_mul-i c = omega (arith, c.requires.words_nonzero)

pub overflow_add-i : goal.overflow_add-i
overflow_add-i c = omega (arith, c.loop-i.invariant.fits)

pub loop-i-smaller : goal.loop-i-smaller
loop-i-smaller c = omega (arith, c.loop-i.invariant.fits, c.requires.words_nonzero)

pub loop-i-preserved : goal.loop-i-preserved
loop-i-preserved c =
    let a = c.args in
    run_more a.text.now a.from c.loop-i.i (8 * a.words) c.loop-i.invariant (c.joined_bits.ensures c.if-joined_bits-ne0.false) (omega (arith, c.loop-i.invariant.fits))

pub returns : goal.returns
returns c = c.loop-i.invariant

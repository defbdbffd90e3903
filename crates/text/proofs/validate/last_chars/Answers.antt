use native.Mathlib.Omega.{arith}
use Rattle.text.proofs.Blocks.{grown}
use Rattle.text.proofs.Longest.{end_here, end_all}
use Rattle.text.proofs.validate.last_chars.Goals as goal

pub loop-i-init : goal.loop-i-init
loop-i-init c = c.requires

pub returns-then-width-eq0 : goal.returns-then-width-eq0
returns-then-width-eq0 c = end_here _ _ c.loop-i.invariant (c.char_width-width.ensures.none c.if-width-eq0.true)

pub loop-i-smaller : goal.loop-i-smaller
loop-i-smaller c = omega (arith, c.char_width-width.ensures.is.fits, c.if-width-eq0.false)

pub loop-i-preserved : goal.loop-i-preserved
loop-i-preserved c = grown _ _ _ c.loop-i.invariant c.char_width-width.ensures.is

pub returns : goal.returns
returns c = end_all _ _ c.loop-i.invariant (omega (arith, c.loop-i.invariant.fits))

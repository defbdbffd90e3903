use native.Mathlib.Omega.{arith}
use Rattle.text.proofs.Blocks.{grown}
use Rattle.text.proofs.validate.first_chars.Goals as goal

pub loop-i-init : goal.loop-i-init
loop-i-init c = c.requires

pub returns-then-width-eq0 : goal.returns-then-width-eq0
returns-then-width-eq0 c = c.loop-i.invariant

pub loop-i-smaller : goal.loop-i-smaller
loop-i-smaller c = omega (arith, c.char_width-width.ensures.is.fits, c.if-width-eq0.false)

pub loop-i-preserved : goal.loop-i-preserved
loop-i-preserved c = grown _ _ _ c.loop-i.invariant c.char_width-width.ensures.is

pub returns-else-i-text : goal.returns-else-i-text
returns-else-i-text c = c.loop-i.invariant

pub returns-after-loop-i : goal.returns-after-loop-i
returns-after-loop-i c = c.loop-i.invariant

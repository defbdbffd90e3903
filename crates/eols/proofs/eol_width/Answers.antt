-- `eol_width`: CR and the line ends of XML 1.1 by their own functions, LF and no line end by a law (`lf_alone`, `none10`).
use Rattle.eols.proofs.LineEnds.{width_at, lf_alone, none10}
use Rattle.eols.proofs.eol_width.Goals as goal

pub returns-then-text-i-eq10 : goal.returns-then-text-i-eq10
returns-then-text-i-eq10 c =
    width_at _ c.args.text.now c.args.i c.requires (lf_alone _ _ c.args.newer c.if-text-i-eq10.true)

pub returns-then-newer : goal.returns-then-newer
returns-then-newer c = rw c.if-newer.true c.newer_width.ensures

pub returns : goal.returns
returns c =
    width_at _ c.args.text.now c.args.i c.requires (rw c.if-newer.false (none10 _ _ c.if-text-i-eq13.false c.if-text-i-eq10.false))

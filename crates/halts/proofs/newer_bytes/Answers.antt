-- `newer_bytes`: all before i is smooth. Assumes nothing.
use Rattle.std.proofs.Common.{sym, ◌∙◌, true}
use Rattle.halts.proofs.Smooth.{smooth_byte, smooth_join}
use Rattle.halts.proofs.newer_bytes.Goals as goal

pub loop-i-preserved : goal.loop-i-preserved
loop-i-preserved c =
    let t = c.args.text.now in
    let i = c.loop-i.i in
    smooth_join true t i c.loop-i.invariant (smooth_byte true t i c.loop-i-test.true (sym c.is_newer.ensures ∙ c.if-is_newer.false))

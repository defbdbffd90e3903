-- `put_bytes` meets its contract: at each turn the first i bytes are a run, and are laid over the output.
use mathlib.Core.Path.{sym, ◌∙◌}
use Rattle.output.proofs.Runs.{copied_byte, byte_fits}
use Rattle.runs.proofs.lines.put_bytes.Goals as goal

pub bounds-out-i : goal.bounds-out-i
bounds-out-i c =
    byte_fits _ _ _ c.loop-i.invariant.0 c.loop-i.invariant.1 c.loop-i-test.true (sym c.ends_run.ensures ∙ c.if-ends_run.false)

pub loop-i-preserved : goal.loop-i-preserved
loop-i-preserved c =
    let kept = c.loop-i.invariant in
    (copied_byte _ _ _ kept.0 kept.1 c.loop-i-test.true (sym c.ends_run.ensures ∙ c.if-ends_run.false), kept.1)

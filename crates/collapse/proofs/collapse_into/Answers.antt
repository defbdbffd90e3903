-- `collapse_into` counts only where the output may be too short: the second stage adds nothing (`collapse_shorter`).
use mathlib.Core.Path.{◌∙◌}
use native.Mathlib.Omega.{arith}
use Prim.Native.Nat.{◌≤◌}
use lib.ListN.{length}
use Rattle.output.proofs.Finish.{finish_short, finish_laid}
use Rattle.output.proofs.Clip.{over_fits}
use Rattle.collapse.specs.Collapse.{collapse}
use Rattle.collapse.proofs.Stage.{collapse_shorter}
use Rattle.collapse.proofs.collapse_into.Goals as goal
use Rattle.collapse.proofs.collapse_into.Goals.{then-out-value+else-out-length, else-out-value}

pub returns-then-out-length : goal.returns-then-out-length
returns-then-out-length c =
    let a = c.args in
    finish_short (collapse a.value.now) a.second a.out.now c.collapsed_length-length.ensures c.if-out-length.true

pub returns : goal.returns
returns c =
    let a = c.args in
    let room : length (collapse a.value.now) ≤ length a.out.now =
    elim c.if-out-value.branch [ then-out-value+else-out-length w ↦ omega arith | else-out-value w ↦ omega (arith, collapse_shorter a.value.now) ] in
    finish_laid (collapse a.value.now) a.second a.out.now c.put_collapsed-written.ensures.value (omega (arith, c.put_collapsed-written.ensures.value, room))
    (c.put_collapsed-written.ensures.out_after ∙ over_fits (collapse a.value.now) a.out.now room)

-- `newer_halt`: blocks without suspects, then up to the first suspect; past one that is no halt, exact blocks, then bytes. Assumes nothing.
use mathlib.Core.Path.{sym, ◌∙◌}
use mathlib.Core.Bool.{true}
use Rattle.halts.proofs.Smooth.{smooth_join, halt_join}
use Rattle.halts.proofs.newer_halt.Goals as goal

pub returns-then-text-i-lt16 : goal.returns-then-text-i-lt16
returns-then-text-i-lt16 c =
    halt_join c.clear_four-i.result c.clear_four-i.ensures c.newer_rest.ensures

pub returns-then-is_newer : goal.returns-then-is_newer
returns-then-is_newer c =
    let t = c.args.text.now in
    record {
      smooth = smooth_join true t c.clear_four-i.result c.clear_four-i.ensures c.suspect_in_block-near.ensures;
      ends = λ h. sym c.is_newer.ensures ∙ c.if-is_newer.true;
    }

pub returns : goal.returns
returns c =
    let t = c.args.text.now in
    let near = smooth_join true t c.clear_four-i.result c.clear_four-i.ensures c.suspect_in_block-near.ensures in
    halt_join c.clear_newer.result (smooth_join true t c.suspect_in_block-near.result near c.clear_newer.ensures)
    c.newer_bytes.ensures

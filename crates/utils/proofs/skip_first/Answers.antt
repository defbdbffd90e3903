use native.Mathlib.Omega.{arith}
use mathlib.Core.Path.{refl}
use Rattle.utils.proofs.Cuts.{passed_block}
use Rattle.utils.proofs.skip_first.Goals as goal

pub returns : goal.returns
returns c =
    let from = c.args.from in
    passed_block c.args.text.now from from 126 (record { fits = c.requires; on = refl }) (omega (arith, c.if-text-from-lt128.false))
    (c.any_gt.ensures c.if-any_gt.false)

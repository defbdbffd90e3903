-- `decode_pairs`: after i pairs the first i bytes of `out` are written by these pairs (`more_pairs`).
use Rattle.std.proofs.Common.{refl, arith, length-set}
use Rattle.replay.specs.Values.{hex_of}
use Rattle.replay.proofs.Laws.{more_pairs}
use Rattle.replay.proofs.values.decode_pairs.Goals as goal

pub loop-i-init : goal.loop-i-init
unfolding hex_of
loop-i-init c = (refl, refl)

pub loop-i-preserved : goal.loop-i-preserved
loop-i-preserved c =
    let out = c.loop-i.out in
    let i = c.loop-i.i in (
      simp length-set c.loop-i.invariant.0,
      more_pairs c.args.pairs.now out i _ _ c.loop-i-test.true (omega arith) (c.told-pairs i c.loop-i-test.true)
          c.in_ok-hex_value.ensures c.in_ok-out.ensures c.loop-i.invariant.1,
    )

use mathlib.Core.Path.{sym, ◌∙◌}
use native.Mathlib.Omega.{arith}
use lib.ListN.{length-take}
use lib.Seq.{length-take-le}
use Rattle.output.proofs.Clip.{over_clipped}
use Rattle.output.proofs.put_over.Goals as goal

pub slice_bounds-put_part-end : goal.slice_bounds-put_part-end
slice_bounds-put_part-end c = sym (length-take-le c.min-n.result c.args.src.now (omega (arith, c.min-n.ensures)))

pub put_part-requires : goal.put_part-requires
put_part-requires c = simp length-take (omega (arith, c.min-n.ensures))

pub returns : goal.returns
returns c =
    let given = c.args in
    c.put_part.ensures ∙ over_clipped given.src.now given.out.now c.min-n.ensures

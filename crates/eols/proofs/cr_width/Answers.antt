-- `cr_width`: a law for each return (`cr_lf`, `cr_nel`, `cr_alone11`, `cr_alone10`), at an index by `width_at`.
use mathlib.Core.Path.{sym, ◌∙◌}
use Prim.Native.Nat.{◌+◌}
use lib.ListN.{get_or, drop}
use Rattle.eols.proofs.LineEnds.{width_at, cr_lf, cr_nel, cr_alone10, cr_alone11}
use Rattle.eols.proofs.cr_width.Goals as goal

pub returns-then-byte_at : goal.returns-then-byte_at
returns-then-byte_at c =
    let t = c.args.text.now in
    let i = c.args.i in
    width_at _ t i c.requires.i_in_bounds (cr_lf (get_or t i 0) (drop (i + 1) t) c.args.newer c.requires.i_value (sym c.byte_at.ensures ∙ c.if-byte_at.true))

pub returns-then-two_at : goal.returns-then-two_at
returns-then-two_at c =
    width_at _ c.args.text.now c.args.i c.requires.i_in_bounds
    (rw c.if-newer.true (cr_nel _ _ c.requires.i_value (sym c.byte_at.ensures ∙ c.if-byte_at.false) (sym c.two_at.ensures ∙ c.if-two_at.true)))

pub returns-else-two_at : goal.returns-else-two_at
returns-else-two_at c =
    width_at _ c.args.text.now c.args.i c.requires.i_in_bounds
    (rw c.if-newer.true (cr_alone11 _ _ c.requires.i_value (sym c.byte_at.ensures ∙ c.if-byte_at.false) (sym c.two_at.ensures ∙ c.if-two_at.false)))

pub returns-else-newer : goal.returns-else-newer
returns-else-newer c =
    width_at _ c.args.text.now c.args.i c.requires.i_in_bounds
    (rw c.if-newer.false (cr_alone10 _ _ c.requires.i_value (sym c.byte_at.ensures ∙ c.if-byte_at.false)))

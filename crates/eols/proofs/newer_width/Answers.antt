-- `newer_width`: a law for each return (`nel`, `not_nel`, `ls`, `not_ls`, `none11`), at an index by `width_at`.
use mathlib.Core.Path.{sym, ◌∙◌}
use Rattle.eols.proofs.LineEnds.{width_at, nel, not_nel, ls, not_ls, none11}
use Rattle.eols.proofs.newer_width.Goals as goal

pub returns-then-byte_at : goal.returns-then-byte_at
returns-then-byte_at c =
    width_at _ c.args.text.now c.args.i c.requires.i_in_bounds
    (nel _ _ c.requires.fact.0 c.requires.fact.1 c.if-text-i.true (sym c.byte_at.ensures ∙ c.if-byte_at.true))

pub returns-then-text-i : goal.returns-then-text-i
returns-then-text-i c =
    width_at _ c.args.text.now c.args.i c.requires.i_in_bounds
    (not_nel _ _ c.requires.fact.0 c.requires.fact.1 c.if-text-i.true (sym c.byte_at.ensures ∙ c.if-byte_at.false))

pub returns-then-two_at : goal.returns-then-two_at
returns-then-two_at c =
    width_at _ c.args.text.now c.args.i c.requires.i_in_bounds
    (ls _ _ c.requires.fact.0 c.requires.fact.1 c.if-text-i-2.true (sym c.two_at.ensures ∙ c.if-two_at.true))

pub returns-else-two_at : goal.returns-else-two_at
returns-else-two_at c =
    width_at _ c.args.text.now c.args.i c.requires.i_in_bounds
    (not_ls _ _ c.requires.fact.0 c.requires.fact.1 c.if-text-i-2.true (sym c.two_at.ensures ∙ c.if-two_at.false))

pub returns-else-text-i-2 : goal.returns-else-text-i-2
returns-else-text-i-2 c =
    width_at _ c.args.text.now c.args.i c.requires.i_in_bounds (none11 _ _ c.requires.fact.0 c.requires.fact.1 c.if-text-i.false c.if-text-i-2.false)

use native.Mathlib.Omega.{arith}
use Rattle.text.proofs.Blocks.{at_most_up}
use Rattle.text.proofs.validate.unfit.Goals as goal

pub any_misplaced2-requires : goal.any_misplaced2-requires
any_misplaced2-requires c =
    record { j_in_bounds = c.requires.j_in_bounds; edge = c.requires.edge; at_most = at_most_up _ _ _ c.args.top 0xDF c.requires.at_most (omega arith) }

pub returns-then-top-lt224 : goal.returns-then-top-lt224
returns-then-top-lt224 c = c.any_misplaced2.ensures

pub any_misplaced3-requires : goal.any_misplaced3-requires
any_misplaced3-requires c =
    record { j_in_bounds = c.requires.j_in_bounds; edge = c.requires.edge; at_most = at_most_up _ _ _ c.args.top 0xEF c.requires.at_most (omega arith) }

pub returns-then-top-lt240 : goal.returns-then-top-lt240
returns-then-top-lt240 c = c.any_misplaced3.ensures

pub any_misplaced-requires : goal.any_misplaced-requires
any_misplaced-requires c = c.requires.j_in_bounds

pub returns : goal.returns
returns c = c.any_misplaced.ensures

-- `offset_of` takes what is left from the place on off the whole, both counted after line ends.
use native.Mathlib.Omega.{arith}
use Rattle.table_declarations.proofs.Offsets.{whole_counts, rest_counts}
use Rattle.table_declarations.proofs.offset_of.Goals as goal

pub returns : goal.returns
returns c =
    let a = whole_counts c.args.newer c.args.text.now c.eols_length-whole.ensures in
    let b = rest_counts c.args.newer c.args.text.now c.args.at c.eols_length-rest.ensures in
    omega (arith, a, b, c.saturating_sub.ensures)

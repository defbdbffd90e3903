-- The form is laid whole where it fits (`writes_piece`), else nothing is (`writes_none`); its length is told either way.
use native.Mathlib.Omega.{arith}
use Rattle.eols.specs.Stops.{rule_for}
use Rattle.canonical.specs.Canonical.{canonical}
use Rattle.canonical.proofs.Canonical.{canonical_length}
use Rattle.flat.proofs.Writing.{writes_piece, writes_none, rest_room}
use Rattle.flat.proofs.write_value.Goals as goal

pub overflow_add-len : goal.overflow_add-len
overflow_add-len c =
    let a = c.args in
    omega (arith, c.canonical_length-n.ensures, (canonical_length (rule_for a.newer) a.value.now).1, c.requires)

pub write_canonical-requires : goal.write_canonical-requires
write_canonical-requires c =
    let a = c.args in
    rest_room a.len a.out.now (omega (arith, c.canonical_length-n.ensures, c.if-len-n.true))

pub returns-then-len-n : goal.returns-then-len-n
returns-then-len-n c =
    let a = c.args in
    writes_piece (canonical (rule_for a.newer) a.value.now) c.canonical_length-n.ensures c.if-len-n.true c.write_canonical.ensures.1

pub returns-else-len-n : goal.returns-else-len-n
returns-else-len-n c =
    let a = c.args in
    writes_none (canonical (rule_for a.newer) a.value.now) c.canonical_length-n.ensures c.if-len-n.false

-- The form is laid whole where it fits (`writes_piece`), else nothing is (`writes_none`); its length is told either way.
use native.Mathlib.Omega.{arith}
use Rattle.eols.specs.Stops.{rule_for}
use Rattle.canonical.specs.Canonical.{canonical}
use Rattle.canonical.proofs.Canonical.{canonical_length}
use Rattle.charref.specs.CharRef.{encode}
use Rattle.charref.proofs.Encoding.{encode_at_most}
use Rattle.flat.proofs.Writing.{writes_piece, writes_none, rest_room}
use Rattle.flat.proofs.write_char_form.Goals as goal

pub overflow_add-len : goal.overflow_add-len
overflow_add-len c =
    let a = c.args in
    omega (arith, c.char_length-n.ensures, (canonical_length (rule_for a.newer) (encode a.c)).1, encode_at_most a.c, c.requires)

pub write_char-requires : goal.write_char-requires
write_char-requires c =
    let a = c.args in
    record { c_bound = c.requires.0; c_in_bounds = rest_room a.len a.out.now (omega (arith, c.char_length-n.ensures, c.if-len-n.true)) }

pub returns-then-len-n : goal.returns-then-len-n
returns-then-len-n c =
    let a = c.args in
    writes_piece (canonical (rule_for a.newer) (encode a.c)) c.char_length-n.ensures c.if-len-n.true c.write_char.ensures.out_after

pub returns-else-len-n : goal.returns-else-len-n
returns-else-len-n c =
    let a = c.args in
    writes_none (canonical (rule_for a.newer) (encode a.c)) c.char_length-n.ensures c.if-len-n.false

use mathlib.Core.Path.{sym, ◌∙◌}
use native.Mathlib.Omega.{arith}
use Rattle.charref.specs.CharRef.{encode}
use Rattle.output.proofs.Clip.{over_fits, over_empty}
use Rattle.tokens.proofs.put_char.Goals as goal

pub encode_utf8-requires : goal.encode_utf8-requires
encode_utf8-requires c = (c.requires, omega (arith, c.utf8_length-n.ensures))

pub returns-then-n-out : goal.returns-then-n-out
returns-then-n-out c =
    let given = c.args in
    (c.encode_utf8.ensures.0, c.encode_utf8.ensures.1 ∙ sym (over_fits (encode given.c) given.out.now (omega (arith, c.utf8_length-n.ensures))))

pub returns-then-out-eq0 : goal.returns-then-out-eq0
returns-then-out-eq0 c =
    let given = c.args in
    (c.utf8_length-n.ensures, over_empty (encode given.c) given.out.now c.if-out-eq0.true)

-- The character's bytes are laid where they fit (`adds_piece`), else nothing is (`adds_none`); their number is told either way.
use native.Mathlib.Omega.{arith}
use Rattle.charref.specs.CharRef.{encode}
use Rattle.charref.proofs.Encoding.{encode_at_most}
use Rattle.memory.proofs.Fitted.{adds_piece, adds_none}
use Rattle.flat.proofs.write_wide.Goals as goal

pub overflow_add-len : goal.overflow_add-len
overflow_add-len c = omega (arith, c.utf8_length-size.ensures, encode_at_most c.args.c, c.requires)

pub returns-then-len-size : goal.returns-then-len-size
returns-then-len-size c = (
  c.utf8_length-size.ensures,
  adds_piece (encode c.args.c) (omega (arith, c.if-len-size.true, c.utf8_length-size.ensures)) c.encode_utf8.ensures.1,
)

pub returns-else-len-size : goal.returns-else-len-size
returns-else-len-size c =
    let a = c.args in
    (c.utf8_length-size.ensures, adds_none (encode a.c) a.len a.out.now (omega (arith, c.if-len-size.false, c.utf8_length-size.ensures)))

-- `is_intact`: the used length passes the buffer, or its bytes are looked at.
use mathlib.Core.Path.{sym}
use native.Mathlib.Omega.{arith}
use lib.Seq.{length-take-le}
use Rattle.registers.proofs.Answering.{intact_past, intact_at}
use Rattle.registers.proofs.is_intact.Goals as goal

pub returns-then-buffer-used : goal.returns-then-buffer-used
returns-then-buffer-used c = let a = c.args in intact_past a.buffer.now a.used (omega (arith, c.if-buffer-used.true))

pub slice_bounds-is_register-end : goal.slice_bounds-is_register-end
slice_bounds-is_register-end c =
    let a = c.args in
    sym (length-take-le a.used a.buffer.now c.if-buffer-used.false)

pub returns : goal.returns
returns c =
    let a = c.args in
    intact_at a.buffer.now a.used c.if-buffer-used.false c.is_register.ensures

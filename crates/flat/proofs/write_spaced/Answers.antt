-- The run is laid whole where it fits (`writes_piece`), else nothing is (`writes_none`); it is as long as it was (`spaced_length`).
use mathlib.Core.Path.{refl, sym}
use native.Mathlib.Omega.{arith}
use Rattle.halts.specs.Halts.{blanks_spaced}
use Rattle.halts.proofs.Spaces.{spaced_length}
use Rattle.flat.proofs.Writing.{writes_piece, writes_none}
use Rattle.flat.proofs.write_spaced.Goals as goal

pub returns-then-len-n : goal.returns-then-len-n
returns-then-len-n c =
    let a = c.args in
    record { writes = writes_piece (blanks_spaced a.run.now) (sym (spaced_length a.run.now)) c.if-len-n.true c.put_spaced.ensures; out_unchanged = λ h. absurd (omega (arith, h, c.if-len-n.true)) }

pub returns-else-len-n : goal.returns-else-len-n
returns-else-len-n c =
    let a = c.args in
    record { writes = writes_none (blanks_spaced a.run.now) (sym (spaced_length a.run.now)) c.if-len-n.false; out_unchanged = λ h. refl }

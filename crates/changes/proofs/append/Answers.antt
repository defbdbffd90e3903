-- `append`: a form that has no room is refused; else its entry lies past the used bytes (`append_leaves`).
use mathlib.Core.Path.{refl}
use native.Mathlib.Omega.{arith}
use lib.ListN.{take}
use Rattle.register.specs.Places.{entries_in}
use Rattle.changes.proofs.Leaves.{append_refuses, append_leaves}
use Rattle.changes.proofs.append.Goals as goal

pub returns-then-buffer-used-lt8 : goal.returns-then-buffer-used-lt8
returns-then-buffer-used-lt8 c =
    let buffer = c.args.buffer.now in
    append_refuses buffer c.args.used (entries_in (take c.args.used buffer)) c.requires.seated c.args.form.now refl c.requires.absent
    (omega (arith, c.if-buffer-used-lt8.true, c.requires.seated.within))

pub returns-then-buffer-used : goal.returns-then-buffer-used
returns-then-buffer-used c =
    let buffer = c.args.buffer.now in
    append_refuses buffer c.args.used (entries_in (take c.args.used buffer)) c.requires.seated c.args.form.now refl c.requires.absent
    (omega (arith, c.if-buffer-used.true, c.if-buffer-used-lt8.false, c.requires.seated.within))

pub returns : goal.returns
returns c =
    let buffer = c.args.buffer.now in
    append_leaves buffer c.args.used (entries_in (take c.args.used buffer)) c.requires.seated c.args.form.now refl (omega arith) c.requires.absent
    (omega (arith, c.if-buffer-used.false, c.if-buffer-used-lt8.false, c.requires.seated.within)) c.put_entry.ensures

-- `escape_by` meets its contract: there is room by the count or by six bytes for each byte. Assumes nothing.
use mathlib.Core.Path.{sym}
use mathlib.Core.Bool.{true≢false}
use Prim.Native.Nat.{◌≤◌}
use native.Mathlib.Omega.{arith}
use lib.ListN.{length}
use Rattle.output.proofs.Finish.{finish_short, finish_laid}
use Rattle.escape.specs.Escape.{write}
use Rattle.escape.specs.Scan.{chars_set}
use Rattle.escape.proofs.Write.{write_most}
use Rattle.escape.proofs.Levels.{chars_sized}
use Rattle.escape.proofs.escape_by.Goals as goal
use Rattle.escape.proofs.escape_by.Goals.{Joined-out-text, then-out-text+else-out-length, else-out-text}

pub returns-then-out-length : goal.returns-then-out-length
returns-then-out-length c =
    let given = c.args in
    finish_short (write (chars_set given.chars) given.text.now) 0 given.out.now c.escaped_length-length.ensures c.if-out-length.true

-- the text fits where it is written: it was counted, or there are six bytes for each of its bytes
fits : (c : Joined-out-text) → length (write (chars_set c.args.chars) c.args.text.now) ≤ length c.args.out.now
fits c =
    let given = c.args in
    let most = write_most (chars_set given.chars) (chars_sized given.chars) given.text.now in
    elim c.if-out-text.branch [ then-out-text+else-out-length w ↦ omega arith | else-out-text w ↦ omega (arith, most) ]

pub write_escaped-written-requires : goal.write_escaped-written-requires
write_escaped-written-requires c = record { shows = λ q. absurd (true≢false (sym q)); text_in_bounds = fits (goal.at.write_escaped-written-requires c).Joined-out-text }

pub returns : goal.returns
returns c =
    let given = c.args in
    finish_laid (write (chars_set given.chars) given.text.now) 0 given.out.now c.write_escaped-written.ensures.value (omega (arith, fits (goal.at.returns c).Joined-out-text, c.write_escaped-written.ensures.value)) c.write_escaped-written.ensures.out_after

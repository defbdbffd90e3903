-- `older_bytes`: the first suspect is answered, which under 1.0 is a halt (`older_at`). Assumes nothing.
use Rattle.std.proofs.Common.{◌≡◌, sym, ◌∙◌, length, arith}
use Rattle.halts.proofs.Smooth.{older_at}
use Rattle.halts.proofs.older_bytes.Goals as goal

pub returns-then-is_older : goal.returns-then-is_older
returns-then-is_older c = older_at c.loop-i.invariant (λ h. sym c.is_older.ensures ∙ c.if-is_older.true)

pub returns : goal.returns
returns c =
    let all : c.loop-i.i ≡ length c.args.text.now = omega arith in
    older_at (rw all at c.loop-i.invariant) (λ h. absurd (omega arith))

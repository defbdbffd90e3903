-- `remove`: what lies behind the entry is moved over it, and the bytes freed are zeros (`remove_leaves`).
use mathlib.Core.Path.{◌≡◌, refl, ◌∙◌}
use Prim.Native.Nat.{◌+◌, ◌-◌}
use native.Mathlib.Omega.{arith}
use lib.ListN.{take}
use borrow.Rule.Slice.PartMut.{mid_of}
use Rattle.register.specs.Stored.{u32_at}
use Rattle.register.specs.Places.{entries_in}
use Rattle.changes.proofs.Writing.{gap_laid}
use Rattle.changes.proofs.Leaves.{remove_leaves}
use Rattle.changes.proofs.remove.Goals as goal

pub returns : goal.returns
returns c form h s =
    let a = c.args in
    let buffer = a.buffer.now in
    let gap : c.end_at.result - a.at ≡ 8 + u32_at buffer a.at = omega (arith, c.end_at.ensures) in
    let moved = c.copy_within.ensures.after ∙ gap_laid (mid_of a.at (a.used - a.at) buffer) (c.end_at.result - a.at) in
    remove_leaves buffer a.used (entries_in (take a.used buffer)) h s gap refl moved (c.fill.ensures.after (λ y e. e))

-- `may_have_amp`: where no test hits, the parts tested are runs, and they cover the name (`plain_join`, `plain_part`).
use native.Mathlib.Omega.{arith}
use mathlib.Core.Path.{◌≡◌}
use Prim.Native.Nat.{◌+◌, ◌-◌}
use lib.ListN.{length}
use Rattle.output.proofs.Runs.{plain_join}
use Rattle.runs.proofs.Search.{plain_part}
use Rattle.name_ends.specs.OneByte.{is_byte}
use Rattle.name_ends.proofs.may_have_amp.Goals as goal

pub returns : goal.returns
returns c =
    let a = c.args in
    λ e.
    let n = length a.name.now in
    let q : n - 16 + 16 ≡ n = omega (arith, c.if-n-le16.false) in
    let last = rw q at (c.any_byte-2.ensures e) in
    plain_join (is_byte 38) a.name.now 0 c.blocks_without.result n c.blocks_without.ensures
    (plain_part last (omega (arith, c.if-n-blocks_without-ge16.false, c.blocks_without.ensures.to)) c.blocks_without.ensures.to (omega arith))

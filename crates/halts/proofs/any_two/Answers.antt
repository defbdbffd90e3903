-- `any_two`: each accumulator tells of its own byte (`looked_all`). Assumes nothing.
use Rattle.std.proofs.Common.{◌≡◌, ◌+◌, ◌-◌, take, drop, arith}
use Rattle.halts.proofs.Smooth.{looked_all}
use Rattle.halts.proofs.any_two.Goals as goal

pub returns : goal.returns
returns c =
    let s = c.args in
    let n : s.i + s.size - s.i ≡ s.size = omega arith in
    rw n at (looked_all (take (s.i + s.size - s.i) (drop s.i s.text.now)) s.a s.b c.loop-c-test.false c.loop-c.invariant)

-- `near_older`: the first k bytes are a run; the first suspect among 16 is a halt, and past them the search goes on by blocks. Assumes nothing.
use mathlib.Core.Path.{◌≡◌, sym, ◌∙◌}
use mathlib.Core.Bool.{false}
use native.Mathlib.Omega.{arith}
use Prim.Native.Nat.{◌+◌}
use Rattle.halts.specs.Halts.{suspect_byte}
use Rattle.halts.proofs.Smooth.{in_block_none, in_block_next, suspects_smooth, older_at, halt_join}
use Rattle.halts.proofs.near_older.Goals as goal

pub loop-k-init : goal.loop-k-init
loop-k-init c = in_block_none (suspect_byte false) c.args.text.now c.args.from c.requires

pub returns-then-is_older : goal.returns-then-is_older
returns-then-is_older c = older_at c.loop-k.invariant.run (λ h. sym c.is_older.ensures ∙ c.if-is_older.true)

pub loop-k-preserved : goal.loop-k-preserved
loop-k-preserved c =
    in_block_next (suspect_byte false) c.args.text.now c.args.from c.requires c.loop-k-test.true c.loop-k.invariant
    (sym c.is_older.ensures ∙ c.if-is_older.false)

pub returns : goal.returns
returns c =
    let all : c.loop-k.k ≡ 16 = omega (arith, c.loop-k.invariant.within, c.loop-k-test.false) in
    halt_join (c.args.from + 16) (suspects_smooth false (rw all at c.loop-k.invariant.run)) c.older_halt.ensures

-- `near_newer`: the first k bytes have no suspect. `&` and CR are halts; at a byte above ASCII, and past the 16, the search goes on by blocks.
-- Assumes nothing.
use mathlib.Core.Path.{◌≡◌, sym}
use mathlib.Core.Bool.{true}
use native.Mathlib.Omega.{arith}
use Prim.Native.Nat.{◌+◌}
use lib.ListN.{get_or}
use Rattle.halts.specs.Halts.{suspect_byte}
use Rattle.halts.proofs.Smooth.{in_block_none, in_block_next, suspects_smooth, halt_join, newer_amp_cr, ascii_unsuspected, middle_unsuspected}
use Rattle.halts.proofs.near_newer.Goals as goal
use Rattle.halts.proofs.near_newer.Goals.{then-b+else-b-2+else-b-gt127, else-b}

pub loop-k-init : goal.loop-k-init
loop-k-init c = in_block_none (suspect_byte true) c.args.text.now c.args.from c.requires

pub returns-then-b-2 : goal.returns-then-b-2
returns-then-b-2 c =
    let given = c.args in
    record {
      smooth = suspects_smooth true c.loop-k.invariant.run;
      ends = λ h. sym (newer_amp_cr given.text.now (given.from + c.loop-k.k) h c.if-b-2.true);
    }

pub returns-then-b-gt127 : goal.returns-then-b-gt127
returns-then-b-gt127 c =
    halt_join (c.args.from + c.loop-k.k) (suspects_smooth true c.loop-k.invariant.run) c.newer_halt.ensures

pub loop-k-preserved : goal.loop-k-preserved
loop-k-preserved c =
    let t = c.args.text.now in
    let b = get_or t (c.args.from + c.loop-k.k) 0 in
    in_block_next (suspect_byte true) t c.args.from c.requires c.loop-k-test.true c.loop-k.invariant
    (elim c.if-b.branch [
      | then-b+else-b-2+else-b-gt127 w ↦ ascii_unsuspected b w.if-b-2.false w.if-b-gt127.false
      | else-b w ↦ middle_unsuspected b w.if-b.false
    ])

pub returns : goal.returns
returns c =
    let all : c.loop-k.k ≡ 16 = omega (arith, c.loop-k.invariant.within, c.loop-k-test.false) in
    halt_join (c.args.from + 16) (suspects_smooth true (rw all at c.loop-k.invariant.run)) c.newer_halt-2.ensures

-- `put_to_amp`: what `put_wide` or the near bytes began with is a run, and the loop goes on with it block by block (`Blockwise`).
-- It ends at the `&` that is found in a block, or byte by byte (`blocks_rest`).
use Rattle.std.proofs.Common.{◌+◌, rules}
use Rattle.runs.specs.RunEnds.{is_amp}
use Rattle.runs.proofs.Blockwise.{Blocks, blocks_rest, blockwise_put, blockwise_laid}
use Rattle.runs.proofs.amp.put_to_amp.Goals as goal
use Rattle.runs.proofs.amp.put_to_amp.Goals.{At-loop-k, then-any_byte+in_default-put_near, else-any_byte}

-- what lies in the output in the loop
going : (c : At-loop-k) → Blocks is_amp c.args.text.now c.args.from c.args.out.now c.loop-k.out (c.args.from + c.loop-k.k) c.loop-k.k
going c = c.loop-k.invariant.blocks.goes c.args.out.now c.loop-k.invariant.begun

pub returns-in-Some-put_near : goal.returns-in-Some-put_near
returns-in-Some-put_near c = blocks_rest (going (goal.at.returns-in-Some-put_near c).At-loop-k) (search rules)

pub loop-k-preserved : goal.loop-k-preserved
loop-k-preserved c =
    let b = c.loop-k.invariant.blocks in
    record {
      begun = c.loop-k.invariant.begun;
      blocks =
          elim c.if-any_byte.branch [
            | then-any_byte+in_default-put_near w ↦
                let p = w.in_default-put_near.ensures.none in
                blockwise_put b 16 c.loop-k-test.true p.0 w.out-is p.1
            | else-any_byte w ↦ blockwise_laid b 16 c.loop-k-test.true (c.any_byte.ensures w.if-any_byte.false) w.out-is w.put_block.ensures
          ];
    }

pub returns : goal.returns
returns c = blocks_rest (going (goal.at.returns c).At-loop-k) c.put_bytes.ensures

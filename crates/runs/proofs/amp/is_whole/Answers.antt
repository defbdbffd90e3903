-- `is_whole`: the blocks passed are a run, and so is what follows them in the last block, which overlaps them.
use Rattle.std.proofs.Common.{rules, length, arith, ◌≡◌, false}
use Rattle.output.proofs.Runs.{plain_join}
use Rattle.runs.specs.RunEnds.{is_amp}
use Rattle.runs.proofs.Search.{plain_part}
use Rattle.runs.proofs.amp.is_whole.Goals as goal

pub returns : goal.returns
returns c =
    λ e.
    let text = c.args.text.now in
    let block = c.blocks_without-block.result in
    let before = plain_join is_amp text 0 c.blocks_without.result block c.blocks_without.ensures c.blocks_without-block.ensures in
    let none : c.any_byte.result ≡ false = search rules in
    plain_join is_amp text 0 block (length text) before
    (plain_part (c.any_byte.ensures none) (omega (arith, c.if-text-block-ge16.false)) before.to (omega (arith, c.if-text-lt16.false)))

-- `put_plain` meets its contract: a run of blocks, and the bytes that follow it.
use Rattle.output.proofs.Runs.{rest_room, copied_rest}
use Rattle.runs.proofs.lines.put_plain.Goals as goal

pub put_bytes-requires : goal.put_bytes-requires
put_bytes-requires c = rest_room _ _ _ c.put_blocks-near.ensures c.requires

pub returns : goal.returns
returns c = copied_rest _ _ _ c.put_blocks-near.ensures c.requires c.put_bytes.ensures

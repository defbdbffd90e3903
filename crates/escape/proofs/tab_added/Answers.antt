-- `tab_added` meets its contract: it is the definition. Assumes nothing.
use Rattle.std.proofs.Common.{rules}
use Rattle.escape.specs.Scan.{tab_added}
use Rattle.escape.proofs.tab_added.Goals as goal

pub returns : goal.returns
unfolding tab_added
returns c = search rules

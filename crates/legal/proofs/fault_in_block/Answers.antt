-- `fault_in_block`: no fault is likely in the block, or each byte is asked. Assumes nothing.
use Rattle.legal.specs.FirstFault.{faults_by}
use Rattle.legal.proofs.Clean.{first_over}
use Rattle.legal.proofs.fault_in_block.Goals as goal

pub returns-then-not-any_likely : goal.returns-then-not-any_likely
returns-then-not-any_likely c =
    let given = c.args in
    first_over (faults_by given.rule) given.text.now (c.any_likely.ensures c.if-not-any_likely.true given.rule)

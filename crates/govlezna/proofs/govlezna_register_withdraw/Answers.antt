-- `govlezna_register_withdraw`: what `withdraw` answers, stored (`stored`): the used length first, then words and number.
use Rattle.text.specs.Call.{answered}
use Rattle.registers.proofs.Storing.{stored}
use Rattle.govlezna.proofs.govlezna_register_withdraw.Goals as goal

pub returns : goal.returns
returns c =
    stored (answered c.withdraw-withdrawn.result) c.args.used.now c.put.ensures c.used_after.ensures c.withdraw-withdrawn.ensures

use Rattle.tokens.proofs.Quick.{started}
use Rattle.tokens.proofs.quick_reference.Goals as goal

pub returns-then-text-from-eq35 : goal.returns-then-text-from-eq35
returns-then-text-from-eq35 c =
    started c.args.text.now c.args.from c.quick_number.result c.if-from-text.true c.if-text-from-eq35.true c.quick_number.ensures

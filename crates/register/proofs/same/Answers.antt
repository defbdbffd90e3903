-- `same`: other lengths are other forms; else the bytes decide.
use Rattle.register.proofs.Comparing.{differ_length}
use Rattle.register.proofs.same.Goals as goal

pub returns-then-a-b : goal.returns-then-a-b
returns-then-a-b c = let a = c.args in differ_length a.a.now a.b.now c.if-a-b.true

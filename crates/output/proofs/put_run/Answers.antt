-- `put_run` keeps: the first k bytes of the run are laid over the output.
use Rattle.std.proofs.Common.{List, ℕ, set, get_or, ap, ◌∙◌, arith}
use Rattle.std.proofs.Math.Seq.{take_all}
use Rattle.text.specs.Call.{laid}
use Rattle.output.proofs.Laid.{laid_next}
use Rattle.output.proofs.put_run.Goals as goal

pub loop-k-preserved : goal.loop-k-preserved
loop-k-preserved c =
    let src = c.args.src.now in
    let k = c.loop-k.k in
    ap (λ (o : List ℕ). set o k (get_or src k 0)) c.loop-k.invariant ∙ laid_next src c.args.out.now k (omega arith) (omega arith)

pub returns : goal.returns
returns c = c.loop-k.invariant ∙ ap (λ (s : List ℕ). laid s c.args.out.now) (take_all c.loop-k.k c.args.src.now (omega arith))

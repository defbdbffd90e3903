-- `put_few` keeps: the first k bytes of the run, or all of it where it is shorter, are laid over the output.
use Rattle.std.proofs.Common.{ℕ, ◌+◌, List, set, get_or, sym, ap, ◌∙◌, arith}
use Rattle.std.proofs.Math.Seq.{take_all}
use Rattle.text.specs.Call.{laid}
use Rattle.output.proofs.Laid.{laid_next}
use Rattle.output.proofs.put_few.Goals as goal
use Rattle.output.proofs.put_few.Goals.{then-k-n, else-k-n}

pub loop-k-preserved : goal.loop-k-preserved
loop-k-preserved c =
    let src = c.args.src.now in
    let old = c.args.out.now in
    let k = c.loop-k.k in
    elim c.if-k-n.branch [
      | then-k-n w ↦ w.out-is ∙ ap (λ (o : List ℕ). set o k (get_or src k 0)) c.loop-k.invariant ∙ laid_next src old k (omega arith) (omega arith)
      | else-k-n w ↦ w.out-is ∙ c.loop-k.invariant ∙ ap (λ (s : List ℕ). laid s old) (take_all k src (omega arith) ∙ sym (take_all (k + 1) src (omega arith)))
    ]

pub returns : goal.returns
returns c = c.loop-k.invariant ∙ ap (λ (s : List ℕ). laid s c.args.out.now) (take_all c.loop-k.k c.args.src.now (omega arith))

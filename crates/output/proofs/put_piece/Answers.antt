-- `put_piece` copies the run to the block, whose front is then the run (`laid_front`), and from there to the output.
use mathlib.Core.Path.{sym, ap, ◌∙◌}
use mathlib.Core.List.{List}
use Prim.Native.Nat.{ℕ}
use lib.ListN.{length}
use Rattle.text.specs.Call.{laid}
use Rattle.output.proofs.Laid.{laid_front}
use Rattle.output.proofs.put_piece.Goals as goal

pub slice_bounds-put_run-end-2 : goal.slice_bounds-put_run-end-2
slice_bounds-put_run-end-2 c = ap length (sym (laid_front c.args.src.now _ c.put_run.ensures))

pub put_run-requires-2 : goal.put_run-requires-2
put_run-requires-2 c =
    rw (laid_front c.args.src.now _ c.put_run.ensures) c.requires.1

pub returns : goal.returns
returns c =
    let given = c.args in
    let front = laid_front given.src.now _ c.put_run.ensures in
    c.put_run-2.ensures ∙ ap (λ (l : List ℕ). laid l given.out.now) front

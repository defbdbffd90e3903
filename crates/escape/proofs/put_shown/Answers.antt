-- `put_shown` meets its contract: either copy is that of 16 bytes. Assumes nothing.
use mathlib.Core.Path.{sym, ap, ◌∙◌}
use mathlib.Core.Bool.{Bool}
use Rattle.text.specs.Call.{laid}
use Rattle.escape.specs.Scan.{shown}
use Rattle.escape.proofs.put_shown.Goals as goal

pub returns-then-spaces : goal.returns-then-spaces
returns-then-spaces c =
    let given = c.args in
    c.put_spaced_block.ensures
    ∙ sym (ap (λ (s : Bool). laid (shown s given.src.now) given.out.now) c.if-spaces.true)

pub returns : goal.returns
returns c =
    let given = c.args in
    c.put_block.ensures
    ∙ sym (ap (λ (s : Bool). laid (shown s given.src.now) given.out.now) c.if-spaces.false)

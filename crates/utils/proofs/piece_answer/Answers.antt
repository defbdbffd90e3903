-- `utils::piece_answer` gives document 01's number and values. Assumes nothing.
use mathlib.Core.Path.{sym, ap, ◌∙◌}
use borrow.Author.Rules.{rules}
use Rattle.std.proofs.Common.{◌≡◌, Err}
use Rattle.text.specs.Call.{answered}
use Rattle.utils.specs.CData.{piece_answer}
use Rattle.utils.proofs.piece_answer.Goals as goal

pub returns-in_err-part : goal.returns-in_err-part
unfolding piece_answer
returns-in_err-part c =
    let handed : c.from_residual.result ≡ Err c.in_err-part.field-0.0 = search rules in
    ap answered handed ∙ sym (ap piece_answer c.in_err-part.was)

pub returns : goal.returns
unfolding piece_answer
returns c = sym (ap piece_answer c.in_ok-part.was)

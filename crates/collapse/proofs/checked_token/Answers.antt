-- `checked_token` leaves what its checks refuse beside the old offset, or else the answer of the token beside the new one.
use mathlib.Core.Path.{ap, sym, ◌∙◌}
use Rattle.text.specs.Call.{answered}
use Rattle.collapse.specs.Checked.{moved}
use Rattle.collapse.proofs.NextToken.{token_halts, token_passes}
use Rattle.collapse.proofs.checked_token.Goals as goal

pub returns-in-Err : goal.returns-in-Err
returns-in-Err c =
    let told = ap answered c.in-Err.is in
    ap (λ r. moved r c.args.offset) (sym told) ∙ token_halts _ _ c.check_text.ensures told

pub returns : goal.returns
returns c = token_passes _ _ c.check_text.ensures (ap answered c.in_default.is) c.next_token-token.ensures c.piece_answer.ensures

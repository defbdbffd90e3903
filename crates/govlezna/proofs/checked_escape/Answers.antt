-- `checked_escape`: a text that the checks let pass is no longer than 16,777,216 bytes.
use mathlib.Core.Path.{ap, sym, ◌∙◌}
use mathlib.Core.List.{[], ◌∷◌}
use borrow.Author.Rules.{rules}
use Rattle.std.proofs.Common.{◌≡◌, Err}
use Rattle.text.specs.Call.{answered}
use Rattle.text.proofs.Call.{passes, checked_length}
use Rattle.govlezna.specs.Calls.{escape_call}
use Rattle.govlezna.proofs.Passing.{refuses}
use Rattle.govlezna.proofs.checked_escape.Goals as goal

pub escape-requires : goal.escape-requires
escape-requires c = checked_length c.args.text.now _ (sym c.check_escape.ensures ∙ ap answered c.in_ok-check_escape.was)

pub returns-in_err-check_escape : goal.returns-in_err-check_escape
unfolding escape_call
returns-in_err-check_escape c =
    let handed : c.from_residual.result ≡ Err c.in_err-check_escape.field-0.0 = search rules in
    refuses (c.args.out.now ∷ []) _ c.check_escape.ensures c.in_err-check_escape.was handed

pub returns : goal.returns
unfolding escape_call
returns c = c.escape.ensures ∙ passes (c.args.out.now ∷ []) _ c.check_escape.ensures (ap answered c.in_ok-check_escape.was)

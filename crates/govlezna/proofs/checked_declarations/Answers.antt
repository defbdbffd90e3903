-- `checked_declarations`: a text that the checks let pass is no longer than 16,777,216 bytes.
use mathlib.Core.Path.{ap, sym, ◌∙◌}
use mathlib.Core.List.{[], ◌∷◌}
use borrow.Author.Rules.{rules}
use Rattle.std.proofs.Common.{◌≡◌, Err}
use Rattle.text.specs.Call.{answered}
use Rattle.text.proofs.Call.{passes, checked_length}
use Rattle.govlezna.specs.Calls.{read_declarations_call}
use Rattle.govlezna.proofs.Passing.{refuses}
use Rattle.govlezna.proofs.checked_declarations.Goals as goal

pub read_declarations-requires : goal.read_declarations-requires
read_declarations-requires c = checked_length c.args.text.now _ (sym c.check_eols.ensures ∙ ap answered c.in_ok-check_eols.was)

pub returns-in_err-check_eols : goal.returns-in_err-check_eols
unfolding read_declarations_call
returns-in_err-check_eols c =
    let handed : c.from_residual.result ≡ Err c.in_err-check_eols.field-0.0 = search rules in
    refuses (c.args.list.now ∷ c.args.pool.now ∷ []) _ c.check_eols.ensures c.in_err-check_eols.was handed

pub returns : goal.returns
unfolding read_declarations_call
returns c = c.read_declarations.ensures ∙ passes (c.args.list.now ∷ c.args.pool.now ∷ []) _ c.check_eols.ensures (ap answered c.in_ok-check_eols.was)

-- `checked_eols` hands on what its checks refuse, and else does as `normalize_eols`.
use mathlib.Core.Path.{ap, ◌∙◌}
use mathlib.Core.List.{[], ◌∷◌}
use borrow.Author.Rules.{rules}
use Rattle.std.proofs.Common.{◌≡◌, Err}
use Rattle.text.specs.Call.{answered}
use Rattle.text.proofs.Call.{passes}
use Rattle.govlezna.specs.Calls.{normalize_eols_call}
use Rattle.govlezna.proofs.Passing.{refuses}
use Rattle.govlezna.proofs.checked_eols.Goals as goal

pub returns-in_err-check_eols : goal.returns-in_err-check_eols
unfolding normalize_eols_call
returns-in_err-check_eols c =
    let handed : c.from_residual.result ≡ Err c.in_err-check_eols.field-0.0 = search rules in
    refuses (c.args.out.now ∷ []) _ c.check_eols.ensures c.in_err-check_eols.was handed

pub returns : goal.returns
unfolding normalize_eols_call
returns c = c.normalize_eols.ensures ∙ passes (c.args.out.now ∷ []) _ c.check_eols.ensures (ap answered c.in_ok-check_eols.was)

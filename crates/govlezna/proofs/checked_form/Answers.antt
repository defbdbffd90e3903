-- `checked_form`: nothing is known of the text before the checks, so `check_walk` is told that it is not simple.
use mathlib.Core.Path.{ap, sym, ◌∙◌}
use mathlib.Core.List.{[], ◌∷◌}
use borrow.Author.Rules.{rules}
use Rattle.std.proofs.Common.{◌≡◌, Err}
use mathlib.Core.Bool.{true≢false}
use Rattle.text.specs.Call.{answered}
use Rattle.text.proofs.Call.{passes}
use Rattle.govlezna.proofs.Passing.{refuses, passed_walk}
use Rattle.govlezna.proofs.checked_form.Goals as goal

pub check_walk-requires : goal.check_walk-requires
check_walk-requires o c = λ q. absurd (true≢false (sym q))

pub canonical_form-requires : goal.canonical_form-requires
canonical_form-requires o c =
    let a = c.args in
    let passed = passed_walk a.text.now a.version a.depth a.limit a.list.now a.pool.now c.check_walk.ensures (ap answered c.in_ok-check_walk.was) in
    record { valid_table = passed.0; text_len_bound = passed.1.0; limit_bound = passed.1.1.0; well_formed = passed.1.1.1 }

pub returns-in_err-check_walk : goal.returns-in_err-check_walk
returns-in_err-check_walk o c =
    let handed : c.from_residual.result ≡ Err c.in_err-check_walk.field-0.0 = search rules in
    refuses (c.args.scratch.now ∷ c.args.out.now ∷ []) _ c.check_walk.ensures c.in_err-check_walk.was handed

pub returns : goal.returns
returns o c = c.canonical_form.ensures ∙ passes (c.args.scratch.now ∷ c.args.out.now ∷ []) _ c.check_walk.ensures (ap answered c.in_ok-check_walk.was)

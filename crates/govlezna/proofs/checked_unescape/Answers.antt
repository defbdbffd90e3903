-- `checked_unescape`: what the checks let pass is a text of bounded length and a valid table.
use mathlib.Core.Path.{ap, ◌∙◌}
use mathlib.Core.List.{[], ◌∷◌}
use borrow.Author.Rules.{rules}
use Rattle.std.proofs.Common.{◌≡◌, Err}
use Rattle.text.specs.Answers.{Answer}
use Rattle.text.specs.Call.{answered, and_then, text_check, utf8_check}
use Rattle.text.proofs.Call.{passes}
use Rattle.entity.specs.Table.{table_check}
use Rattle.govlezna.specs.Calls.{unescape_call}
use Rattle.govlezna.proofs.Passing.{refuses, passed_length, passed_table}
use Rattle.govlezna.proofs.checked_unescape.Goals as goal
use Rattle.govlezna.proofs.checked_unescape.Goals.{After-check_with_table}

checked : (c : After-check_with_table) → answered c.check_with_table.result ≡ and_then (text_check c.args.text.now) (table_check c.args.list.now c.args.pool.now)
checked c =
    let a = c.args in
    c.check_with_table.ensures ∙ ap (λ (x : Answer). and_then x (table_check a.list.now a.pool.now)) c.check_text.ensures

pub returns-in_err-check_with_table : goal.returns-in_err-check_with_table
unfolding unescape_call
returns-in_err-check_with_table c =
    let handed : c.from_residual.result ≡ Err c.in_err-check_with_table.field-0.0 = search rules in
    refuses (c.args.out.now ∷ []) _ (checked (goal.at.returns-in_err-check_with_table c).After-check_with_table) c.in_err-check_with_table.was handed

pub unescape_with-requires : goal.unescape_with-requires
unescape_with-requires c =
    let a = c.args in
    let asked = checked (goal.at.unescape_with-requires c).After-check_with_table in
    let passed = ap answered c.in_ok-check_with_table.was in
    record {
      text_len_bound = passed_length a.text.now a.list.now a.pool.now (utf8_check a.text.now) asked passed;
      valid_table = passed_table a.text.now a.list.now a.pool.now (utf8_check a.text.now) asked passed;
    }

pub returns : goal.returns
unfolding unescape_call
returns c =
    c.unescape_with.ensures ∙ passes (c.args.out.now ∷ []) _ (checked (goal.at.returns c).After-check_with_table) (ap answered c.in_ok-check_with_table.was)

-- `checked_least`: the check and the search are both told whether the text is simple.
use mathlib.Core.Path.{ap, ◌∙◌}
use mathlib.Core.List.{[]}
use borrow.Author.Rules.{rules}
use Rattle.std.proofs.Common.{◌≡◌, Err}
use Rattle.text.specs.Answers.{Answer}
use Rattle.text.specs.Call.{answered, call_of}
use Rattle.text.proofs.Call.{passes}
use Rattle.govlezna.specs.Calls.{least_depth_call}
use Rattle.govlezna.proofs.Passing.{refuses, passed_walk}
use Rattle.govlezna.proofs.checked_least.Goals as goal

pub least_of-requires : goal.least_of-requires
least_of-requires c =
    let a = c.args in
    let passed = passed_walk a.text.now a.version 128 a.limit a.list.now a.pool.now c.check_walk.ensures (ap answered c.in_ok-check_walk.was) in
    record { simple = c.is_simple-simple.ensures; valid_table = passed.0; text_len_bound = passed.1.0; limit_bound = passed.1.1.0; well_formed = passed.1.1.1 }

pub returns-in_err-check_walk : goal.returns-in_err-check_walk
unfolding least_depth_call
returns-in_err-check_walk c =
    let handed : c.from_residual.result ≡ Err c.in_err-check_walk.field-0.0 = search rules in
    refuses [] _ c.check_walk.ensures c.in_err-check_walk.was handed

pub returns : goal.returns
unfolding least_depth_call
returns c = ap (λ (x : Answer). call_of x []) c.least_of.ensures ∙ passes [] _ c.check_walk.ensures (ap answered c.in_ok-check_walk.was)

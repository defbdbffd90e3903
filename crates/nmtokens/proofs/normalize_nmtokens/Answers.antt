-- `normalize_nmtokens` is refused as the walk into the scratch is; else the scratch holds the value, and the second stage goes to the output.
use mathlib.Core.Path.{sym, ap, subst, ◌∙◌}
use mathlib.Core.List.{List}
use Prim.Native.Nat.{ℕ}
use native.Mathlib.Omega.{arith}
use lib.Seq.{length-take-le}
use borrow.Author.Rules.{rules}
use Rattle.std.proofs.Common.{◌≡◌, Err}
use Rattle.text.specs.Call.{answered}
use Rattle.tokens.specs.Outcome.{Outcome}
use Rattle.tokens.specs.Walking.{Ended}
use Rattle.normalize.specs.Calls.{outcome_for}
use Rattle.normalize.proofs.Texts.{ended_same, shown_plain}
use Rattle.nmtokens.proofs.Filled.{Filled, filled, collapsed_refused, collapsed_written}
use Rattle.nmtokens.proofs.normalize_nmtokens.Goals as goal
use Rattle.nmtokens.proofs.normalize_nmtokens.Goals.{After-normalized, In_ok-filled}

abbrev outcome : After-normalized → Outcome
outcome c =
    let a = c.args in
    outcome_for a.wanted a.list.now a.pool.now a.text.now

-- the scratch after the walk
abbrev scratch_left : After-normalized → List ℕ
scratch_left c = c.normalized.new.out

-- the value itself is written
as_is : (c : After-normalized) → Ended 18 (outcome c) c.args.scratch.now (scratch_left c) (answered c.normalized.result)
as_is c = ended_same 18 c.args.scratch.now (sym (shown_plain (outcome c))) c.normalized.ensures

-- the scratch holds the value
value_filled : (c : In_ok-filled) → Filled (outcome_for c.args.wanted c.args.list.now c.args.pool.now c.args.text.now) c.args.scratch.now c.normalized.new.out c.in_ok-filled.filled.first c.in_ok-filled.filled.second
value_filled c =
    let a = c.args in
    let value = outcome_for a.wanted a.list.now a.pool.now a.text.now in
    filled value a.scratch.now c.normalized.new.out (ended_same 18 a.scratch.now (sym (shown_plain value)) c.normalized.ensures) (ap answered c.in_ok-filled.was)

pub returns-in_err-filled : goal.returns-in_err-filled
returns-in_err-filled c =
    let a = c.args in
    let walked = (goal.at.returns-in_err-filled c).After-normalized in
    let handed : c.from_residual.result ≡ Err c.in_err-filled.field-0.0 = search rules in
    collapsed_refused (outcome walked) a.scratch.now a.out.now (scratch_left walked)
    (subst (λ r. Ended 18 (outcome walked) a.scratch.now (scratch_left walked) (answered r)) (c.in_err-filled.was ∙ sym handed) (as_is walked))
    (ap answered handed)

pub slice_bounds-collapse_into-end : goal.slice_bounds-collapse_into-end
slice_bounds-collapse_into-end c =
    let f = value_filled (goal.at.slice_bounds-collapse_into-end c).In_ok-filled in
    omega (arith, f.size, f.room, c.normalized.auto.out)

pub slice_bounds-collapse_into-end-2 : goal.slice_bounds-collapse_into-end-2
slice_bounds-collapse_into-end-2 c =
    let f = value_filled (goal.at.slice_bounds-collapse_into-end-2 c).In_ok-filled in
    sym (length-take-le c.in_ok-filled.filled.first (scratch_left (goal.at.slice_bounds-collapse_into-end-2 c).After-normalized) (omega (arith, f.size, f.room, c.normalized.auto.out)))

pub returns : goal.returns
returns c =
    collapsed_written (value_filled (goal.at.returns c).In_ok-filled) c.args.out.now c.collapse_into.new.out (answered c.collapse_into.result)
    c.collapse_into.ensures

-- `unescape_with`: a text without `&` is its own value (`own_value`), a long one goes to `unescape_by_length`. A short one is counted with its
-- value held, as far as that has room: it is refused, has no room in the output, is copied from there, or is walked again.
use lib.Seq.{length-take-le}
use mathlib.Core.Path.{◌≡◌, sym, ap, ◌∙◌}
use mathlib.Core.List.{List, [], ◌∷◌}
use borrow.Author.Rules.{rules}
use Rattle.std.specs.Prelude.{Err}
use Rattle.text.specs.Call.{answered, call_of}
use Rattle.text.specs.Answers.{Answer}
use Rattle.tokens.specs.Outcome.{Outcome, done, finished}
use Rattle.tokens.proofs.Finished.{ended_call, ended_refused, ended_short, ended_written, ended_held}
use Rattle.unescape.specs.Unescape.{unescape}
use Rattle.unescape.proofs.Turns.{own_value}
use Prim.Native.Nat.{ℕ}
use Rattle.entity.specs.Binding.{Bound, binding}
use native.Mathlib.Omega.{arith}
use Rattle.unescape.proofs.unescape_with.Goals as goal
use Rattle.unescape.proofs.unescape_with.Goals.{Start}

-- the names' bindings
abbrev bound : Start → List ℕ → Bound
bound s = binding s.args.list.now s.args.pool.now

pub returns-then-is_whole : goal.returns-then-is_whole
returns-then-is_whole c =
    let given = c.args in
    ended_call (done given.text.now 0) given.out.now c.copied_whole.ensures
    ∙ ap (λ (o : Outcome). finished o given.out.now)
    (sym (own_value (bound (goal.at.returns-then-is_whole c).Start) given.text.now (c.is_whole.ensures c.if-is_whole.true)))

pub returns-in_err-counted : goal.returns-in_err-counted
returns-in_err-counted c =
    let given = c.args in
    let o = unescape (bound (goal.at.returns-in_err-counted c).Start) given.text.now in
    let handed : c.from_residual.result ≡ Err c.in_err-counted.field-0.0 = search rules in
    ap (λ (a : Answer). call_of a (given.out.now ∷ [])) (ap answered (handed ∙ sym c.in_err-counted.was))
    ∙ ended_call o given.out.now (ended_refused 19 o given.out.now (ap answered c.in_err-counted.was) c.unescape_runs.ensures)

pub returns-then-out-len : goal.returns-then-out-len
returns-then-out-len c =
    let given = c.args in
    let o = unescape (bound (goal.at.returns-then-out-len c).Start) given.text.now in
    ended_call o given.out.now
    (ended_short 19 o given.out.now (ap answered c.in_ok-counted.was) c.unescape_runs.ensures
    (omega (arith, c.if-out-len.true)))

pub slice_bounds-put_run-end : goal.slice_bounds-put_run-end
slice_bounds-put_run-end c =
    sym (length-take-le c.in_ok-counted.counted.first c.unescape_runs.new.out (omega (arith, c.if-len-le128.true, c.unescape_runs.auto.out)))

pub put_run-requires : goal.put_run-requires
put_run-requires c =
    rw (length-take-le c.in_ok-counted.counted.first c.unescape_runs.new.out
    (omega (arith, c.if-len-le128.true, c.unescape_runs.auto.out))) (omega (arith, c.if-out-len.false))

pub returns-then-len-le128 : goal.returns-then-len-le128
returns-then-len-le128 c =
    let given = c.args in
    let o = unescape (bound (goal.at.returns-then-len-le128 c).Start) given.text.now in
    ap (λ (a : Answer). call_of a (c.put_run.new.out ∷ [])) (sym (ap answered c.in_ok-counted.was))
    ∙ ended_call o given.out.now
    (ended_held 19 o given.out.now (ap answered c.in_ok-counted.was) c.unescape_runs.ensures (omega (arith, c.if-len-le128.true))
    (omega (arith, c.if-out-len.false)) c.put_run.ensures)

pub returns : goal.returns
returns c =
    let given = c.args in
    let o = unescape (bound (goal.at.returns c).Start) given.text.now in
    ended_call o given.out.now
    (ended_written 19 o given.out.now (ap answered c.in_ok-counted.was) c.unescape_runs.ensures
    (omega (arith, c.if-out-len.false)) c.unescape_runs-2.ensures)

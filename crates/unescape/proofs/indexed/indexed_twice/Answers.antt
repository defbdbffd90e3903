-- `indexed_twice`: a walk that is lent no output counts, and leaves the output (`counted_none`); a second one writes.
use native.Mathlib.Omega.{arith}
use mathlib.Core.Path.{◌≡◌, subst, ap, sym, ◌∙◌}
use mathlib.Core.List.{List, [], ◌∷◌}
use Prim.Native.Nat.{ℕ}
use lib.ListN.{length}
use borrow.Author.Rules.{rules}
use Rattle.std.specs.Prelude.{Err}
use Rattle.text.specs.Call.{answered, call_of}
use Rattle.text.specs.Answers.{Refused}
use Rattle.entity.specs.Binding.{Bound, binding}
use Rattle.tokens.specs.Walking.{Walked}
use Rattle.tokens.proofs.Finished.{ended_call, ended_refused, ended_short, ended_written}
use Rattle.unescape.specs.Unescape.{unescape}
use Rattle.unescape.proofs.Turns.{counted_none}
use Rattle.unescape.proofs.indexed.indexed_twice.Goals as goal
use Rattle.unescape.proofs.indexed.indexed_twice.Goals.{Start}

-- the names' bindings
abbrev bound : Start → List ℕ → Bound
bound s = binding s.args.list.now s.args.pool.now

pub returns-in_err-counted : goal.returns-in_err-counted
returns-in_err-counted c =
    let given = c.args in
    let o = unescape (bound (goal.at.returns-in_err-counted c).Start) given.text.now in
    let handed : c.from_residual.result ≡ Err c.in_err-counted.field-0.0 = search rules in
    rw (ap answered (handed ∙ sym c.in_err-counted.was))
    (ap (λ (l : List ℕ). call_of (answered c.indexed_runs.result) (l ∷ [])) (counted_none {o = o} given.out.now c.indexed_runs.ensures.walked)
    ∙ ended_call o given.out.now (ended_refused 19 o given.out.now (ap answered c.in_err-counted.was) c.indexed_runs.ensures.walked))

pub returns-then-out-needed : goal.returns-then-out-needed
returns-then-out-needed c =
    let given = c.args in
    let o = unescape (bound (goal.at.returns-then-out-needed c).Start) given.text.now in
    let q = counted_none {o = o} given.out.now c.indexed_runs.ensures.walked in
    ap (λ (l : List ℕ). call_of (Refused 19 c.in_ok-counted.counted.first 0) (l ∷ [])) q
    ∙ ended_call o given.out.now (ended_short 19 o given.out.now (ap answered c.in_ok-counted.was) c.indexed_runs.ensures.walked (omega (arith, c.if-out-needed.true, ap length q)))

pub returns : goal.returns
returns c =
    let given = c.args in
    let o = unescape (bound (goal.at.returns c).Start) given.text.now in
    let q = counted_none {o = o} given.out.now c.indexed_runs.ensures.walked in
    ended_call o given.out.now
    (ended_written 19 o given.out.now (ap answered c.in_ok-counted.was) c.indexed_runs.ensures.walked (omega (arith, c.if-out-needed.false, ap length q))
    (subst (λ (l : List ℕ). Walked o l c.indexed_runs-2.new.out (answered c.indexed_runs-2.result)) q c.indexed_runs-2.ensures.walked))

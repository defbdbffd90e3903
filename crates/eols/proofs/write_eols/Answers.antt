-- `write_eols`: at each turn what is written of the first i bytes lies in the output (`Written`), then the run that is copied (`put`), then
-- a byte. The loop starts behind the run that `put_wide` has copied.
use mathlib.Core.List.{List}
use Prim.Native.Nat.{ℕ, ◌+◌, ◌-◌, ◌≤◌}
use native.Mathlib.Omega.{arith}
use lib.ListN.{length, drop}
use borrow.Rule.Slice.PartMut.{put_mid}
use Rattle.runs.specs.RunEnds.{line_stop}
use Rattle.eols.specs.LineEnds.{eols_from, eols}
use Rattle.eols.specs.Stops.{rule_for}
use Rattle.eols.proofs.Writing.{eols_over, start_room, start_written}
use Rattle.eols.proofs.LineEnds.{plain_run_lem}
use Rattle.output.proofs.Writers.{rest_room, rest_run, run_written}
use Rattle.output.proofs.Written.{Written, written_as, written_byte, written_all, written_end, to_come, same_length as same, byte_room}
use Rattle.eols.proofs.write_eols.Goals as goal
use Rattle.eols.proofs.write_eols.Goals.{After-put_plain-count}

-- what is to be written, from an index on
abbrev rest : After-put_plain-count → ℕ → List ℕ
rest c i = eols_from (rule_for c.args.newer) 0 (drop i c.args.text.now)

-- where the run ends, and what lies in the output then
abbrev end : After-put_plain-count → ℕ
end c = c.loop-i.i + c.put_plain-count.result

abbrev held : After-put_plain-count → List ℕ
held c = put_mid c.loop-i.at (length c.loop-i.out - c.loop-i.at) c.loop-i.out c.put_plain-count.new.out

put : (c : After-put_plain-count) → Written (eols (rule_for c.args.newer) c.args.text.now) (rest c (end c)) c.args.out.now (held c) (c.loop-i.at + c.put_plain-count.result)
put c =
    let a = c.args in
    run_written (line_stop a.newer) (eols_from (rule_for a.newer) 0) (plain_run_lem a.newer) a.text.now c.loop-i.i c.loop-i.invariant.written c.loop-i.invariant.inside c.put_plain-count.ensures

inside : (c : After-put_plain-count) → end c ≤ length c.args.text.now
inside c =
    let a = c.args in
    (rest_run (line_stop a.newer) (eols_from (rule_for a.newer) 0) (plain_run_lem a.newer) a.text.now c.loop-i.i c.loop-i.invariant.written c.loop-i.invariant.inside c.put_plain-count.ensures).to

pub put_wide-start-requires : goal.put_wide-start-requires
put_wide-start-requires c =
    start_room c.args.newer c.args.text.now c.args.out.now c.requires

pub loop-i-init : goal.loop-i-init
loop-i-init c =
    record { inside = c.put_wide-start.ensures.run.to; written = start_written c.args.newer c.args.text.now c.put_wide-start.ensures }

pub slice_bounds-put_plain-count : goal.slice_bounds-put_plain-count
slice_bounds-put_plain-count c = c.loop-i.invariant.inside

pub slice_bounds-put_plain-start : goal.slice_bounds-put_plain-start
slice_bounds-put_plain-start c = c.loop-i.invariant.inside

pub slice_bounds-put_plain-count-in-loop-i : goal.slice_bounds-put_plain-count-in-loop-i
slice_bounds-put_plain-count-in-loop-i c =
    omega (arith, to_come c.loop-i.invariant.written, same c.loop-i.invariant.written c.requires, c.requires)

pub slice_bounds-put_plain-start-in-loop-i : goal.slice_bounds-put_plain-start-in-loop-i
slice_bounds-put_plain-start-in-loop-i c =
    omega (arith, to_come c.loop-i.invariant.written, same c.loop-i.invariant.written c.requires, c.requires)

pub put_plain-count-requires : goal.put_plain-count-requires
put_plain-count-requires c =
    let a = c.args in
    rest_room (line_stop a.newer) (eols_from (rule_for a.newer) 0) (plain_run_lem a.newer) a.text.now c.loop-i.i c.loop-i.invariant.written c.requires

pub overflow_add-e : goal.overflow_add-e
overflow_add-e c = omega (arith, inside (goal.at.overflow_add-e c).After-put_plain-count)

pub overflow_add-at : goal.overflow_add-at
overflow_add-at c = omega (arith, to_come (put (goal.at.overflow_add-at c).After-put_plain-count), c.requires)

pub shape_of-out-then-e-text : goal.shape_of-out-then-e-text
shape_of-out-then-e-text c = same (put (goal.at.shape_of-out-then-e-text c).After-put_plain-count) c.requires

pub returns-then-e-text : goal.returns-then-e-text
returns-then-e-text c =
    let a = c.args in
    let w = written_as (eols_over a.newer a.text.now (end (goal.at.returns-then-e-text c).After-put_plain-count) (omega (arith, c.if-e-text.true))) (put (goal.at.returns-then-e-text c).After-put_plain-count) in
    (written_all w, written_end w)

pub normalize_eol_step-step-requires : goal.normalize_eol_step-step-requires
normalize_eol_step-step-requires c = omega (arith, inside (goal.at.normalize_eol_step-step-requires c).After-put_plain-count, c.if-e-text.false)

pub bounds-out-at : goal.bounds-out-at
bounds-out-at c =
    byte_room (written_as c.normalize_eol_step-step.ensures.rest (put (goal.at.bounds-out-at c).After-put_plain-count)) c.requires

pub overflow_add-at-in-loop-i : goal.overflow_add-at-in-loop-i
overflow_add-at-in-loop-i c =
    omega (arith, to_come (written_as c.normalize_eol_step-step.ensures.rest (put (goal.at.overflow_add-at-in-loop-i c).After-put_plain-count)), c.requires)

pub overflow_add-i : goal.overflow_add-i
overflow_add-i c = omega (arith, c.normalize_eol_step-step.ensures.inside)

pub loop-i-smaller : goal.loop-i-smaller
loop-i-smaller c =
    omega (arith, c.normalize_eol_step-step.ensures.some, c.normalize_eol_step-step.ensures.inside)

pub loop-i-preserved : goal.loop-i-preserved
loop-i-preserved c = record {
  inside = c.normalize_eol_step-step.ensures.inside;
  written = written_byte _ (written_as c.normalize_eol_step-step.ensures.rest (put (goal.at.loop-i-preserved c).After-put_plain-count)) c.requires;
}

pub shape_of-out : goal.shape_of-out
shape_of-out c = same c.loop-i.invariant.written c.requires

pub returns : goal.returns
returns c =
    let a = c.args in
    let w = written_as (eols_over a.newer a.text.now c.loop-i.i c.loop-i-test.false) c.loop-i.invariant.written in
    (written_all w, written_end w)

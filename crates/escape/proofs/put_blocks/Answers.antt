-- `put_blocks` meets its contract: at each turn the blocks before i are a run, and are laid over the output. Assumes nothing.
use mathlib.Core.Path.{◌≡◌, ap, ◌∙◌}
use mathlib.Core.List.{List}
use Prim.Native.Nat.{ℕ, ◌+◌, ◌-◌}
use native.Mathlib.Omega.{arith}
use lib.ListN.{length}
use borrow.Rule.Slice.PartMut.{mid_of}
use Rattle.text.specs.Call.{laid}
use Rattle.output.specs.Runs.{Plain}
use Rattle.output.proofs.Runs.{copied_none, copied_length, copied_more, run_room, part_room}
use Rattle.escape.specs.Scan.{escaped_by, shown}
use Rattle.escape.proofs.Shown.{shown_length, shown_mid, shown_plain, mid_length}
use Rattle.escape.proofs.put_blocks.Goals as goal
use Rattle.escape.proofs.put_blocks.Goals.{Else-any_escaped}

plain : (c : Else-any_escaped) → Plain (escaped_by c.args.chars) c.args.text.now c.loop-i.i (c.loop-i.i + 16)
plain c = c.any_escaped.ensures c.if-any_escaped.false

-- and none of what is copied
plain_shown : (c : Else-any_escaped) → Plain (escaped_by c.args.chars) (shown c.args.spaces c.args.text.now) c.loop-i.i (c.loop-i.i + 16)
plain_shown c = shown_plain c.args.chars c.args.spaces c.requires.shows (plain c)

pub loop-i-init : goal.loop-i-init
loop-i-init c = (copied_none _ _ _, c.requires.room)

pub overflow_sub-text : goal.overflow_sub-text
overflow_sub-text c = let given = c.args in omega (arith, c.loop-i.invariant.0.run.to, shown_length given.spaces given.text.now)

pub any_escaped-requires : goal.any_escaped-requires
any_escaped-requires c =
    let given = c.args in
    omega (arith, c.loop-i.invariant.0.run.to, shown_length given.spaces given.text.now)

pub shape_of-out-then-any_escaped : goal.shape_of-out-then-any_escaped
shape_of-out-then-any_escaped c =
    copied_length _ _ _ c.loop-i.invariant.0 c.loop-i.invariant.1

pub returns-then-any_escaped : goal.returns-then-any_escaped
returns-then-any_escaped c = c.loop-i.invariant.0

pub overflow_add-i : goal.overflow_add-i
overflow_add-i c = omega (arith, (plain c).to)

pub slice_bounds-put_shown-count : goal.slice_bounds-put_shown-count
slice_bounds-put_shown-count c = omega arith

pub slice_bounds-put_shown-start : goal.slice_bounds-put_shown-start
slice_bounds-put_shown-start c = omega arith

pub slice_bounds-put_shown-end : goal.slice_bounds-put_shown-end
slice_bounds-put_shown-end c = (plain c).to

pub slice_bounds-put_shown-count-in-loop-i : goal.slice_bounds-put_shown-count-in-loop-i
slice_bounds-put_shown-count-in-loop-i c = let kept = c.loop-i.invariant in omega (arith, run_room _ _ _ kept.0 kept.1 (plain_shown (goal.at.slice_bounds-put_shown-count-in-loop-i c).Else-any_escaped))

pub slice_bounds-put_shown-start-in-loop-i : goal.slice_bounds-put_shown-start-in-loop-i
slice_bounds-put_shown-start-in-loop-i c = let kept = c.loop-i.invariant in omega (arith, run_room _ _ _ kept.0 kept.1 (plain_shown (goal.at.slice_bounds-put_shown-start-in-loop-i c).Else-any_escaped))

pub put_shown-requires : goal.put_shown-requires
put_shown-requires c =
    let given = c.args in
    let q : c.loop-i.i + 16 - c.loop-i.i ≡ 16 = omega arith in
    let part : length (mid_of c.loop-i.i 16 given.text.now) ≡ 16 = mid_length c.loop-i.i 16 given.text.now (plain (goal.at.put_shown-requires c).Else-any_escaped).to in
    record { src_len = rw q part; in_bounds = rw q at (part_room _ _ _ c.loop-i.invariant.0 c.loop-i.invariant.1 (plain_shown (goal.at.put_shown-requires c).Else-any_escaped)) }

pub overflow_add-i-in-loop-i : goal.overflow_add-i-in-loop-i
overflow_add-i-in-loop-i c = omega (arith, (plain (goal.at.overflow_add-i-in-loop-i c).Else-any_escaped).to)

pub loop-i-smaller : goal.loop-i-smaller
loop-i-smaller c = omega (arith, (plain (goal.at.loop-i-smaller c).Else-any_escaped).to)

pub loop-i-preserved : goal.loop-i-preserved
loop-i-preserved c =
    let given = c.args in
    let copy =
    c.put_shown.ensures
    ∙ ap (λ (l : List ℕ). laid l (mid_of c.loop-i.i (length c.loop-i.out - c.loop-i.i) c.loop-i.out))
    (shown_mid given.spaces c.loop-i.i (c.loop-i.i + 16 - c.loop-i.i) given.text.now) in
    (copied_more _ _ _ c.loop-i.invariant.0 c.loop-i.invariant.1 (plain_shown (goal.at.loop-i-preserved c).Else-any_escaped) copy, c.loop-i.invariant.1)

pub shape_of-out : goal.shape_of-out
shape_of-out c = copied_length _ _ _ c.loop-i.invariant.0 c.loop-i.invariant.1

pub returns : goal.returns
returns c = c.loop-i.invariant.0

-- `write_form`: at each turn what is written of the first i bytes lies in the output (`Written`), then the run that level 3 writes
-- (`run_put`), then the reference (`own_written`); the last run ends it.
use native.Mathlib.Omega.{arith}
use mathlib.Core.List.{List}
use Prim.Native.Nat.{ℕ, ◌+◌, ◌-◌, ◌≤◌, ◌<◌}
use lib.ListN.{length, drop}
use borrow.Rule.Slice.PartMut.{put_mid}
use Rattle.eols.specs.Stops.{rule_for}
use Rattle.output.proofs.Written.{Written, written_start, written_as, written_all, written_end, to_come, same_length as same}
use Rattle.escape.specs.Scan.{shown}
use Rattle.escape.proofs.Shown.{shown_length}
use Rattle.canonical.specs.Canonical.{canonical_from, canonical}
use Rattle.canonical.proofs.Between.{canonical_over, run_room, run_written, own_least, own_inside, own_room, own_written}
use Rattle.canonical.proofs.Spaced.{shown_common, Stop, shown_stop, run_shows, part_of}
use Rattle.canonical.proofs.write_form.Goals as goal
use Rattle.canonical.proofs.write_form.Goals.{After-special_width-width, After-write_escaped-at}

-- where the run ends, in the value and in the output
abbrev end : After-write_escaped-at → ℕ
end c = c.next_special-end.result

abbrev reached : After-write_escaped-at → ℕ
reached c = c.loop-chars.at + c.write_escaped-at.result

-- what lies in the output then
abbrev held : After-write_escaped-at → List ℕ
held c =
    put_mid c.loop-chars.at (length c.loop-chars.out - c.loop-chars.at) c.loop-chars.out c.write_escaped-at.new.out

-- the run is written
run_put : (c : After-write_escaped-at)
    → Written (canonical (rule_for c.args.newer) (shown c.args.spaces c.args.text.now)) (canonical_from (rule_for c.args.newer) 0 (drop (end c) (shown c.args.spaces c.args.text.now))) c.args.out.now
    (held c) (reached c)
run_put c =
    run_written _ _ _ _ (shown_common c.args.spaces c.next_special-end.ensures.common)
    (part_of c.args.spaces c.loop-chars.i (end c - c.loop-chars.i) c.args.text.now c.run_chars-chars.ensures) c.loop-chars.invariant.1
    c.write_escaped-at.ensures.value c.write_escaped-at.ensures.out_after

-- a run that is not the last ends at one of the two, and the next starts inside
stop : (c : After-special_width-width) → Stop c.args.newer (shown c.args.spaces c.args.text.now) c.next_special-end.result c.special_width-width.result
stop c =
    let inside : c.next_special-end.result < length c.args.text.now = omega (arith, c.if-end-text.false, c.next_special-end.ensures.common.to) in
    shown_stop c.args.newer c.args.spaces c.args.text.now inside c.next_special-end.ensures.nonzero c.special_width-width.ensures

next_inside : (c : After-special_width-width) → c.next_special-end.result + c.special_width-width.result ≤ length c.args.text.now
next_inside c =
    let s = stop c in
    omega (arith, own_inside c.args.newer (shown c.args.spaces c.args.text.now) c.next_special-end.result s.inside s.some s.width_is, shown_length c.args.spaces c.args.text.now)

pub loop-chars-init : goal.loop-chars-init
unfolding canonical
loop-chars-init c = (omega arith, written_start _ _)

pub next_special-end-requires : goal.next_special-end-requires
next_special-end-requires c = c.loop-chars.invariant.0

pub slice_bounds-write_escaped-count : goal.slice_bounds-write_escaped-count
slice_bounds-write_escaped-count c = c.next_special-end.ensures.common.from

pub slice_bounds-write_escaped-start : goal.slice_bounds-write_escaped-start
slice_bounds-write_escaped-start c = c.next_special-end.ensures.common.from

pub slice_bounds-write_escaped-end : goal.slice_bounds-write_escaped-end
slice_bounds-write_escaped-end c = c.next_special-end.ensures.common.to

pub slice_bounds-write_escaped-count-in-loop-chars : goal.slice_bounds-write_escaped-count-in-loop-chars
slice_bounds-write_escaped-count-in-loop-chars c =
    omega (arith, to_come c.loop-chars.invariant.1, same c.loop-chars.invariant.1 c.requires, c.requires)

pub slice_bounds-write_escaped-start-in-loop-chars : goal.slice_bounds-write_escaped-start-in-loop-chars
slice_bounds-write_escaped-start-in-loop-chars c =
    omega (arith, to_come c.loop-chars.invariant.1, same c.loop-chars.invariant.1 c.requires, c.requires)

pub write_escaped-at-requires : goal.write_escaped-at-requires
write_escaped-at-requires c =
    record { shows = rw c.run_chars-chars.ensures (run_shows c.args.spaces); text_in_bounds = run_room _ _ _ _ (shown_common c.args.spaces c.next_special-end.ensures.common) (part_of c.args.spaces c.loop-chars.i (c.next_special-end.result - c.loop-chars.i) c.args.text.now c.run_chars-chars.ensures) c.loop-chars.invariant.1 c.requires }

pub overflow_add-at : goal.overflow_add-at
overflow_add-at c = omega (arith, to_come (run_put (goal.at.overflow_add-at c).After-write_escaped-at), c.requires)

pub shape_of-out-then-end-text : goal.shape_of-out-then-end-text
shape_of-out-then-end-text c = same (run_put (goal.at.shape_of-out-then-end-text c).After-write_escaped-at) c.requires

pub returns-then-end-text : goal.returns-then-end-text
returns-then-end-text c =
    let all = shown c.args.spaces c.args.text.now in
    let over = canonical_over (rule_for c.args.newer) all c.next_special-end.result (omega (arith, c.if-end-text.true, shown_length c.args.spaces c.args.text.now)) in
    let w = written_as over (run_put (goal.at.returns-then-end-text c).After-write_escaped-at) in
    record { value = written_all w; out_after = written_end w }

pub special_width-width-requires : goal.special_width-width-requires
special_width-width-requires c = omega (arith, c.if-end-text.false, c.next_special-end.ensures.common.to)

pub slice_bounds-put_special-count : goal.slice_bounds-put_special-count
slice_bounds-put_special-count c =
    let w = run_put (goal.at.slice_bounds-put_special-count c).After-write_escaped-at in
    omega (arith, to_come w, same w c.requires, c.requires)

pub slice_bounds-put_special-start : goal.slice_bounds-put_special-start
slice_bounds-put_special-start c =
    let w = run_put (goal.at.slice_bounds-put_special-start c).After-write_escaped-at in
    omega (arith, to_come w, same w c.requires, c.requires)

pub put_special-requires : goal.put_special-requires
put_special-requires c =
    let s = stop (goal.at.put_special-requires c).After-special_width-width in
    own_room c.args.newer (shown c.args.spaces c.args.text.now) c.next_special-end.result s.inside s.some s.width_is
    (run_put (goal.at.put_special-requires c).After-write_escaped-at) c.requires

pub overflow_add-at-in-loop-chars : goal.overflow_add-at-in-loop-chars
overflow_add-at-in-loop-chars c =
    let s = stop (goal.at.overflow_add-at-in-loop-chars c).After-special_width-width in
    let own = own_written c.args.newer (shown c.args.spaces c.args.text.now) c.next_special-end.result s.inside s.some s.width_is
    (run_put (goal.at.overflow_add-at-in-loop-chars c).After-write_escaped-at) c.special_length-at.ensures.0 c.put_special.ensures in
    omega (arith, to_come own, c.requires)

pub overflow_add-i : goal.overflow_add-i
overflow_add-i c = omega (arith, next_inside (goal.at.overflow_add-i c).After-special_width-width)

pub loop-chars-smaller : goal.loop-chars-smaller
loop-chars-smaller c =
    let w = (goal.at.loop-chars-smaller c).After-special_width-width in
    let s = stop w in
    let least = own_least c.args.newer (shown c.args.spaces c.args.text.now) c.next_special-end.result s.inside s.some s.width_is in
    omega (arith, c.next_special-end.ensures.common.from, least, next_inside w)

pub loop-chars-preserved : goal.loop-chars-preserved
loop-chars-preserved c =
    let w = (goal.at.loop-chars-preserved c).After-special_width-width in
    let s = stop w in (
      next_inside w,
      own_written c.args.newer (shown c.args.spaces c.args.text.now) c.next_special-end.result s.inside s.some s.width_is
          (run_put (goal.at.loop-chars-preserved c).After-write_escaped-at) c.special_length-at.ensures.0 c.put_special.ensures,
    )

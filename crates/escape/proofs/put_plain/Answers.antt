-- `put_plain` meets its contract: a run of blocks, and the bytes that follow it. Assumes nothing.
use mathlib.Core.Path.{◌≡◌, sym, ap, ◌∙◌}
use mathlib.Core.List.{List}
use Prim.Native.Nat.{ℕ, ◌-◌, ◌≤◌}
use native.Mathlib.Omega.{arith}
use lib.ListN.{length}
use borrow.Rule.Slice.PartMut.{mid_of}
use Rattle.escape.specs.Scan.{escaped_by, shown}
use Rattle.escape.proofs.Shown.{shown_length, shown_mid}
use Rattle.output.proofs.Runs.{copied_inside, rest_room, copied_rest, ends_shift}
use Rattle.escape.proofs.put_plain.Goals as goal
use Rattle.escape.proofs.put_plain.Goals.{After-put_blocks-near}

-- the rest of what is copied is what is copied of the rest
abbrev whole : After-put_blocks-near → List ℕ
whole c = shown c.args.spaces c.args.text.now

inside : (c : After-put_blocks-near) → c.put_blocks-near.result ≤ length c.args.text.now
inside c = omega (arith, c.put_blocks-near.ensures.run.to, shown_length c.args.spaces c.args.text.now)

rest_shown : (c : After-put_blocks-near) → shown c.args.spaces (mid_of c.put_blocks-near.result (length c.args.text.now - c.put_blocks-near.result) c.args.text.now) ≡ mid_of c.put_blocks-near.result (length (whole c) - c.put_blocks-near.result) (whole c)
rest_shown c =
    let given = c.args in
    let r = c.put_blocks-near.result in
    shown_mid given.spaces r (length given.text.now - r) given.text.now
    ∙ sym (ap (λ (n : ℕ). mid_of r (n - r) (whole c)) (shown_length given.spaces given.text.now))

pub slice_bounds-put_bytes-count : goal.slice_bounds-put_bytes-count
slice_bounds-put_bytes-count c = inside (goal.at.slice_bounds-put_bytes-count c).After-put_blocks-near

pub slice_bounds-put_bytes-start : goal.slice_bounds-put_bytes-start
slice_bounds-put_bytes-start c = inside (goal.at.slice_bounds-put_bytes-start c).After-put_blocks-near

pub slice_bounds-put_bytes-count-2 : goal.slice_bounds-put_bytes-count-2
slice_bounds-put_bytes-count-2 c = copied_inside _ _ _ c.put_blocks-near.ensures c.requires.room

pub slice_bounds-put_bytes-start-2 : goal.slice_bounds-put_bytes-start-2
slice_bounds-put_bytes-start-2 c = copied_inside _ _ _ c.put_blocks-near.ensures c.requires.room

pub put_bytes-requires : goal.put_bytes-requires
put_bytes-requires c =
    record { shows = c.requires.shows; room = rw (rest_shown (goal.at.put_bytes-requires c).After-put_blocks-near) (rest_room _ _ _ c.put_blocks-near.ensures c.requires.room) }

pub overflow_add-result : goal.overflow_add-result
overflow_add-result c =
    let given = c.args in
    let both = copied_rest _ _ _ c.put_blocks-near.ensures c.requires.room (rw (rest_shown (goal.at.overflow_add-result c).After-put_blocks-near) at c.put_bytes.ensures.copied) in
    omega (arith, both.run.to, shown_length given.spaces given.text.now)

pub returns : goal.returns
returns c =
    let given = c.args in
    let copy = rw (rest_shown (goal.at.returns c).After-put_blocks-near) at c.put_bytes.ensures.copied in
    let ends = rw (rest_shown (goal.at.returns c).After-put_blocks-near) at c.put_bytes.ensures.ends in
    record { copied = copied_rest _ _ _ c.put_blocks-near.ensures c.requires.room copy; ends = ends_shift (escaped_by given.chars) (whole (goal.at.returns c).After-put_blocks-near) c.put_blocks-near.result c.put_bytes.result c.put_blocks-near.ensures.run.to ends }

-- The front of the room is kept in and put back, then the text is made known: `room_kept`.
use mathlib.Core.Path.{◌≡◌, sym, subst, ◌∙◌}
use mathlib.Core.List.{List}
use Prim.Native.Nat.{ℕ}
use native.Mathlib.Omega.{arith}
use lib.ListN.{length}
use lib.Seq.{length-take-le}
use Rattle.memory.proofs.Keeping.{kept_length}
use Rattle.walk_least_depth.specs.Allowance.{Remembers}
use Rattle.walk_least_depth.proofs.NeedRooms.{room_kept, front_length}
use Rattle.walk_least_depth.proofs.keep_text.Goals as goal
use Rattle.walk_least_depth.proofs.keep_text.Goals.{After-keep, After-know}

-- the front as it was left
abbrev front : After-keep → List ℕ
front c = c.keep.new.seen

remembers : (c : After-know) → Remembers c.args.room.now c.args.slot c.args.command c.args.least c.args.place c.args.len c.args.opened c.know.new.room
remembers c =
    let a = c.args in
    subst (λ (x : List ℕ). Remembers a.room.now a.slot a.command a.least a.place a.len a.opened x) (sym c.know.ensures)
    (room_kept a.room.now (c.keep.new.seen) a.slot a.command a.least a.place a.len a.opened c.requires.1 c.requires.2 c.keep.ensures)

pub slice_bounds-keep-end : goal.slice_bounds-keep-end
slice_bounds-keep-end c = omega (arith, c.requires)

pub slice_bounds-keep-end-2 : goal.slice_bounds-keep-end-2
slice_bounds-keep-end-2 c =
    sym (length-take-le 84 c.args.room.now (omega (arith, c.requires)))

pub keep-requires : goal.keep-requires
keep-requires c =
    record { command_bound = (c.requires.0, c.requires.1); in_bounds = λ z. omega (arith, length-take-le 84 c.args.room.now (omega (arith, c.requires))) }

pub know-requires : goal.know-requires
know-requires c =
    let old = c.args.room.now in
    let n : length (front (goal.at.know-requires c).After-keep) ≡ 84 = kept_length c.keep.ensures ∙ length-take-le 84 old (omega (arith, c.requires)) in
    (c.requires.0, c.requires.1, front_length (front (goal.at.know-requires c).After-keep) old n c.requires.2)

pub shape_of-room : goal.shape_of-room
shape_of-room c = (remembers (goal.at.shape_of-room c).After-know).words

pub returns : goal.returns
returns c = remembers (goal.at.returns c).After-know

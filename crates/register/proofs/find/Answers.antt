-- `find` keeps `Passed`: the entries before have other forms (`passed_on`). It answers at the first that has the form (`passed_found`).
use mathlib.Core.Path.{◌≡◌, sym, ◌∙◌}
use native.Mathlib.Omega.{arith}
use Prim.Native.Nat.{◌+◌, ◌-◌}
use lib.ListN.{take, drop}
use Rattle.register.proofs.Boundaries.{Turn, turn, turn_whole, passed_none, passed_on, passed_found, passed_all, part_form}
use Rattle.register.proofs.find.Goals as goal
use Rattle.register.proofs.find.Goals.{In-loop-at, After-end_at-end}

-- the entry at a turn of the loop
abbrev one : (c : In-loop-at) → Turn c.requires c.loop-at.invariant.place
one c = turn c.requires c.loop-at.invariant.place c.loop-at-test.true

-- what was compared is the entry's form
part : (c : After-end_at-end) → take (c.end_at-end.result - (c.loop-at.at + 8)) (drop (c.loop-at.at + 8) c.args.register.now)
    ≡ (turn c.requires c.loop-at.invariant.place c.loop-at-test.true).one.form
part c =
    let t = turn c.requires c.loop-at.invariant.place c.loop-at-test.true in
    part_form c.requires c.loop-at.invariant t c.end_at-end.ensures

pub loop-at-init : goal.loop-at-init
loop-at-init c = passed_none _ _

pub end_at-end-requires : goal.end_at-end-requires
end_at-end-requires c = turn_whole c.requires c.loop-at.invariant.place (one c)

pub slice_bounds-same-end : goal.slice_bounds-same-end
slice_bounds-same-end c =
    let t = one (goal.at.slice_bounds-same-end c).In-loop-at in omega (arith, c.end_at-end.ensures, t.size, t.fits)

pub returns-then-same : goal.returns-then-same
returns-then-same c =
    let at = goal.at.returns-then-same c in
    passed_found c.requires c.loop-at.invariant (one at.In-loop-at) (part at.After-end_at-end) (sym c.if-same.true ∙ c.same.ensures)

pub loop-at-preserved : goal.loop-at-preserved
loop-at-preserved c =
    let at = goal.at.loop-at-preserved c in
    let other = sym c.if-same.false ∙ c.same.ensures in
    passed_on c.requires c.loop-at.invariant (one at.In-loop-at) c.end_at-end.ensures (part at.After-end_at-end) other

pub returns : goal.returns
returns c = passed_all c.requires c.loop-at.invariant (omega arith)

-- `forget` keeps: the first k words are cleared, and no other changed (`Forgetting`, Rooms.antt).
use native.Mathlib.Omega.{arith}
use Rattle.normalize.proofs.Rooms.{forgetting_none, forgetting_one, forgetting_all}
use Rattle.normalize.proofs.forget.Goals as goal

pub loop-k-init : goal.loop-k-init
loop-k-init c = forgetting_none _

pub offset_bounds-room-k : goal.offset_bounds-room-k
offset_bounds-room-k c = omega (arith, c.loop-k-test.true)

pub bounds-room-k : goal.bounds-room-k
bounds-room-k c = omega (arith, c.loop-k-test.true, c.loop-k.invariant.words, c.requires)

pub overflow_add-k : goal.overflow_add-k
overflow_add-k c = omega arith

pub loop-k-smaller : goal.loop-k-smaller
loop-k-smaller c = omega arith

pub loop-k-preserved : goal.loop-k-preserved
loop-k-preserved c = forgetting_one c.requires c.loop-k.invariant (omega (arith, c.loop-k-test.true))

pub shape_of-room : goal.shape_of-room
shape_of-room c = c.loop-k.invariant.words

pub returns : goal.returns
returns c = forgetting_all c.loop-k.invariant (omega (arith, c.loop-k-test.false))

-- `keep` stores the slot's five words, one after the other; no words are left as they are.
use mathlib.Core.Path.{refl}
use native.Mathlib.Omega.{arith}
use lib.ListN.{length-set}
use Rattle.memory.proofs.keep.Goals as goal

pub returns-then-seen-eq0 : goal.returns-then-seen-eq0
returns-then-seen-eq0 c = record { none = λ q. refl; enters = λ q. absurd (q c.if-seen-eq0.true) }

pub bounds-seen-slot : goal.bounds-seen-slot
bounds-seen-slot c = omega (arith, c.requires.in_bounds c.if-seen-eq0.false, c.requires.command_bound)

pub bounds-seen-slot-2 : goal.bounds-seen-slot-2
bounds-seen-slot-2 c = simp length-set (omega (arith, c.requires.in_bounds c.if-seen-eq0.false, c.requires.command_bound))

pub bounds-seen-slot-3 : goal.bounds-seen-slot-3
bounds-seen-slot-3 c = simp length-set (omega (arith, c.requires.in_bounds c.if-seen-eq0.false, c.requires.command_bound))

pub bounds-seen-slot-4 : goal.bounds-seen-slot-4
bounds-seen-slot-4 c = simp length-set (omega (arith, c.requires.in_bounds c.if-seen-eq0.false, c.requires.command_bound))

pub bounds-seen-slot-5 : goal.bounds-seen-slot-5
bounds-seen-slot-5 c = simp length-set (omega (arith, c.requires.in_bounds c.if-seen-eq0.false, c.requires.command_bound))

pub returns : goal.returns
returns c = record { none = λ q. absurd (c.if-seen-eq0.false q); enters = λ q. refl }

-- `leaving`: what is left to look at, from a turn on, comes to what the whole comes to (`comes_to`).
use Rattle.std.proofs.Common.{◌≡◌, ◌-◌, ◌≤◌, length, drop}
use Rattle.walk_rehearsal.specs.Rehearsal.{inside}
use Rattle.walk_rehearsal.proofs.Spans.{comes_to}
use Rattle.walk_rehearsal.proofs.leaving.Given as goal

abbrev pub invariant-loop-i : goal.invariant-loop-i
invariant-loop-i l = record {
  within : l.i ≤ length l.spans;
  most : l.staying ≤ l.i;
  left : comes_to l.size l.i l.staying (drop l.i l.spans) ≡ inside l.size l.spans;
}

abbrev pub decreases-loop-i : goal.decreases-loop-i
decreases-loop-i l = length l.spans - l.i

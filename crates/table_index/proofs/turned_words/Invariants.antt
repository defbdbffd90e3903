use Rattle.std.proofs.Common.{◌≡◌, ◌-◌, ◌<◌, length}
use Rattle.table_index.specs.NameHash.{turned_from, turned_words}
use Rattle.table_index.proofs.NameHashing.{rest}
use Rattle.table_index.proofs.turned_words.Given as goal

abbrev pub invariant-loop-i : goal.invariant-loop-i
invariant-loop-i l = (l.i < length l.name) × (turned_from (rest l.name l.i) l.name l.i l.sum ≡ turned_words l.name)

abbrev pub decreases-loop-i : goal.decreases-loop-i
decreases-loop-i l = length l.name - l.i

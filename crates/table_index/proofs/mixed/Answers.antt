-- `mixed` is its definition; no sum or product overflows, as the halves of a word are below 2^32.
use Rattle.std.proofs.Common.{refl}
use Rattle.table_index.specs.NameHash.{mixed}
use Rattle.table_index.proofs.NameHashing.{mixed_word}
use Rattle.table_index.proofs.mixed.Goals as goal

pub returns : goal.returns
unfolding mixed
returns c = (refl, mixed_word c.args.h c.args.word)

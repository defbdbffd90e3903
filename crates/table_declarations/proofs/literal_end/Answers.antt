-- `literal_end`: the first k bytes of the word stand there (`Matching`), until one does not (`matching_cut`) or the word is over (`matching_whole`).
use mathlib.Core.Path.{sym, ◌∙◌}
use Rattle.table_declarations.proofs.Keyword.{matching_more, matching_cut, matching_whole}
use Rattle.table_declarations.proofs.literal_end.Goals as goal

pub returns-then-not-byte_at : goal.returns-then-not-byte_at
returns-then-not-byte_at c =
    matching_cut c.loop-k.invariant c.requires.word_len_bound.1 c.loop-k-test.true (sym c.byte_at.ensures ∙ c.if-not-byte_at.true)

pub loop-k-preserved : goal.loop-k-preserved
loop-k-preserved c =
    matching_more c.loop-k.invariant c.requires.word_len_bound.1 c.loop-k-test.true (sym c.byte_at.ensures ∙ c.if-not-byte_at.false)

pub returns : goal.returns
returns c = matching_whole c.loop-k.invariant c.loop-k-test.false

-- `hash`: the definition's three cases.
use Rattle.std.proofs.Common.{length, ap, ◌∙◌, arith}
use Rattle.table_index.specs.NameHash.{mixed}
use Rattle.table_index.proofs.NameHashing.{hash_short_lem, hash_eight, hash_long_lem}
use Rattle.table_index.proofs.hash.Goals as goal

pub returns-then-n-lt8 : goal.returns-then-n-lt8
returns-then-n-lt8 c =
    let name = c.args.name.now in
    (c.mixed.ensures.0 ∙ ap (mixed (length name)) c.short_word.ensures ∙ hash_short_lem name c.if-n-lt8.true, c.mixed.ensures.1)

pub returns-then-n-eq8 : goal.returns-then-n-eq8
returns-then-n-eq8 c =
    let eight = hash_eight c.args.name.now c.if-n-eq8.true in
    (c.mixed-then-n-eq8.ensures.0 ∙ ap (mixed 8) c.word.ensures ∙ eight, c.mixed-then-n-eq8.ensures.1)

pub returns : goal.returns
returns c =
    let name = c.args.name.now in
    let long = hash_long_lem name (omega (arith, c.if-n-lt8.false, c.if-n-eq8.false)) in
    (c.mixed-2.ensures.0 ∙ ap (mixed (length name)) c.turned_words.ensures ∙ long, c.mixed-2.ensures.1)

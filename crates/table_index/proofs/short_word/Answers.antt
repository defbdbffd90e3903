-- `short_word` keeps: the word so far, joined with the bytes to come, is the word of all.
use Rattle.std.proofs.Common.{ℕ, ◌+◌, ◌*◌, ◌%◌, ◌^◌, drop, sym, ap, ◌∙◌}
use Rattle.table_index.specs.NameHash.{joined_from}
use Rattle.table_index.proofs.NameHashing.{joined_on, joined_all}
use Rattle.table_index.proofs.short_word.Goals as goal

pub loop-b-preserved : goal.loop-b-preserved
loop-b-preserved c =
    let name = c.args.name.now in
    let i = c.loop-b.b-index in
    ap (λ (b : ℕ). joined_from (c.loop-b.word * 2 ^ 8 % 2 ^ 64 + b) (drop (i + 1) name)) c.from.ensures
    ∙ sym (joined_on name i c.loop-b.word c.loop-b-test.true) ∙ c.loop-b.invariant

pub returns : goal.returns
returns c = sym (joined_all c.args.name.now c.loop-b.b-index c.loop-b.word c.loop-b-test.false) ∙ c.loop-b.invariant

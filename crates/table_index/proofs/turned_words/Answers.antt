-- `turned_words` keeps: the sum so far, turned with the words to come, is the sum of all.
use Rattle.std.proofs.Common.{◌≡◌, ℕ, ◌+◌, ◌-◌, ◌/◌, length, sym, ap, ◌∙◌, ap₂, arith}
use Rattle.table_index.specs.NameHash.{turned, turned_from, turned_words}
use Rattle.table_index.proofs.NameHashing.{rest, turned_on, turned_all}
use Rattle.table_index.proofs.turned_words.Goals as goal

pub loop-i-init : goal.loop-i-init
unfolding turned_words
loop-i-init c =
    let name = c.args.name.now in
    let all : rest name 0 ≡ (length name - 1) / 8 = omega arith in
    (omega (arith, c.requires), ap₂ (λ (n sum : ℕ). turned_from n name 0 sum) all c.word-sum.ensures)

pub loop-i-preserved : goal.loop-i-preserved
loop-i-preserved c =
    let name = c.args.name.now in
    let next = c.loop-i.i + 8 in
    let more = c.wrapping_add_u64-sum.ensures.value ∙ ap (turned c.loop-i.sum) c.word.ensures in
    let same = ap (turned_from (rest name next) name next) more ∙ sym (turned_on name c.loop-i.i c.loop-i.sum c.loop-i-test.true) ∙ c.loop-i.invariant.1 in
    (omega (arith, c.loop-i.invariant.0, c.loop-i-test.true), same)

pub returns : goal.returns
returns c =
    sym (turned_all c.args.name.now c.loop-i.i c.loop-i.sum c.loop-i-test.false) ∙ c.loop-i.invariant.1

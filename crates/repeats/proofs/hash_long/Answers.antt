-- `hash_long` keeps: the hash so far, mixed with the words to come, is the hash of all of them.
use Rattle.std.proofs.Common.{ℕ, ◌+◌, ◌-◌, length, sym, ap, ◌∙◌, ap₂}
use Rattle.repeats.specs.Hash.{mix, mixed, last_word, hash_long}
use Rattle.repeats.proofs.Hashing.{words, mixed_on, mixed_all, mixed_start}
use Rattle.repeats.proofs.hash_long.Goals as goal

pub loop-i-preserved : goal.loop-i-preserved
loop-i-preserved c =
    let form = c.args.form.now in
    let last = length form - 8 in
    let i = c.loop-i.i in
    ap (λ (h : ℕ). mixed (words last (i + 8)) form (i + 8) h) (c.mix-hash.ensures ∙ ap (mix c.loop-i.hash) c.word.ensures)
    ∙ sym (mixed_on form last i c.loop-i.hash c.loop-i-test.true) ∙ c.loop-i.invariant

pub returns : goal.returns
unfolding hash_long
returns c =
    let form = c.args.form.now in
    let all = sym (mixed_all form (length form - 8) c.loop-i.i c.loop-i.hash c.loop-i-test.false) ∙ c.loop-i.invariant ∙ mixed_start form c.requires in
    c.mix-2.ensures ∙ ap (λ (h : ℕ). mix h last_word) (c.mix.ensures ∙ ap₂ mix all c.word-2.ensures)

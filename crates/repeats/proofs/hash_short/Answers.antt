-- `hash_short` keeps: the word so far, joined with the bytes to come, is the word of all.
use Rattle.std.proofs.Common.{◌≡◌, ℕ, ◌+◌, ◌*◌, ◌%◌, length, drop, sym, ap, ◌∙◌, arith}
use Rattle.repeats.specs.Hash.{mix, joined, last_word, hash_short}
use Rattle.repeats.proofs.Hashing.{joined_on, joined_all}
use Rattle.repeats.proofs.hash_short.Goals as goal

pub loop-b-preserved : goal.loop-b-preserved
loop-b-preserved c =
    let form = c.args.form.now in
    let i = c.loop-b.b-index in
    let on = sym (joined_on form i c.loop-b.word (omega arith)) in
    ap (λ (b : ℕ). joined (c.loop-b.word % 0x1000000000000 * 0x100 + b) (drop (i + 1) form)) c.from.ensures ∙ on ∙ c.loop-b.invariant

pub returns : goal.returns
unfolding hash_short
returns c =
    let form = c.args.form.now in
    let all = sym (joined_all form c.loop-b.b-index c.loop-b.word (omega arith)) in
    let word : c.loop-b.word ≡ joined 0 form = all ∙ c.loop-b.invariant in
    c.mix-2.ensures ∙ ap (λ (h : ℕ). mix h last_word) (c.mix.ensures ∙ ap (mix (length form)) word)

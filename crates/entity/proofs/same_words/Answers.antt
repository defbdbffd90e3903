-- `same_words` keeps `Agree`, eight bytes further at each turn (`agree_word`).
use mathlib.Core.Path.{sym, ◌∙◌}
use native.Mathlib.Omega.{arith}
use Rattle.entity.proofs.Lookup.{agree_none, agree_word}
use Rattle.entity.proofs.same_words.Goals as goal

pub loop-i-init : goal.loop-i-init
loop-i-init c =
    let given = c.args in
    agree_none given.pool.now given.start given.name.now

pub overflow_sub-name : goal.overflow_sub-name
overflow_sub-name c = c.loop-i.invariant.fits

pub overflow_add-start : goal.overflow_add-start
overflow_add-start c = let f = c.loop-i.invariant.fits in omega arith

pub word-requires : goal.word-requires
word-requires c = let f = c.loop-i.invariant.fits in omega arith

pub word-requires-in-loop-i : goal.word-requires-in-loop-i
word-requires-in-loop-i c = let f = c.loop-i.invariant.fits in omega arith

pub returns-then-word : goal.returns-then-word
returns-then-word c = c.loop-i.invariant

pub overflow_add-i : goal.overflow_add-i
overflow_add-i c = let f = c.loop-i.invariant.fits in omega arith

pub loop-i-smaller : goal.loop-i-smaller
loop-i-smaller c = let f = c.loop-i.invariant.fits in omega arith

pub loop-i-preserved : goal.loop-i-preserved
loop-i-preserved c =
    let given = c.args in
    let f = c.loop-i.invariant.fits in
    agree_word given.pool.now given.start given.name.now c.loop-i.i c.loop-i.invariant (omega arith)
    (λ k. omega (arith, c.type_inv.pool k)) (λ k. omega (arith, c.type_inv.name k))
    (sym c.word.ensures ∙ c.if-word.false ∙ c.word-in-loop-i.ensures)

pub returns : goal.returns
returns c = c.loop-i.invariant

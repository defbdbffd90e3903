-- `name_end` keeps: no byte passed so far ends the name (`Passed`). It leaves at the `;`, at an `&` that ends the search, or at the end.
use Rattle.tokens.proofs.Names.{passed_start, passed_over, passed_end, passed_amp, passed_byte}
use Rattle.tokens.proofs.name_end.Goals as goal

pub loop-i-init : goal.loop-i-init
loop-i-init c = passed_start c.args.inner c.args.text.now c.args.from c.requires

pub returns-then-text-i-eq59 : goal.returns-then-text-i-eq59
returns-then-text-i-eq59 c =
    let given = c.args in
    passed_end given.inner given.text.now c.loop-i.invariant c.loop-i-test.true c.if-text-i-eq59.true

pub returns-then-inner-text : goal.returns-then-inner-text
returns-then-inner-text c =
    let given = c.args in
    passed_amp given.inner given.text.now c.loop-i.invariant c.loop-i-test.true c.if-text-i-eq59.false c.if-inner-text.true

pub loop-i-preserved : goal.loop-i-preserved
loop-i-preserved c =
    let given = c.args in
    passed_byte given.inner given.text.now c.loop-i.invariant c.loop-i-test.true c.if-text-i-eq59.false c.if-inner-text.false

pub returns : goal.returns
returns c =
    let given = c.args in
    passed_over given.inner given.text.now c.loop-i.invariant c.loop-i-test.false

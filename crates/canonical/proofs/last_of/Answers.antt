-- `last_of`: a `;` at the end is that of a reference, or the character (`last_named_lem`); else the character stands there (`ends_as_is`). Assumes nothing.
use mathlib.Core.Path.{sym, ap, ◌∙◌}
use native.Mathlib.Omega.{arith}
use borrow.Author.Tests.{eq-eqb, ne_eqb}
use Rattle.canonical.specs.LastCharacter.{filled_up}
use Rattle.canonical.proofs.LastCharacter.{ending, form_some, ends_as_is, ends_raw, last_named_lem}
use Rattle.canonical.proofs.last_of.Goals as goal

pub overflow_sub-form : goal.overflow_sub-form
overflow_sub-form c = form_some c.requires

pub bounds-form-form : goal.bounds-form-form
bounds-form-form c = omega (arith, form_some c.requires)

pub returns-then-form-eq59 : goal.returns-then-form-eq59
returns-then-form-eq59 c rule value whole some is =
    let n = ending rule value c.args.form.now whole some is in
    c.named_hand.ensures ∙ ap (filled_up 4) (last_named_lem n (eq-eqb _ _ c.if-form-eq59.true)) ∙ sym n.last

pub raw_hand-requires : goal.raw_hand-requires
raw_hand-requires c =
    ends_raw (ending c.requires.rule c.requires.value c.args.form.now c.requires.whole c.requires.some c.requires.is) (ne_eqb _ _ c.if-form-eq59.false)

pub returns : goal.returns
returns c rule value whole some is =
    let n = ending rule value c.args.form.now whole some is in
    c.raw_hand.ensures n.front n.char n.single (ends_as_is n (ne_eqb _ _ c.if-form-eq59.false)) ∙ sym n.last

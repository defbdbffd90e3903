-- An empty form is of an empty value, which leaves the scratch (`hand_empty`); else the last character goes there (`handed_laid`).
use mathlib.Core.Path.{◌∙◌}
use Rattle.normalize.proofs.Hand.{hand_empty, hand_some, handed_laid}
use Rattle.normalize.proofs.put_last.Goals as goal

pub returns-then-form-eq0 : goal.returns-then-form-eq0
returns-then-form-eq0 c =
    let a = c.args in
    λ rule value w q. hand_empty a.form.now c.if-form-eq0.true rule value a.scratch.now q

pub put_hand-requires : goal.put_hand-requires
put_hand-requires c =
    record { form_of = c.requires.form_of c.if-form-eq0.false; in_bounds = c.requires.in_bounds }

pub returns : goal.returns
returns c =
    let a = c.args in
    λ rule value w q.
    let some = hand_some a.form.now c.if-form-eq0.false rule value q in
    c.put_hand.ensures rule value w some q ∙ handed_laid value a.scratch.now some

-- `inner_end`: the `;` that is found ends the name, where there is no `&` before it (`ended_inner`); else the plain search answers.
use Rattle.name_ends.proofs.Ended.{ended_inner}
use Rattle.name_ends.proofs.inner_end.Goals as goal

pub returns : goal.returns
returns c =
    let a = c.args in
    ended_inner a.text.now c.next_byte-end.ensures (c.may_have_amp.ensures c.if-may_have_amp.false)

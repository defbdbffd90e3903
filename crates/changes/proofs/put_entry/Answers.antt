-- `put_entry`: length, count and form, one after the other (`entry_laid`).
use Rattle.changes.proofs.Writing.{entry_laid}
use Rattle.changes.proofs.put_entry.Goals as goal

pub returns : goal.returns
returns c =
    let a = c.args in
    entry_laid a.form.now a.out.now c.put_u32.ensures c.put_u32-2.ensures c.put_run.ensures

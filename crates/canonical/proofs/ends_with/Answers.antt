-- `ends_with`: a form that is shorter ends with none of the bytes (`ends_short`), in another its end is compared (`ends_equal`). Assumes nothing.
use Rattle.std.proofs.Common.{◌∙◌, length}
use borrow.Author.Tests.{lt-leb}
use Rattle.canonical.proofs.LastCharacter.{ends_short, ends_equal}
use Rattle.canonical.proofs.ends_with.Goals as goal

pub returns-then-bytes-form : goal.returns-then-bytes-form
returns-then-bytes-form c = c.eq.ensures ∙ ends_equal c.args.bytes.now c.args.form.now c.if-bytes-form.true

pub returns-else-bytes-form : goal.returns-else-bytes-form
returns-else-bytes-form c =
    let s = c.args in
    lt-leb (length s.bytes.now) (length s.form.now) c.if-bytes-form.false ∙ ends_short s.bytes.now s.form.now c.if-bytes-form.false

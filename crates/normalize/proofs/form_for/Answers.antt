-- XML 1.1 by its flag.
use mathlib.Core.Path.{refl}
use borrow.Author.Tests.{lt-ltb, le-ltb}
use Rattle.normalize.proofs.form_for.Goals as goal

pub returns-then-version-gt1 : goal.returns-then-version-gt1
returns-then-version-gt1 c = rw (lt-ltb 1 c.args.version c.if-version-gt1.true) refl

pub returns-else-version-gt1 : goal.returns-else-version-gt1
returns-else-version-gt1 c = rw (le-ltb 1 c.args.version c.if-version-gt1.false) refl

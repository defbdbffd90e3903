use mathlib.Core.Path.{◌∙◌}
use borrow.Author.Tests.{lt-ltb, le-ltb}
use Rattle.attribute.specs.Checks.{settings_check}
use Rattle.attribute.proofs.check_settings.Goals as goal

pub returns-then-depth-gt128 : goal.returns-then-depth-gt128
unfolding settings_check
returns-then-depth-gt128 c = rw (lt-ltb 128 c.args.depth c.if-depth-gt128.true)

pub returns-then-limit-gt1000000 : goal.returns-then-limit-gt1000000
unfolding settings_check
returns-then-limit-gt1000000 c = rw (le-ltb 128 c.args.depth c.if-depth-gt128.false, lt-ltb 1000000 c.args.limit c.if-limit-gt1000000.true)

pub returns : goal.returns
unfolding settings_check
returns c =
    let a = c.args in
    c.check_version.ensures ∙ rw (le-ltb 128 a.depth c.if-depth-gt128.false, le-ltb 1000000 a.limit c.if-limit-gt1000000.false)

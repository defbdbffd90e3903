-- `charref::judge` judges a value: in each branch the tests of `judge` are decided by those that led there. Assumes nothing.
use mathlib.Core.Path.{◌≡◌, ◌∙◌}
use mathlib.Core.Bool.{false, ◌||◌}
use lib.Dec.{ltb}
use Rattle.charref.specs.CharRef.{judge}
use Rattle.text.specs.Bytes.{within}
use Rattle.text.proofs.Bytes.{inside, above, below}
use borrow.Author.Tests.{eq-eqb, ne_eqb, lt-ltb, le-ltb}
use native.Mathlib.Omega.{arith}
use Rattle.charref.proofs.judge.Goals as goal
use Rattle.charref.proofs.judge.Goals.{then-n-ge55296+else-n-le57343+else-n-gt1114111, else-n-ge55296}

pub returns-then-n-eq0 : goal.returns-then-n-eq0
unfolding judge
returns-then-n-eq0 c = rw (eq-eqb _ _ c.if-n-eq0.true)

pub returns-then-n-le57343 : goal.returns-then-n-le57343
unfolding judge
returns-then-n-le57343 c = let n = c.args.n in rw (ne_eqb n 0 c.if-n-eq0.false, inside 0xD800 0xDFFF n (omega arith) (omega arith))

pub returns-then-n-gt1114111 : goal.returns-then-n-gt1114111
unfolding judge
returns-then-n-gt1114111 c = let n = c.args.n in rw (ne_eqb n 0 c.if-n-eq0.false, above 0xD800 0xDFFF n (omega arith), lt-ltb 1114111 n (omega arith))

pub returns : goal.returns
unfolding judge
returns c =
    let n = c.args.n in
    let passes : within 0xD800 0xDFFF n || ltb 1114111 n ≡ false =
    elim c.if-n-ge55296.branch [
      | then-n-ge55296+else-n-le57343+else-n-gt1114111 w ↦ rw (above 0xD800 0xDFFF n (omega arith), le-ltb 1114111 n (omega arith))
      | else-n-ge55296 w ↦ rw (below 0xD800 0xDFFF n (omega arith), le-ltb 1114111 n (omega arith))
    ] in
    c.by_rule.ensures ∙ rw (ne_eqb n 0 c.if-n-eq0.false, passes)

-- `charref::digit` gives the digit's value: in each branch every range test of `digit_value` is decided by the tests that led there. Assumes nothing.
use Rattle.charref.specs.CharRef.{digit_value}
use Rattle.text.proofs.Bytes.{inside, above, below}
use native.Mathlib.Omega.{arith}
use Rattle.charref.proofs.digit.Goals as goal

pub returns-then-b-lt48 : goal.returns-then-b-lt48
unfolding digit_value
returns-then-b-lt48 c = let b = c.args.b in rw (below 48 57 b (omega arith), below 65 70 b (omega arith), below 97 102 b (omega arith))

pub returns-then-b-le57 : goal.returns-then-b-le57
unfolding digit_value
returns-then-b-le57 c = let b = c.args.b in rw (inside 48 57 b (omega arith) (omega arith))

pub returns-then-b-lt65 : goal.returns-then-b-lt65
unfolding digit_value
returns-then-b-lt65 c = let b = c.args.b in rw (above 48 57 b (omega arith), below 65 70 b (omega arith), below 97 102 b (omega arith))

pub returns-then-b-le70 : goal.returns-then-b-le70
unfolding digit_value
returns-then-b-le70 c = let b = c.args.b in rw (above 48 57 b (omega arith), inside 65 70 b (omega arith) (omega arith))

pub returns-then-b-lt97 : goal.returns-then-b-lt97
unfolding digit_value
returns-then-b-lt97 c = let b = c.args.b in rw (above 48 57 b (omega arith), above 65 70 b (omega arith), below 97 102 b (omega arith))

pub returns-then-b-le102 : goal.returns-then-b-le102
unfolding digit_value
returns-then-b-le102 c = let b = c.args.b in rw (above 48 57 b (omega arith), above 65 70 b (omega arith), inside 97 102 b (omega arith) (omega arith))

pub returns : goal.returns
unfolding digit_value
returns c = let b = c.args.b in rw (above 48 57 b (omega arith), above 65 70 b (omega arith), above 97 102 b (omega arith))
